-- The text is one of all where it is one of those that are left.
use Rattle.std.proofs.Common.{◌≡◌, map, drop}
use Rattle.std.specs.List.{list_any}
use Rattle.serde_json.specs.View.{view}
use Rattle.vnfd_policies.specs.Deltas.{are_same_text}
use Rattle.vnfd_policies.proofs.steps.is_among.Given as goal

abbrev pub invariant-loop-name : goal.invariant-loop-name
invariant-loop-name l =
    list_any (are_same_text (view l.fn.wanted)) (map (λ v. view v.now) l.fn.names)
    ≡ list_any (are_same_text (view l.wanted)) (map (λ v. view v.now) (drop l.name-index l.names))
