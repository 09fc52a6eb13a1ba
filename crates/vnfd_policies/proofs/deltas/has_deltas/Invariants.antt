-- Each step has a delta where each of those that are left has.
use Rattle.std.proofs.Common.{◌≡◌, map, drop}
use Rattle.std.specs.List.{list_all}
use Rattle.std.specs.Prelude.{is_some}
use Rattle.serde_json.specs.View.{view}
use Rattle.vnfd_policies.specs.Deltas.{step_delta}
use Rattle.vnfd_policies.proofs.deltas.has_deltas.Given as goal

abbrev pub invariant-loop-name : goal.invariant-loop-name
invariant-loop-name l =
    list_all (λ s. is_some (step_delta (view l.fn.deltas) s)) (map (λ v. view v.now) l.fn.names)
    ≡ list_all (λ s. is_some (step_delta (view l.deltas) s)) (map (λ v. view v.now) (drop l.name-index l.names))
