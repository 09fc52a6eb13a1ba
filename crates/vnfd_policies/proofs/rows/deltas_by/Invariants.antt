-- What was found, and the deltas of the steps that are left, are those of all.
use Rattle.std.proofs.Common.{◌≡◌, ◌++◌, map, drop, option_map}
use Rattle.serde_json.specs.View.{items_view, view}
use Rattle.vnfd_document.specs.Json.{items_in}
use Rattle.vnfd_policies.specs.Rows.{delta_in}
use Rattle.vnfd_policies.proofs.rows.deltas_by.Given as goal

abbrev pub invariant-loop-name : goal.invariant-loop-name
invariant-loop-name l =
    map (delta_in (option_map (λ v. view v.now) l.fn.deltas)) (items_in (items_view l.fn.names))
    ≡ l.found.items ++ map (delta_in (option_map (λ v. view v.now) l.deltas)) (items_in (items_view (drop l.name-index l.names)))
