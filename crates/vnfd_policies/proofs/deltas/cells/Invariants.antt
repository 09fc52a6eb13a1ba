-- What was taken, and the cells of what is left, are the cells of all.
use Rattle.std.proofs.Common.{◌≡◌, ◌++◌, map, drop}
use Rattle.serde_json.specs.View.{view}
use Rattle.vnfd_document.specs.Seen.{seen}
use Rattle.vnfd_policies.specs.Cells.{cell}
use Rattle.vnfd_policies.specs.Deltas.{cells}
use Rattle.vnfd_policies.proofs.deltas.cells.Given as goal

abbrev pub invariant-loop-vdu : goal.invariant-loop-vdu
invariant-loop-vdu l =
    cells (map seen l.fn.vdus) (view l.fn.policy) ≡ map cell l.found.items ++ cells (map seen (drop l.vdu-index l.vdus)) (view l.policy)
