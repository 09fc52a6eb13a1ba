-- The cell is among all that are taken where it is among those that are left.
use Rattle.std.proofs.Common.{◌≡◌, map, drop}
use Rattle.vnfd_policies.specs.Cells.{cell}
use Rattle.vnfd_policies.specs.Deltas.{is_cell_in}
use Rattle.vnfd_policies.proofs.deltas.is_taken.Given as goal

abbrev pub invariant-loop-other : goal.invariant-loop-other
invariant-loop-other l =
    is_cell_in (map cell l.fn.taken) (cell l.fn.wanted) ≡ is_cell_in (map cell (drop l.other-index l.taken)) (cell l.wanted)
