-- One of all cells is taken where one of those that are left is.
use Rattle.std.proofs.Common.{◌≡◌, map, drop}
use Rattle.std.specs.List.{list_any}
use Rattle.vnfd_policies.specs.Cells.{cell}
use Rattle.vnfd_policies.specs.Deltas.{is_cell_in}
use Rattle.vnfd_policies.proofs.deltas.is_any_taken.Given as goal

abbrev pub invariant-loop-cell : goal.invariant-loop-cell
invariant-loop-cell l =
    list_any (is_cell_in (map cell l.fn.taken)) (map cell l.fn.cells)
    ≡ list_any (is_cell_in (map cell l.taken)) (map cell (drop l.cell-index l.cells))
