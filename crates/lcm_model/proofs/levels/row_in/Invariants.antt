use Rattle.lcm_model.specs.Levels.{has_small_row, row_of}
use Rattle.std.proofs.Common.{drop, true, ◌≡◌}
use Rattle.std.specs.List.{list_all}
use Rattle.lcm_model.proofs.levels.row_in.Given as goal

abbrev pub invariant-loop-row : goal.invariant-loop-row
invariant-loop-row l = record {
  value : row_of l.vdu (drop l.row-index l.rows) ≡ row_of l.vdu l.rows;
  small : list_all has_small_row (drop l.row-index l.rows) ≡ true;
}
