use Rattle.lcm_model.specs.Descriptors.{is_valid_row}
use Rattle.std.proofs.Common.{drop, ◌≡◌}
use Rattle.std.specs.List.{list_all}
use Rattle.lcm_model.proofs.valid.are_rows_valid.Given as goal

abbrev pub invariant-loop-row : goal.invariant-loop-row
invariant-loop-row l = list_all (is_valid_row l.vnfd l.steps) (drop l.row-index l.rows) ≡ list_all (is_valid_row l.vnfd l.steps) l.rows
