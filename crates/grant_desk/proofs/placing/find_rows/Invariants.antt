-- The places found by the rows so far.
use Rattle.std.proofs.Common.{take}
use Rattle.grant_desk.specs.Placing.{FoundByRows}
use Rattle.grant_desk.proofs.placing.find_rows.Given as goal

abbrev pub invariant-loop-row : goal.invariant-loop-row
invariant-loop-row l = FoundByRows l.part (take l.row-index l.rows) l.changes l.fn.found l.found
