-- The counts are those of the rows so far.
use Rattle.std.proofs.Common.{◌≡◌, length, take}
use Rattle.grant_desk.specs.Tallies.{AreTallied}
use Rattle.grant_desk.proofs.tallies.count_rows.Given as goal

abbrev pub invariant-loop-row : goal.invariant-loop-row
invariant-loop-row l = (length l.counts ≡ length l.fn.counts) × AreTallied (take l.row-index l.rows) l.first l.counts
