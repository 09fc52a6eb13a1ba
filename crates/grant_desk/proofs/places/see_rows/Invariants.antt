-- The places seen so far with those of the rows that are left are all.
use Rattle.std.proofs.Common.{◌≡◌, ◌≤◌, length, take, drop}
use Rattle.grant_desk.specs.Seen.{with_rows}
use Rattle.grant_desk.proofs.places.see_rows.Given as goal

abbrev pub invariant-loop-row : goal.invariant-loop-row
invariant-loop-row l =
    (l.count ≤ length l.room) × (length l.room ≡ length l.fn.room)
    × (with_rows (take l.fn.seen l.fn.room) l.fn.rows ≡ with_rows (take l.count l.room) (drop l.row-index l.rows))
