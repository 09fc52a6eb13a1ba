-- The changes that are left are those from the first on, and what they say is what all say.
use Rattle.std.proofs.Common.{◌≡◌, ◌+◌, length}
use Rattle.grant_desk.specs.Tallies.{are_named_once}
use Rattle.grant_desk.proofs.tallies.are_named_once.Given as goal

abbrev pub invariant-loop-left : goal.invariant-loop-left
invariant-loop-left l =
    (l.first + length l.left ≡ length l.changes)
    × (are_named_once l.part l.rows 0 l.changes ≡ are_named_once l.part l.rows l.first l.left)
    × (length l.counts ≡ length l.fn.counts)

abbrev pub decreases-loop-left : goal.decreases-loop-left
decreases-loop-left l = length l.left
