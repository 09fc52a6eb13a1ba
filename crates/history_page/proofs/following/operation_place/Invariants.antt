-- What is left is between the two ends.
use Rattle.std.proofs.Common.{◌-◌, ◌≤◌, length}
use Rattle.history_page.proofs.following.operation_place.Given as goal

abbrev pub invariant-halves : goal.invariant-halves
invariant-halves l = (l.low ≤ l.high) × (l.high ≤ length l.stories)

abbrev pub decreases-halves : goal.decreases-halves
decreases-halves l = l.high - l.low
