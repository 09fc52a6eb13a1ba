-- No byte before the place is a semicolon.
use Rattle.std.proofs.Common.{◌≡◌, ℕ, ◌-◌, ◌<◌, ◌≤◌, false, eqb, length, get_or}
use Rattle.lcm_api.proofs.media.first_semicolon.Given as goal

abbrev pub invariant-loop-place : goal.invariant-loop-place
invariant-loop-place l = (l.place ≤ length l.media) × ((k : ℕ) → k < l.place → eqb (get_or l.media k 0) 59 ≡ false)

abbrev pub decreases-loop-place : goal.decreases-loop-place
decreases-loop-place l = length l.media - l.place
