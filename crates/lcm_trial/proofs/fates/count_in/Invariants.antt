-- The rows before the place are counted.
use Rattle.std.proofs.Common.{◌≡◌, ◌≤◌, filter, length, take}
use Rattle.lcm_trial.specs.Trial.{row_came_out}
use Rattle.lcm_trial.proofs.fates.count_in.Given as goal

abbrev pub invariant-loop-place : goal.invariant-loop-place
invariant-loop-place l = (l.count ≡ length (filter (row_came_out l.fate) (take l.place l.fn.occurrences.rows))) × (l.count ≤ l.place)
