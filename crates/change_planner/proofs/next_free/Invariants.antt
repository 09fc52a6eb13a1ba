use Rattle.std.proofs.Common.{◌≡◌, ◌≤◌, ◌<◌, ℕ, get_or, true, false}
use Rattle.change_planner.proofs.next_free.Given as goal

-- each number that was passed has another net than 0, or is busy
abbrev pub invariant-loop-number : goal.invariant-loop-number
invariant-loop-number l = (k : ℕ) → l.lead ≤ k → k < l.number → get_or l.nets k 0 ≡ 0 → get_or l.busy k false ≡ true
