use Rattle.std.proofs.Common.{◌≡◌, ◌≤◌, ℕ, get_or, true, false}
use Rattle.rollback_plan.proofs.next_free_undo.Given as goal

-- each number that was passed has another net than 1, or is busy
abbrev pub invariant-loop-number : goal.invariant-loop-number
invariant-loop-number l = (k : ℕ) → k ≤ l.lead → l.number ≤ k → get_or l.nets k 0 ≡ 1 → get_or l.busy k false ≡ true
