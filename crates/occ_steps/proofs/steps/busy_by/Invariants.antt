use Rattle.std.proofs.Common.{◌≡◌, ◌<◌, ℕ, false, get_or, length, take}
use Rattle.occ_table.specs.Steps.{has_open_at}
use Rattle.occ_steps.proofs.steps.busy_by.Given as goal

-- those are busy at which one of the attempts so far is open
abbrev pub invariant-loop-attempt : goal.invariant-loop-attempt
invariant-loop-attempt l = record {
  whole : length l.busy ≡ 5000;
  marked : (c : ℕ) → c < 5000 → get_or l.busy c false ≡ has_open_at c (take l.attempt-index l.pending);
}
