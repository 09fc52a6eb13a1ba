use Rattle.std.proofs.Common.{ℕ, ◌<◌}
use Rattle.old_journal.specs.Header.{MayStand}
use Rattle.old_journal.proofs.header.difference.Given as goal

-- the bytes so far may stand
abbrev pub invariant-loop-place : goal.invariant-loop-place
invariant-loop-place l = (k : ℕ) → k < l.place → MayStand k l.front
