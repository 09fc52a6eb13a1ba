use Rattle.std.proofs.Common.{ℕ, ◌<◌}
use Rattle.journal_core.specs.Header.{MayStand}
use Rattle.journal_core.proofs.header.difference.Given as goal

-- the bytes so far may stand
abbrev pub invariant-loop-place : goal.invariant-loop-place
invariant-loop-place l = (k : ℕ) → k < l.place → MayStand k l.front
