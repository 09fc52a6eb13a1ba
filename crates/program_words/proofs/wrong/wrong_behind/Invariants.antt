-- What is wrong first is left to the words behind those that were looked at.
use Rattle.std.proofs.Common.{◌≡◌, ◌≤◌, ◌-◌, drop, length, take}
use Rattle.program_words.specs.Wrong.{wrong_behind}
use Rattle.program_words.proofs.wrong.wrong_behind.Given as goal

abbrev pub invariant-loop-at : goal.invariant-loop-at
invariant-loop-at l = (1 ≤ l.at) × (l.at ≤ length l.words) × (wrong_behind l.fn.command (take 1 l.fn.words) (drop 1 l.fn.words)
    ≡ wrong_behind l.fn.command (take l.at l.fn.words) (drop l.at l.fn.words))

abbrev pub decreases-loop-at : goal.decreases-loop-at
decreases-loop-at l = length l.words - l.at
