-- The value is left to the pairs that weren't looked at yet.
use Rattle.std.proofs.Common.{◌≡◌, length}
use Rattle.command_line.specs.Words.{value_in}
use Rattle.command_line.proofs.shape.value_of.Given as goal

abbrev pub invariant-loop-rest : goal.invariant-loop-rest
invariant-loop-rest l = value_in l.fn.name l.fn.words ≡ value_in l.fn.name l.rest

abbrev pub decreases-loop-rest : goal.decreases-loop-rest
decreases-loop-rest l = length l.rest
