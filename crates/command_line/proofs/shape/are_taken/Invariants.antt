-- Whether the pairs are taken is left to those that weren't looked at yet.
use Rattle.std.proofs.Common.{◌≡◌, length}
use Rattle.command_line.specs.Words.{are_taken}
use Rattle.command_line.proofs.shape.are_taken.Given as goal

abbrev pub invariant-loop-rest : goal.invariant-loop-rest
invariant-loop-rest l = are_taken l.fn.command l.fn.words ≡ are_taken l.fn.command l.rest

abbrev pub decreases-loop-rest : goal.decreases-loop-rest
decreases-loop-rest l = length l.rest
