-- Turns and ends that the search closes late.
use Rattle.std.proofs.Common.{arith}
use Rattle.std.proofs.lemmas.Grind.{common_steps}
use Rattle.old_journal.proofs.marks.Marks.near.Goals as goal

pub returns-clause-before : goal.returns-clause-before
returns-clause-before c = grind (arith, common_steps)

pub returns-clause-near : goal.returns-clause-near
returns-clause-near c = grind (arith, common_steps)
