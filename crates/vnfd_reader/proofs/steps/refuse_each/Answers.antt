-- A turn of the loop takes the first of those that are left.
use Rattle.std.proofs.Common.{arith}
use Rattle.std.proofs.lemmas.Grind.{common_steps}
use Rattle.vnfd_reader.proofs.steps.refuse_each.Goals as goal

pub loop-aim-preserved : goal.loop-aim-preserved
loop-aim-preserved c = grind (arith, common_steps)
