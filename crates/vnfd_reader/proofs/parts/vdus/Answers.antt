-- A turn of the loop takes the first of those that are left.
use Rattle.std.proofs.Common.{arith}
use Rattle.std.proofs.lemmas.Grind.{common_steps}
use Rattle.vnfd_reader.proofs.parts.vdus.Goals as goal

pub loop-template-preserved : goal.loop-template-preserved
loop-template-preserved c = grind (arith, common_steps)
