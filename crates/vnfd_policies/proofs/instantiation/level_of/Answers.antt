-- A turn of the loop takes the first of those that are left.
use Rattle.std.proofs.Common.{arith}
use Rattle.std.proofs.lemmas.Grind.{common_steps}
use Rattle.vnfd_policies.proofs.instantiation.level_of.Goals as goal

pub loop-aspect-preserved : goal.loop-aspect-preserved
loop-aspect-preserved c = grind (arith, common_steps)
