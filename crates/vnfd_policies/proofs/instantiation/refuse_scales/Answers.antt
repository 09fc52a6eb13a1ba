-- A turn of the loop takes the first of those that are left.
use Rattle.std.proofs.Common.{arith}
use Rattle.std.proofs.lemmas.Grind.{common_steps}
use Rattle.vnfd_policies.proofs.instantiation.refuse_scales.Goals as goal

pub loop-scale-preserved : goal.loop-scale-preserved
loop-scale-preserved c = grind (arith, common_steps)
