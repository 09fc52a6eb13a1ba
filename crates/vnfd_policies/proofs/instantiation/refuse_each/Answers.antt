-- A turn of the loop takes the first of those that are left.
use Rattle.std.proofs.Common.{arith}
use Rattle.std.proofs.lemmas.Grind.{common_steps}
use Rattle.vnfd_policies.proofs.instantiation.refuse_each.Goals as goal

pub loop-level-preserved : goal.loop-level-preserved
loop-level-preserved c = grind (arith, common_steps)
