-- A turn of the loop takes the first of those that are left.
use Rattle.std.proofs.Common.{arith}
use Rattle.std.proofs.lemmas.Grind.{common_steps}
use Rattle.vnfd_policies.proofs.scaling.property_members.Goals as goal

pub loop-policy-preserved : goal.loop-policy-preserved
loop-policy-preserved c = grind (arith, common_steps)
