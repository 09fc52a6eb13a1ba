-- A turn of the loop takes the first of those that are left.
use Rattle.std.proofs.Common.{arith}
use Rattle.std.proofs.lemmas.Grind.{common_steps}
use Rattle.vnfd_policies.proofs.deltas.refuse_each.Goals as goal

pub returns-in_err-refuse_policy : goal.returns-in_err-refuse_policy
returns-in_err-refuse_policy c = grind (arith, common_steps)

pub returns-in_err-take_cells : goal.returns-in_err-take_cells
returns-in_err-take_cells c = grind (arith, common_steps)

pub returns : goal.returns
returns c = grind (arith, common_steps)

pub loop-policy-preserved : goal.loop-policy-preserved
loop-policy-preserved c = grind (arith, common_steps)
