-- One step of the loop, and its end.
use Rattle.std.proofs.Common.{arith}
use Rattle.std.proofs.lemmas.Grind.{common_steps}
use Rattle.change_planner.proofs.plans.push_made.Goals as goal

pub loop-vdu-preserved : goal.loop-vdu-preserved
loop-vdu-preserved c = grind (arith, common_steps)

pub returns : goal.returns
returns c = grind (arith, common_steps)
