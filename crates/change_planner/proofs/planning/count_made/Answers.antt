-- A turn of the loop takes the first of those that are left.
use Rattle.std.proofs.Common.{arith}
use Rattle.std.proofs.lemmas.Grind.{common_steps}
use Rattle.change_planner.proofs.planning.count_made.Goals as goal

pub loop-vdu-preserved : goal.loop-vdu-preserved
loop-vdu-preserved c = grind (arith, common_steps)
