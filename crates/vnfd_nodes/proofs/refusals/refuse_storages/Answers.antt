-- One step of the loop.
use Rattle.std.proofs.Common.{arith}
use Rattle.std.proofs.lemmas.Grind.{common_steps}
use Rattle.vnfd_nodes.proofs.refusals.refuse_storages.Goals as goal

pub loop-vdu-preserved : goal.loop-vdu-preserved
loop-vdu-preserved c = grind (arith, common_steps)
