use Rattle.std.proofs.Common.{arith}
use Rattle.std.proofs.lemmas.Grind.{common_steps}
use Rattle.instance_table.proofs.aims.replaced_of.Goals as goal

pub loop-aspect-preserved : goal.loop-aspect-preserved
loop-aspect-preserved c = grind (arith, common_steps)

pub returns : goal.returns
returns c = grind (arith, common_steps)
