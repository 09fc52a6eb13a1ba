-- A turn of the loop.
use Rattle.std.proofs.Common.{arith}
use Rattle.std.proofs.lemmas.Grind.{common_steps}
use Rattle.instance_table.proofs.copies.copied_levels.Goals as goal

pub loop-level-preserved : goal.loop-level-preserved
loop-level-preserved c = grind (arith, common_steps)
