-- A turn of the loop.
use Rattle.std.proofs.Common.{arith}
use Rattle.std.proofs.lemmas.Grind.{common_steps}
use Rattle.occ_table.proofs.used.Uses.copy.Goals as goal

pub loop-used-preserved : goal.loop-used-preserved
loop-used-preserved c = grind (arith, common_steps)
