-- Turns and ends that the search closes late.
use Rattle.std.proofs.Common.{arith}
use Rattle.std.proofs.lemmas.Grind.{common_steps}
use Rattle.site_traits.proofs.past.latest.Goals as goal

pub loop-k-init : goal.loop-k-init
loop-k-init c = grind (arith, common_steps)

pub loop-k-preserved : goal.loop-k-preserved
loop-k-preserved c = grind (arith, common_steps)
