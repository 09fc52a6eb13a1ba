-- A turn of the loop.
use Rattle.std.proofs.Common.{arith}
use Rattle.std.proofs.lemmas.Grind.{common_steps}
use Rattle.lcm_model.proofs.grants.places_named.Goals as goal

pub loop-spot-preserved : goal.loop-spot-preserved
loop-spot-preserved c = grind (arith, common_steps)
