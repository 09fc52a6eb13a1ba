-- The number is that of the definition.
use Rattle.std.proofs.Common.{refl}
use Rattle.lcm_trial.specs.Draws.{below}
use Rattle.lcm_trial.proofs.draws.below.Goals as goal

pub returns-clause-value : goal.returns-clause-value
unfolding below
returns-clause-value c = refl
