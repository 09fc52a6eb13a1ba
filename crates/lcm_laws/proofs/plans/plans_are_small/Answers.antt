use Rattle.lcm_laws.proofs.BoundLaws.{plans_small}
use Rattle.lcm_laws.proofs.plans.plans_are_small.Goals as goal

pub returns : goal.returns
returns c = plans_small
