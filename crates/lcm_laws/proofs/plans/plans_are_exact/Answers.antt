use Rattle.lcm_laws.proofs.PlanMembers.{plan_exact}
use Rattle.lcm_laws.proofs.plans.plans_are_exact.Goals as goal

pub returns : goal.returns
returns c = plan_exact
