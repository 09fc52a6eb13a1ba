use Rattle.lcm_laws.proofs.PlanOrder.{plan_distinct}
use Rattle.lcm_laws.proofs.plans.plans_are_distinct.Goals as goal

pub returns : goal.returns
returns c = plan_distinct
