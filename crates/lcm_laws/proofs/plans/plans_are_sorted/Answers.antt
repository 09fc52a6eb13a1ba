use Rattle.lcm_laws.proofs.PlanOrder.{plan_sorted}
use Rattle.lcm_laws.proofs.plans.plans_are_sorted.Goals as goal

pub returns : goal.returns
returns c = plan_sorted
