use Rattle.lcm_laws.proofs.PlanHistory.{operation_planned}
use Rattle.lcm_laws.proofs.plans.operations_have_plans.Goals as goal

pub returns : goal.returns
returns c = operation_planned
