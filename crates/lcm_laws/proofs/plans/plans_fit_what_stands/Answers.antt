use Rattle.lcm_laws.proofs.PlannedLaws.{plan_fits}
use Rattle.lcm_laws.proofs.plans.plans_fit_what_stands.Goals as goal

pub returns : goal.returns
returns c = plan_fits
