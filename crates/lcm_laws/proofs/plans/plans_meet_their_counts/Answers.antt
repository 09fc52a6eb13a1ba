use Rattle.lcm_laws.proofs.PlannedLaws.{counts_met}
use Rattle.lcm_laws.proofs.plans.plans_meet_their_counts.Goals as goal

pub returns : goal.returns
returns c = counts_met
