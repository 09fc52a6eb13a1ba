use Rattle.lcm_laws.proofs.NextLaws.{active_acts}
use Rattle.lcm_laws.proofs.acting.active_occurrences_act.Goals as goal

pub returns : goal.returns
returns c = active_acts
