use Rattle.lcm_laws.proofs.OpenLaws.{open_unsettled}
use Rattle.lcm_laws.proofs.attempting.open_attempts_have_not_ended.Goals as goal

pub returns : goal.returns
returns c = open_unsettled
