use Rattle.lcm_laws.proofs.OpenLaws.{open_of-ended}
use Rattle.lcm_laws.proofs.attempting.ended_attempts_are_not_open.Goals as goal

pub returns : goal.returns
returns c = open_of-ended
