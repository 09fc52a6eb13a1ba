use Rattle.lcm_laws.proofs.OpenLaws.{open_of-begun}
use Rattle.lcm_laws.proofs.attempting.begun_attempts_are_open.Goals as goal

pub returns : goal.returns
returns c = open_of-begun
