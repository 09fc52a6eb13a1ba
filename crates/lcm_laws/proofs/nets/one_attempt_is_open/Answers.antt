use Rattle.lcm_laws.proofs.NetLaws.{one_open}
use Rattle.lcm_laws.proofs.nets.one_attempt_is_open.Goals as goal

pub returns : goal.returns
returns c = one_open
