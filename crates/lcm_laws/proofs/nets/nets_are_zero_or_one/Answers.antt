use Rattle.lcm_laws.proofs.NetLaws.{made_at_most_once}
use Rattle.lcm_laws.proofs.nets.nets_are_zero_or_one.Goals as goal

pub returns : goal.returns
returns c = made_at_most_once
