use Rattle.lcm_laws.proofs.SerialLaws.{serials_counted}
use Rattle.lcm_laws.proofs.serials.serials_are_counted.Goals as goal

pub returns : goal.returns
returns c = serials_counted
