use Rattle.lcm_laws.proofs.EndLaws.{completed_made}
use Rattle.lcm_laws.proofs.nets.completed_is_made.Goals as goal

pub returns : goal.returns
returns c = completed_made
