use Rattle.lcm_jobs.proofs.TurnLemmas.{stands_net}
use Rattle.lcm_jobs.proofs.standing.what_stands_is_the_net.Goals as goal

pub returns : goal.returns
returns c = stands_net
