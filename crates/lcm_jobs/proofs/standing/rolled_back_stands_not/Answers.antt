use Rattle.lcm_jobs.proofs.TurnLemmas.{rolled_back_stands}
use Rattle.lcm_jobs.proofs.standing.rolled_back_stands_not.Goals as goal

pub returns : goal.returns
returns c = rolled_back_stands
