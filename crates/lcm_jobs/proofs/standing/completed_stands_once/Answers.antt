use Rattle.lcm_jobs.proofs.TurnLemmas.{completed_stands}
use Rattle.lcm_jobs.proofs.standing.completed_stands_once.Goals as goal

pub returns : goal.returns
returns c = completed_stands
