use Rattle.lcm_jobs.proofs.TurnLemmas.{at_most_once}
use Rattle.lcm_jobs.proofs.standing.changes_stand_at_most_once.Goals as goal

pub returns : goal.returns
returns c = at_most_once
