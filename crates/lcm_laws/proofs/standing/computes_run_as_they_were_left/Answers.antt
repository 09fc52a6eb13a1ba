use Rattle.lcm_laws.proofs.PowerLaws.{runs_left}
use Rattle.lcm_laws.proofs.standing.computes_run_as_they_were_left.Goals as goal

pub returns : goal.returns
returns c = runs_left
