use Rattle.lcm_laws.proofs.AskLaws.{runs-compute}
use Rattle.lcm_laws.proofs.standing.what_runs_is_a_compute_that_stands.Goals as goal

pub returns : goal.returns
returns c = runs-compute
