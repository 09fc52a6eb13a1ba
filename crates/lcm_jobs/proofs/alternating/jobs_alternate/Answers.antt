use Rattle.lcm_jobs.proofs.TurnLemmas.{alternate}
use Rattle.lcm_jobs.proofs.alternating.jobs_alternate.Goals as goal

pub returns : goal.returns
returns c = alternate
