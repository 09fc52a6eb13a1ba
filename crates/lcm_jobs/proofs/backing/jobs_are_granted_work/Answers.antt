use Rattle.lcm_jobs.proofs.WorkLemmas.{granted_work}
use Rattle.lcm_jobs.proofs.backing.jobs_are_granted_work.Goals as goal

pub returns : goal.returns
returns c = granted_work
