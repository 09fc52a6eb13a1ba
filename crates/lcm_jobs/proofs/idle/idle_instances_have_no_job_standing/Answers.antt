use Rattle.lcm_jobs.proofs.IdleLemmas.{idle_stands}
use Rattle.lcm_jobs.proofs.idle.idle_instances_have_no_job_standing.Goals as goal

pub returns : goal.returns
returns c = idle_stands
