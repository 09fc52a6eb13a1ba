use Rattle.lcm_jobs.proofs.SoundLemmas.{one_job}
use Rattle.lcm_jobs.proofs.alternating.each_attempt_has_one_job.Goals as goal

pub returns : goal.returns
returns c = one_job
