use Rattle.lcm_jobs.proofs.KeepLemmas.{fresh_job}
use Rattle.lcm_jobs.proofs.keeping.new_attempts_have_no_job.Goals as goal

pub returns : goal.returns
returns c = fresh_job
