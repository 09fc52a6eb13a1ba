use Rattle.lcm_jobs.proofs.SoundLemmas.{running_open}
use Rattle.lcm_jobs.proofs.alternating.running_jobs_are_open.Goals as goal

pub returns : goal.returns
returns c = running_open
