use Rattle.lcm_jobs.proofs.KeepLemmas.{sound_on}
use Rattle.lcm_jobs.proofs.keeping.jobs_may_end.Goals as goal

pub returns : goal.returns
returns c = sound_on
