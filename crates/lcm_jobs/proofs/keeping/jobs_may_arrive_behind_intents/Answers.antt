use Rattle.lcm_jobs.proofs.KeepLemmas.{sound_begun}
use Rattle.lcm_jobs.proofs.keeping.jobs_may_arrive_behind_intents.Goals as goal

pub returns : goal.returns
returns c = sound_begun
