use Rattle.lcm_jobs.proofs.KeepLemmas.{sound_more}
use Rattle.lcm_jobs.proofs.keeping.fitting_events_may_come.Goals as goal

pub returns : goal.returns
returns c = sound_more
