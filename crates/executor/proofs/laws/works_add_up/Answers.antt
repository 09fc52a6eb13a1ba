use Rattle.site_traits.specs.Moments.{keeps_refl}
use Rattle.executor.proofs.WorkLemmas.{everywhere, idle, joined, opened_jobs, ready_again, file_of}
use Rattle.executor.proofs.laws.works_add_up.Goals as goal

pub returns-clause-joins : goal.returns-clause-joins
returns-clause-joins g c = λ a b d m H G w n o first second. joined _ m H G w n o _ _ _ first second

pub returns-clause-idles : goal.returns-clause-idles
returns-clause-idles g c = λ s m H ready. idle _ m H _ ready

pub returns-clause-leads : goal.returns-clause-leads
returns-clause-leads g c = λ a b m H w n works fine. ready_again _ m H w n _ _ (file_of _ m H w n _ _ works) fine

pub returns-clause-stays : goal.returns-clause-stays
returns-clause-stays g c = λ s m H stands. everywhere m H _ stands

pub returns-clause-jobs : goal.returns-clause-jobs
returns-clause-jobs g c = λ a b d told reads. opened_jobs _ _ _ _ told reads

pub returns-clause-idle_jobs : goal.returns-clause-idle_jobs
returns-clause-idle_jobs g c = λ s. keeps_refl _
