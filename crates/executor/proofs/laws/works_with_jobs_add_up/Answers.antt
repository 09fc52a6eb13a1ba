use Rattle.executor.proofs.WorkLemmas.{joined_with_jobs, opened_then, ready_again, with_jobs}
use Rattle.executor.proofs.laws.works_with_jobs_add_up.Goals as goal

pub returns-clause-joins : goal.returns-clause-joins
returns-clause-joins g c = λ a b d m H G w n o first second. joined_with_jobs _ m H G w n o _ _ _ first second

pub returns-clause-works : goal.returns-clause-works
returns-clause-works g c = λ a b m H w n works. with_jobs _ m H w n _ _ works

pub returns-clause-leads : goal.returns-clause-leads
returns-clause-leads g c = λ a b m H w n works fine. ready_again _ m H w n _ _ works.at_file fine

pub returns-clause-follows : goal.returns-clause-follows
returns-clause-follows g c = λ a b d told reads m H w n works start. opened_then _ m H w n _ _ _ told reads works start
