-- Where the job goes on, or nobody was reached, nothing is recorded.
use Rattle.site_traits.specs.Moments.{keeps_refl}
use Rattle.occ_work.proofs.attempts.settle.Goals as goal

pub returns-in-Running-clause-jobs : goal.returns-in-Running-clause-jobs
returns-in-Running-clause-jobs g c = λ told. keeps_refl _

pub returns-in-Failed-clause-jobs : goal.returns-in-Failed-clause-jobs
returns-in-Failed-clause-jobs g c = λ told. keeps_refl _
