-- A begin that was taken leaves nothing to record.
use Rattle.site_traits.specs.Moments.{keeps_refl}
use Rattle.occ_work.proofs.attempts.follow.Goals as goal

pub returns-in-Begun-clause-jobs : goal.returns-in-Begun-clause-jobs
returns-in-Begun-clause-jobs g c = λ told. keeps_refl _
