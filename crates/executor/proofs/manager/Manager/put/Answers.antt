-- What is refused before the append leaves the history.
use Rattle.std.proofs.Common.{Err, ap}
use Rattle.executor.specs.Managed.{Managed, managed}
use Rattle.executor.proofs.CommitLemmas.{refused}
use Rattle.executor.proofs.FaultLemmas.{err_is}
use Rattle.executor.proofs.WorkLemmas.{file_of}
use Rattle.site_traits.specs.Moments.{keeps_refl}
use Rattle.executor.proofs.manager.Manager.put.Goals as goal

pub returns-in_err-spell_within-clause-works : goal.returns-in_err-spell_within-clause-works
returns-in_err-spell_within-clause-works g c = λ H ready may.
    let m : Managed = managed c.self.inside.journal c.self.inside.tables in
    let begins = rw (← c.self.view_is) at ready in
    rw (← c.self.view_is) (file_of _ _ H _ _ _ _ (refused _ m H _ _ _ _ (err_is _ _ c.from_residual.ensures.1)
    (λ is. c.in_err-spell_within.ensures.disk (ap Err is)) begins))

pub returns-in_err-spell_within-clause-jobs : goal.returns-in_err-spell_within-clause-jobs
returns-in_err-spell_within-clause-jobs g c = λ told. keeps_refl _

pub returns-clause-keeps : goal.returns-clause-keeps
returns-clause-keeps g c = rw (← c.self.view_is) c.append_and_follow.ensures.keeps
