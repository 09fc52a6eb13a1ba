-- What is refused before the append leaves the history, and behind the reservation the manager is as ready as before.
use Rattle.std.proofs.Common.{Err, ap, refl}
use Rattle.executor.specs.Managed.{KeepsOn, Managed, managed}
use Rattle.executor.proofs.CommitLemmas.{left_alone, may_put, put_works, ready_same, refused}
use Rattle.executor.proofs.FaultLemmas.{err_is, on_err}
use Rattle.executor.proofs.ManagerLemmas.{keeps_same}
use Rattle.executor.proofs.manager.Manager.commit.Goals as goal

pub returns-in_err-spell_within-clause-works : goal.returns-in_err-spell_within-clause-works
returns-in_err-spell_within-clause-works g c = λ H ready may.
    let m : Managed = managed c.self.inside.journal c.self.inside.tables in
    let begins = rw (← c.self.view_is) at ready in
    rw (← c.self.view_is) (refused _ m H _ _ _ _ (err_is _ _ c.from_residual.ensures.1)
    (λ is. c.in_err-spell_within.ensures.disk (ap Err is)) begins)

pub returns-in_err-reserve_for-clause-works : goal.returns-in_err-reserve_for-clause-works
returns-in_err-reserve_for-clause-works g c = λ H ready may.
    let m : Managed = managed c.self.inside.journal c.self.inside.tables in
    let n : Managed = managed c.self.inside.journal c.reserve_for.new.self in
    let begins = rw (← c.self.view_is) at ready in
    rw (← c.self.view_is, err_is _ _ c.from_residual-in_err-reserve_for.ensures.1)
    (left_alone _ m n H _ begins refl c.reserve_for.ensures.kept)

pub returns-clause-works : goal.returns-clause-works
returns-clause-works g c = λ H ready may.
    let m : Managed = managed c.self.inside.journal c.self.inside.tables in
    let n : Managed = managed c.self.inside.journal c.reserve_for.new.self in
    let begins = rw (← c.self.view_is) at ready in
    let allowed = rw (← c.self.view_is) at may in
    let works = c.append_and_follow.ensures.works H (ready_same _ m n H _ begins refl c.reserve_for.ensures.kept) (may_put _ H _ allowed) in
    rw (← c.self.view_is) (put_works _ _ H c.args.e.now _ _ _ _ works c.append_and_follow.ensures.jobs allowed.allowed allowed.unsettled)

pub returns-clause-keeps : goal.returns-clause-keeps
returns-clause-keeps g c =
    let m : Managed = managed c.self.inside.journal c.self.inside.tables in
    let n : Managed = managed c.self.inside.journal c.reserve_for.new.self in
    let after : Managed = managed c.append_and_follow.new.journal c.append_and_follow.new.tables in
    rw (← c.self.view_is) (on_err _ (KeepsOn n after) (KeepsOn m after)
    (λ on H keeps. on H (keeps_same m n refl c.reserve_for.ensures.kept H keeps)) c.append_and_follow.ensures.keeps)
