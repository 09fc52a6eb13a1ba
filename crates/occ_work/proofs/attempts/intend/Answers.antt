-- The intent is put, for which no notice is laid aside.
use Rattle.std.proofs.Common.{◌∙◌, Err, ap, refl}
use Rattle.std.proofs.lemmas.Result.{err_from_is_err_and}
use Rattle.executor.specs.Managed.{MayRecord}
use Rattle.occ_work.proofs.AttemptLemmas.{kept_idle, ok_anyhow, ready_kept}
use Rattle.occ_work.proofs.FitLemmas.{attempts_fit, never_long}
use Rattle.occ_work.proofs.TagLemmas.{attempt_recorded}
use Rattle.occ_work.proofs.attempts.intend.Goals as goal

pub returns-in_err-reserve_for-clause-works : goal.returns-in_err-reserve_for-clause-works
returns-in_err-reserve_for-clause-works g c = λ H ready may.
    let err = err_from_is_err_and c.from_residual.result c.from_residual.ensures.1 in
    rw (err.1 ∙ ap Err err.2) (kept_idle _ _ _ H _ ready c.in_err-reserve_for.ensures.ledger c.in_err-reserve_for.ensures.keeps)

pub put_unsettled-requires-clause-may : goal.put_unsettled-requires-clause-may
put_unsettled-requires-clause-may g c =
    let it = c.requires.may in
    let same = c.in_ok-reserve_for.ensures.ledger in
    let again = ready_kept _ _ _ it.0 _ it.1 same c.in_ok-reserve_for.ensures.keeps in (
      it.0,
      again,
      attempt_recorded _ it.0 c.event_of-intent.result again.keeps.kept.events
          (rw c.event_of-intent.ensures it.2) (rw c.event_of-intent.ensures refl) (rw c.event_of-intent.ensures refl),
    )

pub returns-clause-works : goal.returns-clause-works
returns-clause-works g c = λ H ready may.
    let is = c.event_of-intent.ensures in
    let same = c.in_ok-reserve_for.ensures.ledger in
    let again = ready_kept _ _ _ H _ ready same c.in_ok-reserve_for.ensures.keeps in
    let put : MayRecord _ H c.event_of-intent.result =
    attempt_recorded _ H c.event_of-intent.result again.keeps.kept.events (rw is may) (rw is refl) (rw is refl) in
    rw (is, same) at (c.put_unsettled.ensures.works H again put)

pub returns-clause-quiet : goal.returns-clause-quiet
returns-clause-quiet g c = ok_anyhow _ _ (c.put_unsettled.ensures.intent c.args.tag.now (rw c.event_of-intent.ensures refl))

pub returns-clause-short : goal.returns-clause-short
returns-clause-short g c = λ n is.
    let it = c.requires.may in
    let e = c.event_of-intent.result in
    let fits = attempts_fit e.moment e.kind c.put_unsettled.ensures.event (rw c.event_of-intent.ensures refl) in
    never_long _ it.0 e c.put_unsettled.result n fits
    (c.put_unsettled.ensures.room it.0 (c.in_ok-reserve_for.ensures.keeps it.0 it.1.keeps)) is
