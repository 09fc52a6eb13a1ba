-- What the commit answered is what becomes of the descriptor.
use Rattle.std.proofs.Common.{◌≡◌, Result, subst, sym}
use Rattle.lcm_sessions.specs.Onboarding.{ended_by, judged_answer}
use Rattle.lcm_sessions.specs.Verdict.{verdict}
use Rattle.lcm_sessions.specs.declared.answer.Onboarded.{Onboarded}
use Rattle.lcm_sessions.specs.declared.answer.OnboardFault.{OnboardFault}
use Rattle.lcm_sessions.proofs.VerdictLemmas.{err_is, may_record, recorded_done, recorded_not, works_as}
use Rattle.lcm_sessions.proofs.judge.take_in.Goals as goal

pub record_event-recorded-requires : goal.record_event-recorded-requires
record_event-recorded-requires g c =
    let ready = c.requires.ready in (
      ready.0,
      ready.1,
      may_record _ _ c.args.now c.in_ok-vnfd.vnfd _ c.onboarding-event.ensures
          (c.in_ok-vnfd.ensures.judged ready.0 ready.1.keeps).1,
    )

pub returns-in_err-recorded-clause-answer : goal.returns-in_err-recorded-clause-answer
returns-in_err-recorded-clause-answer g c = λ H keeps.
    let judged = c.in_ok-vnfd.ensures.judged H keeps in
    let v = verdict c.args.manager.now.ledger.saved H c.args.now c.args.bytes.now in
    let is = recorded_not _ H c.args.now c.in_ok-vnfd.vnfd c.onboarding-event.result v c.in_err-recorded.field-0.0
    c.onboarding-event.ensures
    (judged.0 c.args.manager.now.ledger.saved c.args.now) (c.in_err-recorded.ensures.room H keeps) in
    let P : Result Onboarded OnboardFault → Type 0 = λ r. r ≡ judged_answer v (ended_by r) in
    subst P (sym (err_is c.from_residual-in_err-recorded.result _ c.from_residual-in_err-recorded.ensures.1)) is.answer_is

pub returns-in_err-recorded-clause-works : goal.returns-in_err-recorded-clause-works
returns-in_err-recorded-clause-works g c = λ H ready.
    let judged = c.in_ok-vnfd.ensures.judged H ready.keeps in
    let v = verdict c.args.manager.now.ledger.saved H c.args.now c.args.bytes.now in
    let is = recorded_not _ H c.args.now c.in_ok-vnfd.vnfd c.onboarding-event.result v c.in_err-recorded.field-0.0
    c.onboarding-event.ensures
    (judged.0 c.args.manager.now.ledger.saved c.args.now) (c.in_err-recorded.ensures.room H ready.keeps) in
    rw (err_is c.from_residual-in_err-recorded.result _ c.from_residual-in_err-recorded.ensures.1)
    (works_as _ _ H _ _ _ _ _ is.work_is (c.in_err-recorded.ensures.works H ready
    (may_record _ _ c.args.now c.in_ok-vnfd.vnfd _ c.onboarding-event.ensures judged.1)))

pub returns-clause-answer : goal.returns-clause-answer
returns-clause-answer g c = λ H keeps.
    let judged = c.in_ok-vnfd.ensures.judged H keeps in
    rw c.said_of-said.ensures
    (recorded_done _ H c.args.now c.in_ok-vnfd.vnfd (verdict c.args.manager.now.ledger.saved H c.args.now c.args.bytes.now)
    (judged.0 c.args.manager.now.ledger.saved c.args.now)
    (rw c.onboarding-event.ensures at (c.in_ok-recorded.ensures.room H keeps))).answer_is

pub returns-clause-works : goal.returns-clause-works
returns-clause-works g c = λ H ready.
    let judged = c.in_ok-vnfd.ensures.judged H ready.keeps in
    works_as _ _ H _ _ _ _ _
    (recorded_done _ H c.args.now c.in_ok-vnfd.vnfd (verdict c.args.manager.now.ledger.saved H c.args.now c.args.bytes.now)
    (judged.0 c.args.manager.now.ledger.saved c.args.now)
    (rw c.onboarding-event.ensures at (c.in_ok-recorded.ensures.room H ready.keeps))).work_is
    (rw c.onboarding-event.ensures at (c.in_ok-recorded.ensures.works H ready
    (may_record _ _ c.args.now c.in_ok-vnfd.vnfd _ c.onboarding-event.ensures judged.1)))
