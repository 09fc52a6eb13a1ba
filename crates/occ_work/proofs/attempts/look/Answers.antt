-- The infrastructure is asked, and what was told is recorded.
use Rattle.std.proofs.Common.{◌∙◌, Err, ap}
use Rattle.std.proofs.lemmas.Result.{err_from_is_err_and}
use Rattle.journal_core.specs.Journal.{Ledger}
use Rattle.site_traits.specs.Jobs.{Advances}
use Rattle.occ_work.proofs.AttemptLemmas.{inquired_attempt, kept_idle, look_legal, look_open, looks_starving, ready_kept, starved_attempt}
use Rattle.occ_work.proofs.BeginLemmas.{ready_on}
use Rattle.occ_work.proofs.InquireLemmas.{disk_behind}
use Rattle.occ_work.proofs.attempts.look.Goals as goal

pub returns-in_err-reserve_for-clause-attempts : goal.returns-in_err-reserve_for-clause-attempts
returns-in_err-reserve_for-clause-attempts g c = λ H ready is next.
    let err = err_from_is_err_and c.from_residual.result c.from_residual.ensures.1 in
    rw (err.1 ∙ ap Err err.2)
    (starved_attempt _ c.args.manager.now _ H _ _ _ _ _ next (looks_starving c.args.aborts _)
    (kept_idle _ _ _ H _ ready c.in_err-reserve_for.ensures.ledger c.in_err-reserve_for.ensures.keeps)
    (ap (λ (l : Ledger). l.saved) c.in_err-reserve_for.ensures.ledger))

pub inquire-answer-requires-clause-usable : goal.inquire-answer-requires-clause-usable
inquire-answer-requires-clause-usable g c =
    let it = c.requires.ready in
    (ready_kept _ _ _ it.0 _ it.1 c.in_ok-reserve_for.ensures.ledger c.in_ok-reserve_for.ensures.keeps).usable

pub inquire-answer-requires-clause-active : goal.inquire-answer-requires-clause-active
inquire-answer-requires-clause-active g c =
    let it = c.requires.ready in
    (it.0, (ready_kept _ _ _ it.0 _ it.1 c.in_ok-reserve_for.ensures.ledger c.in_ok-reserve_for.ensures.keeps).keeps, it.2)

pub settle-requires-clause-may : goal.settle-requires-clause-may
settle-requires-clause-may g c =
    let it = c.requires.ready in
    let kept = ready_kept _ _ _ it.0 _ it.1 c.in_ok-reserve_for.ensures.ledger c.in_ok-reserve_for.ensures.keeps in
    let asks = c.inquire-answer.ensures.asks it.0 kept.keeps it.2 in (
      it.0,
      ready_on _ Advances _ it.0 _ _ kept asks.2.calls,
      look_open c.next_actions_are_allowed.ensures c.args.aborts c.args.manager.now.ledger.manager it.0 _ _ it.1.keeps.kept.legal it.2 it.3,
    )

pub returns-clause-attempts : goal.returns-clause-attempts
returns-clause-attempts g c = λ H ready is next.
    let legal = ready.keeps.kept.legal in
    let same = c.in_ok-reserve_for.ensures.ledger in
    let kept = ready_kept _ _ _ H _ ready same c.in_ok-reserve_for.ensures.keeps in
    let asks = c.inquire-answer.ensures.asks H kept.keeps is in
    let behind = ready_on _ Advances _ H _ _ kept asks.2.calls in
    let going = look_open c.next_actions_are_allowed.ensures c.args.aborts c.args.manager.now.ledger.manager H _ _ legal is next in
    inquired_attempt _ _ _ _ H _ c.args.aborts asks.0 _ c.inquire-answer.result _ _ _ _ _ _ _ _ _ _ next asks.1
    (look_legal c.next_actions_are_allowed.ensures c.args.aborts _ c.args.now H _ _ c.inquire-answer.result legal is next)
    (ap (λ (l : Ledger). l.manager) same) kept asks.2
    (rw same at (c.settle.ensures.puts H behind going)) c.settle.ensures.jobs
    c.settle.ensures.memory c.settle.ensures.ended c.settle.ensures.disk

pub returns-clause-disk : goal.returns-clause-disk
returns-clause-disk g c = disk_behind _ _ _ _ c.inquire-answer.ensures.disk c.settle.ensures.disk
