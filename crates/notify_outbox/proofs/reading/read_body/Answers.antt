-- The event is read back, or not.
use Rattle.std.proofs.Common.{◌≡◌, ◌∙◌, Err, Some, ap, arith, subst, sym, ℕ}
use Rattle.std.proofs.lemmas.Result.{err_from_is_err_and}
use Rattle.notice_table.specs.Queues.{first_waiting}
use Rattle.notify_outbox.proofs.NoticeLemmas.{parted_within, waits_parted}
use Rattle.notify_outbox.proofs.ReadLemmas.{body_read, read_well, unread}
use Rattle.notify_outbox.proofs.reading.read_body.Goals as goal

pub event_at-requires-clause-some : goal.event_at-requires-clause-some
event_at-requires-clause-some g c = let it = c.requires.waits in (parted_within it.0 _ (waits_parted _ it.0 _ _ it.2)).0

pub event_at-requires-clause-within : goal.event_at-requires-clause-within
event_at-requires-clause-within g c =
    let it = c.requires.waits in
    let within = (parted_within it.0 _ (waits_parted _ it.0 _ _ it.2)).1 in
    let count = it.1.keeps.kept.count it.1.usable in
    omega (arith, within, count)

pub returns-in_err-event-clause-reads : goal.returns-in_err-event-clause-reads
returns-in_err-event-clause-reads g c = λ H ready waits.
    let err = err_from_is_err_and c.from_residual.result c.from_residual.ensures.1 in
    rw (err.1 ∙ ap Err err.2)
    (unread _ _ _ H c.args.subscription c.args.place c.event_at.result c.in_err-event.field-0.0 _ _
    c.in_err-event.was ready c.event_at.ensures.number (c.event_at.ensures.reads H ready)
    (c.event_at.ensures.ready H ready) c.event_at.ensures.keeps c.event_at.ensures.bad c.event_at.ensures.closed)

pub returns-clause-reads : goal.returns-clause-reads
returns-clause-reads g c = λ H ready waits.
    let again = c.event_at.ensures.ready H ready (λ e. read_well c.event_at.result _ _ c.in_ok-event.was e) in
    let same = c.event_at.ensures.number in
    let still = subst (λ (k : ℕ). first_waiting k H c.args.subscription ≡ Some c.args.place) (sym same) waits in
    body_read _ _ _ H _ _ c.body_of.result _ _ ready again same (λ told. (c.event_at.ensures.reads H ready told).reads)
    (λ told. (c.event_at.ensures.reads H ready told).jobs)
    (λ told. c.body_of.ensures.body H again.keeps still (c.in_ok-event.ensures.reads H ready told).event)
    (λ told. c.body_of.ensures.good H again.keeps still (c.in_ok-event.ensures.reads H ready told).event)
    c.body_of.ensures.bad c.body_of.ensures.disk c.body_of.ensures.full
