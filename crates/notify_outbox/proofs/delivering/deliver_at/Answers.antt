-- The notice is read, room is made sure of, it is posted, and that is recorded; or one of these ends the delivery.
use Rattle.std.proofs.Common.{◌≡◌, ◌∙◌, Err, Some, ap, refl, subst, sym, ℕ}
use Rattle.std.proofs.lemmas.Result.{err_from_is_err_and}
use Rattle.executor.specs.Managed.{MayRecord}
use Rattle.executor.specs.Room.{HasRoomFor}
use Rattle.executor.specs.Work.{Works, went}
use Rattle.journal_core.specs.Journal.{Ledger}
use Rattle.journal_records.specs.declared.limits.TheConstants.{MAX_FILE}
use Rattle.lcm_events.specs.declared.events.Event.{Event}
use Rattle.lcm_events.specs.declared.events.PostOutcome.{PostOutcome}
use Rattle.lcm_tables.specs.Tables.{HasRoom}
use Rattle.notice_table.specs.Queues.{first_waiting}
use Rattle.notify_outbox.specs.Dispatches.{posted_event}
use Rattle.notify_outbox.specs.Preparing.{TellsRoomBefore}
use Rattle.notify_outbox.proofs.DeliverLemmas.{held_unprepared, held_unread, may_record, ready_reserved, sent_broken, sent_well}
use Rattle.notify_outbox.proofs.DeliverLemmas.{works_reserved}
use Rattle.notify_outbox.proofs.NoticeLemmas.{waits_next}
use Rattle.notify_outbox.proofs.delivering.deliver_at.Goals as goal

pub returns-in_err-body-clause-delivers : goal.returns-in_err-body-clause-delivers
returns-in_err-body-clause-delivers g c = λ H ready waits.
    let err = err_from_is_err_and c.from_residual.result c.from_residual.ensures.1 in
    rw (err.1 ∙ ap Err err.2)
    (held_unread _ c.args.manager.now _ _ H c.args.subscription c.args.place c.in_err-body.field-0.0 _ _ waits
    (c.in_err-body.ensures.reads H ready waits) refl c.read_body.ensures.saved)

pub returns-in_err-prepare-clause-delivers : goal.returns-in_err-prepare-clause-delivers
returns-in_err-prepare-clause-delivers g c = λ H ready waits.
    let err = err_from_is_err_and c.from_residual-in_err-prepare.result c.from_residual-in_err-prepare.ensures.1 in
    let read = c.in_ok-body.ensures.reads H ready waits in
    let upon = c.works_add_up.ensures.leads c.args.site.now c.read_body.new.site _ H (went H) _ read.0 refl in
    let still = subst (λ (k : ℕ). first_waiting k H c.args.subscription ≡ Some c.args.place) (sym read.0.number) waits in
    rw (err.1 ∙ ap Err err.2, c.prepare.ensures.site)
    (held_unprepared _ _ _ _ _ H _ _ c.in_err-prepare.field-0.0 _ _ waits
    (works_reserved _ _ _ _ H _ _ read.0 c.prepare.ensures.ledger c.prepare.ensures.keeps) refl
    (ap (λ (l : Ledger). l.saved) c.prepare.ensures.ledger ∙ c.read_body.ensures.saved)
    (subst (λ (z : ℕ). TellsRoomBefore z c.args.now H c.args.subscription c.args.place (Err c.in_err-prepare.field-0.0))
    c.read_body.ensures.saved (c.in_err-prepare.ensures.room H upon still)))

pub record-requires-clause-may : goal.record-requires-clause-may
record-requires-clause-may g c =
    let it = c.requires.waits in
    let read = c.in_ok-body.ensures.reads it.0 it.1 it.2 in
    let upon = c.works_add_up.ensures.leads c.args.site.now c.read_body.new.site _ it.0 (went it.0) _ read.0 refl in
    let still = subst (λ (k : ℕ). first_waiting k it.0 c.args.subscription ≡ Some c.args.place) (sym read.0.number) it.2 in
    let here = subst (λ (l : Ledger). first_waiting l.manager it.0 c.args.subscription ≡ Some c.args.place)
    (sym c.prepare.ensures.ledger) still in (
      it.0,
      rw c.prepare.ensures.site (ready_reserved _ _ _ it.0 _ upon c.prepare.ensures.ledger c.prepare.ensures.keeps),
      subst (λ (e : Event). MayRecord c.prepare.new.manager.ledger.manager it.0 e) (sym c.posted-event.ensures)
          (may_record _ _ it.0 _ _ c.outcome_of-outcome.result here),
      subst (λ (l : Ledger). HasRoomFor MAX_FILE l.saved it.0 c.posted-event.result) (sym c.prepare.ensures.ledger)
          (subst (λ (e : Event). HasRoomFor MAX_FILE c.read_body.new.manager.ledger.saved it.0 e) (sym c.posted-event.ensures)
          (c.in_ok-prepare.ensures.room it.0 upon still c.outcome_of-outcome.result)),
    )

pub record-requires-clause-reserved : goal.record-requires-clause-reserved
record-requires-clause-reserved g c =
    subst (λ (e : Event). HasRoom e c.prepare.new.manager.tables) (sym c.posted-event.ensures)
    (c.in_ok-prepare.ensures.reserved c.outcome_of-outcome.result)

pub returns-in_err-record-clause-delivers : goal.returns-in_err-record-clause-delivers
returns-in_err-record-clause-delivers g c = λ H ready waits.
    let err = err_from_is_err_and c.from_residual-in_err-record.result c.from_residual-in_err-record.ensures.1 in
    let read = c.in_ok-body.ensures.reads H ready waits in
    let upon = c.works_add_up.ensures.leads c.args.site.now c.read_body.new.site _ H (went H) _ read.0 refl in
    let still = subst (λ (k : ℕ). first_waiting k H c.args.subscription ≡ Some c.args.place) (sym read.0.number) waits in
    let here = subst (λ (l : Ledger). first_waiting l.manager H c.args.subscription ≡ Some c.args.place)
    (sym c.prepare.ensures.ledger) still in
    let number = ap (λ (l : Ledger). l.manager) c.prepare.ensures.ledger ∙ read.0.number in
    let first : Works g.S.Site.tells c.args.manager.now.ledger.manager H (went H) c.prepare.new.manager (g.S.Site.state c.args.site.now)
    (g.S.Site.state c.prepare.new.site) =
    rw c.prepare.ensures.site (works_reserved _ _ _ _ H _ _ read.0 c.prepare.ensures.ledger c.prepare.ensures.keeps) in
    let later = c.works_add_up.ensures.leads c.args.site.now c.prepare.new.site _ H (went H) _ first refl in
    let same = c.posted-event.ensures ∙ ap (λ (how : PostOutcome). posted_event c.args.now c.args.subscription c.args.place how)
    c.outcome_of-outcome.ensures in
    let may = subst (λ (e : Event). MayRecord c.prepare.new.manager.ledger.manager H e) (sym c.posted-event.ensures)
    (may_record _ _ H _ _ c.outcome_of-outcome.result here) in
    let room = subst (λ (z : ℕ). HasRoomFor MAX_FILE z H c.posted-event.result) c.read_body.ensures.saved
    (subst (λ (e : Event). HasRoomFor MAX_FILE c.read_body.new.manager.ledger.saved H e) (sym c.posted-event.ensures)
    (c.in_ok-prepare.ensures.room H upon still c.outcome_of-outcome.result)) in
    let saved = c.record.ensures.saved ∙ (ap (λ (l : Ledger). l.saved) c.prepare.ensures.ledger ∙ c.read_body.ensures.saved) in
    rw (err.1 ∙ ap Err err.2)
    (sent_broken _ _ _ _ _ _ _ H _ _ c.post-answer.result c.in_ok-body.body c.posted-event.result c.in_err-record.field-0.0
    (g.S.Site.state c.prepare.new.site) _ _ number (c.record.ensures.only c.in_err-record.field-0.0 c.in_err-record.was) waits same first
    (c.in_err-record.ensures.works H later may) (c.works_add_up.ensures.joins c.args.site.now c.prepare.new.site c.record.new.site)
    read.1 (c.post-answer.ensures.posts H later.keeps (waits_next _ H _ _ waits).0) c.post-answer.ensures.cause saved room)

pub returns-clause-delivers : goal.returns-clause-delivers
returns-clause-delivers g c = λ H ready waits.
    let read = c.in_ok-body.ensures.reads H ready waits in
    let upon = c.works_add_up.ensures.leads c.args.site.now c.read_body.new.site _ H (went H) _ read.0 refl in
    let still = subst (λ (k : ℕ). first_waiting k H c.args.subscription ≡ Some c.args.place) (sym read.0.number) waits in
    let here = subst (λ (l : Ledger). first_waiting l.manager H c.args.subscription ≡ Some c.args.place)
    (sym c.prepare.ensures.ledger) still in
    let number = ap (λ (l : Ledger). l.manager) c.prepare.ensures.ledger ∙ read.0.number in
    let first : Works g.S.Site.tells c.args.manager.now.ledger.manager H (went H) c.prepare.new.manager (g.S.Site.state c.args.site.now)
    (g.S.Site.state c.prepare.new.site) =
    rw c.prepare.ensures.site (works_reserved _ _ _ _ H _ _ read.0 c.prepare.ensures.ledger c.prepare.ensures.keeps) in
    let later = c.works_add_up.ensures.leads c.args.site.now c.prepare.new.site _ H (went H) _ first refl in
    let same = c.posted-event.ensures ∙ ap (λ (how : PostOutcome). posted_event c.args.now c.args.subscription c.args.place how)
    c.outcome_of-outcome.ensures in
    let may = subst (λ (e : Event). MayRecord c.prepare.new.manager.ledger.manager H e) (sym c.posted-event.ensures)
    (may_record _ _ H _ _ c.outcome_of-outcome.result here) in
    let room = subst (λ (z : ℕ). HasRoomFor MAX_FILE z H c.posted-event.result) c.read_body.ensures.saved
    (subst (λ (e : Event). HasRoomFor MAX_FILE c.read_body.new.manager.ledger.saved H e) (sym c.posted-event.ensures)
    (c.in_ok-prepare.ensures.room H upon still c.outcome_of-outcome.result)) in
    let saved = c.record.ensures.saved ∙ (ap (λ (l : Ledger). l.saved) c.prepare.ensures.ledger ∙ c.read_body.ensures.saved) in
    rw (c.delivery_of.ensures, c.outcome_of-outcome.ensures)
    (sent_well _ _ _ _ _ _ _ H _ _ c.post-answer.result c.in_ok-body.body c.posted-event.result
    (g.S.Site.state c.prepare.new.site) _ _ number waits same first
    (c.in_ok-record.ensures.works H later may) (c.works_add_up.ensures.joins c.args.site.now c.prepare.new.site c.record.new.site)
    read.1 (c.post-answer.ensures.posts H later.keeps (waits_next _ H _ _ waits).0) c.post-answer.ensures.cause saved room)
