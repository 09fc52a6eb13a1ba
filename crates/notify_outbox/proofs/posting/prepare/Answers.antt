-- There is room for every outcome where there is for one.
use Rattle.std.proofs.Common.{subst}
use Rattle.journal_core.specs.Journal.{Ledger}
use Rattle.lcm_events.specs.declared.events.Event.{Event}
use Rattle.lcm_events.specs.declared.events.PostOutcome.TheVariants.{Delivered}
use Rattle.notify_outbox.specs.Dispatches.{posted_event}
use Rattle.notify_outbox.specs.Preparing.{TellsRoomOf}
use Rattle.notify_outbox.proofs.RoomLemmas.{room_before}
use Rattle.notify_outbox.proofs.posting.prepare.Goals as goal

pub returns-clause-room : goal.returns-clause-room
returns-clause-room g c = λ H ready waits.
    room_before c.records_add_up.ensures.adds _ c.args.now H c.args.subscription c.args.place c.has_room.result
    (subst (λ (l : Ledger). TellsRoomOf l.saved H (posted_event c.args.now c.args.subscription c.args.place Delivered) c.has_room.result)
    c.reserve_for.ensures.ledger
    (subst (λ (e : Event). TellsRoomOf c.reserve_for.new.self.ledger.saved H e c.has_room.result) c.posted-event.ensures
    (c.has_room.ensures.room H (c.reserve_for.ensures.keeps H ready.keeps))))
