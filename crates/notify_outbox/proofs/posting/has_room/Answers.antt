-- A journal that is to end at the front of its file says that it is full, and nothing else.
use Rattle.std.proofs.Common.{◌≡◌, Err, arith}
use Rattle.std.proofs.lemmas.Bool.{iff_false}
use Rattle.executor.specs.declared.manager.WorkFault.TheVariants as work
use Rattle.notify_outbox.proofs.RoomLemmas.{full_only, room_full, room_there, told_full}
use Rattle.notify_outbox.proofs.posting.has_room.Goals as goal

pub unreachable-requires : goal.unreachable-requires
unreachable-requires g c =
    let it = c.requires.may in
    let kept = it.1.keeps.kept.end it.1.usable in
    full_only c.records_add_up.ensures.longer _ it.0 c.args.event.now c.put_unsettled.result (omega (arith, kept)) c.requires.kind
    (c.put_unsettled.ensures.room it.0 it.1.keeps)
    c.put_unsettled.ensures.memory (λ end more is. cc)

pub unreachable-requires-in-Err-Disk : goal.unreachable-requires-in-Err-Disk
unreachable-requires-in-Err-Disk g c =
    let it = c.requires.may in
    let kept = it.1.keeps.kept.end it.1.usable in
    full_only c.records_add_up.ensures.longer _ it.0 c.args.event.now c.put_unsettled.result (omega (arith, kept)) c.requires.kind
    (c.put_unsettled.ensures.room it.0 it.1.keeps)
    c.put_unsettled.ensures.memory (λ end more is. cc)

pub unreachable-requires-in-Ok : goal.unreachable-requires-in-Ok
unreachable-requires-in-Ok g c =
    let it = c.requires.may in
    let kept = it.1.keeps.kept.end it.1.usable in
    full_only c.records_add_up.ensures.longer _ it.0 c.args.event.now c.put_unsettled.result (omega (arith, kept)) c.requires.kind
    (c.put_unsettled.ensures.room it.0 it.1.keeps)
    c.put_unsettled.ensures.memory (λ end more is. cc)

pub returns-then-fits-clause-room : goal.returns-then-fits-clause-room
returns-then-fits-clause-room g c = λ H keeps.
    let is : c.put_unsettled.result ≡ Err (work.Full c.in-Err-Full.end c.in-Err-Full.more) = cc in
    room_there c.records_add_up.ensures.room _ H c.args.event.now c.in-Err-Full.end c.in-Err-Full.more
    (told_full _ H c.args.event.now c.put_unsettled.result _ _ is (c.put_unsettled.ensures.room H keeps)) (c.fits.ensures.0 c.if-fits.true)

pub returns-else-fits-clause-room : goal.returns-else-fits-clause-room
returns-else-fits-clause-room g c = λ H keeps.
    let is : c.put_unsettled.result ≡ Err (work.Full c.in-Err-Full.end c.in-Err-Full.more) = cc in
    room_full c.records_add_up.ensures.room _ H c.args.event.now c.in-Err-Full.end c.in-Err-Full.more
    (told_full _ H c.args.event.now c.put_unsettled.result _ _ is (c.put_unsettled.ensures.room H keeps))
    (iff_false c.fits.ensures c.if-fits.false)
