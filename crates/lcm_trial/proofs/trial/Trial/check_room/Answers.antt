-- The file's length, or where its closed gate stands, tells whether the journal is full.
use Rattle.std.proofs.Common.{arith}
use Rattle.lcm_trial.proofs.RoomLemmas.{full, not_full}
use Rattle.lcm_trial.proofs.trial.Trial.check_room.Goals as goal

pub returns-then-size-le-ROOM-clause-room : goal.returns-then-size-le-ROOM-clause-room
returns-then-size-le-ROOM-clause-room c = λ s at.
    let size = c.size.ensures in
    let within = c.if-size-le-ROOM.true in
    not_full _ s.history _ (at.ready.stands tt) at.saved (omega (arith, size, within))

pub returns-clause-room : goal.returns-clause-room
returns-clause-room c = λ s at.
    let end = c.end.ensures in
    let saved = c.saved.ensures.value in
    let past = c.if-end-saved-lt-ROOM.false in
    full _ s.history _ _ c.in-Ok.journal (at.ready.stands tt) (c.in-Ok.ensures.loaded tt) (c.in-Ok.ensures.told tt).same
    (omega (arith, end, saved, past))
