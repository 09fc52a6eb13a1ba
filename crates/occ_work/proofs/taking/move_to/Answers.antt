-- The move is one event, which may be recorded.
use Rattle.std.proofs.Common.{refl}
use Rattle.occ_work.proofs.TakingLemmas.{may_move_event, records_as}
use Rattle.occ_work.proofs.taking.move_to.Goals as goal

pub record-requires : goal.record-requires
record-requires g c =
    let it = c.requires.ready in
    record {
      may = (
        it.0,
        it.1,
        may_move_event _ _ it.0 _ _ _ c.next_actions_are_allowed.ensures it.1.keeps.kept.legal it.2 it.3
            c.event_of-event.ensures,
      );
      kind = rw c.event_of-event.ensures refl;
    }

pub returns-clause-records : goal.returns-clause-records
returns-clause-records g c = λ H ready is next.
    let may = may_move_event _ _ H _ _ _ c.next_actions_are_allowed.ensures ready.keeps.kept.legal is next c.event_of-event.ensures in
    records_as _ _ _ _ _ H _ _ _ _ _ _ c.event_of-event.ensures refl (c.record.ensures.records H ready may)
