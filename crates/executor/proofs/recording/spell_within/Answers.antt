-- What the answer tells of the room.
use Rattle.std.proofs.Common.{arith}
use Rattle.std.proofs.lemmas.Bool.{iff_false}
use Rattle.executor.proofs.CommitLemmas.{full_told, room_told}
use Rattle.executor.proofs.recording.spell_within.Goals as goal

pub returns-then-not-fits-clause-room : goal.returns-then-not-fits-clause-room
returns-then-not-fits-clause-room g c = λ H end.
    let size = c.in_ok-more.ensures.length in
    record {
      fits = omega (arith, size);
      full = full_told c.records_add_up.ensures.room c.args.limit _ _ _ H c.args.e.now end size.0
          (iff_false c.fits.ensures c.if-not-fits.true);
      end_is = rw c.end.ensures end;
      more_is = size.0;
    }

pub returns-clause-room : goal.returns-clause-room
returns-clause-room g c = λ H end.
    let size = c.in_ok-more.ensures.length in
    record {
      fits = omega (arith, size);
      room = room_told c.records_add_up.ensures.room c.args.limit _ _ _ H c.args.e.now end size.0
          (c.fits.ensures.0 c.if-not-fits.false);
    }
