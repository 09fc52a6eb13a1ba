-- A request's event is no longer than a record.
use Rattle.std.proofs.Common.{arith}
use Rattle.lcm_api.proofs.record.record.Goals as goal

pub unreachable-requires : goal.unreachable-requires
unreachable-requires g c =
    let it = c.requires.fits in
    let long = (rw c.in-Err-TooLong.field-0-is at (c.in-Err-TooLong.ensures.room it.0 it.1.keeps)).long in
    let fits = it.2.fits c.commit.ensures.event in
    omega (arith, long, fits)
