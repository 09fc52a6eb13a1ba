-- A read failed behind these bytes.
use Rattle.std.proofs.Common.{take}
use Rattle.lcm_sessions.proofs.HeardLemmas.{brought_out}
use Rattle.lcm_sessions.proofs.hearing.hear.Goals as goal

pub returns-then-reading-clause-heard : goal.returns-then-reading-clause-heard
returns-then-reading-clause-heard g c = (
  take c.read_to_end-reading.result.count c.read_to_end-reading.new.room,
  record {
    came = c.in-Came.field-0;
    between = c.next.new.self;
    comes = c.in-Came.ensures.told;
    counts = c.in-Came.ensures.cause;
    behind = c.read_to_end-reading.new.self;
    hears = λ tells. rw (c.if-reading.true, c.requires.room) at (c.read_to_end-reading.ensures.told tells);
    fails = rw c.if-reading.true at c.read_to_end-reading.ensures.cause;
    gone = c.hang_up.ensures.told;
    down = c.hang_up.ensures.cause;
    silent = λ tells.
        brought_out _ _ _ _ _ _ _ (c.in-Came.ensures.told tells) (c.read_to_end-reading.ensures.told tells).conn
        (c.hang_up.ensures.told tells);
  },
)
