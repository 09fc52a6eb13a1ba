use Rattle.std.proofs.Common.{◌≡◌, ◌≤◌, ◌-◌, length}
use Rattle.lcm_replies.proofs.ListenLemmas.{HeardSoFar}
use Rattle.lcm_replies.proofs.listen.read_to_end.Given as goal

-- the bytes so far are the connection's next ones, and no read failed
abbrev pub invariant-loop-at : goal.invariant-loop-at
invariant-loop-at g l =
    let start = g.D.Door.state l.fn.door in
    record {
      within : l.at ≤ length l.fn.room;
      counts : g.D.Door.counts l.door ≡ g.D.Door.counts l.fn.door;
      writes : g.D.Door.writes l.door ≡ g.D.Door.writes l.fn.door;
      told : g.D.Door.tells → HeardSoFar l.at l.room start (g.D.Door.state l.door);
    }

abbrev pub decreases-loop-at : goal.decreases-loop-at
decreases-loop-at g l = length l.fn.room - l.at
