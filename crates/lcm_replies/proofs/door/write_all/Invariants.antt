use Rattle.std.proofs.Common.{◌≡◌, ◌≤◌, ◌-◌, length, take}
use Rattle.site_traits.specs.Door.{ConnIs, has_written}
use Rattle.lcm_replies.proofs.TellLemmas.{SoFar}
use Rattle.lcm_replies.proofs.door.write_all.Given as goal

-- the bytes so far went out, and no write failed
abbrev pub invariant-loop-at : goal.invariant-loop-at
invariant-loop-at g l =
    let start = g.D.Door.state l.fn.door in
    record {
      within : l.at ≤ length l.bytes;
      counts : g.D.Door.counts l.door ≡ g.D.Door.counts l.fn.door;
      asked : SoFar l.at (length l.bytes) (g.D.Door.writes l.fn.door) (g.D.Door.writes l.door);
      told : g.D.Door.tells → ConnIs (has_written (take l.at l.bytes) start.conn) start (g.D.Door.state l.door);
    }

abbrev pub decreases-loop-at : goal.decreases-loop-at
decreases-loop-at g l = length l.bytes - l.at
