use Rattle.std.proofs.Common.{◌-◌, length}
use Rattle.site_traits.specs.Pieces.{ArePassed}
use Rattle.site_traits.proofs.mem_conn.MemConn.piece_at_hand.Given as goal

abbrev pub decreases-loop-piece : goal.decreases-loop-piece
decreases-loop-piece l = length l.self.ends.items - l.piece

-- the pieces so far end at what was read or before it
abbrev pub invariant-loop-piece : goal.invariant-loop-piece
invariant-loop-piece l = ArePassed l.self.ends.items l.piece l.self.read
