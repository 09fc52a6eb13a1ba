use Rattle.std.proofs.Common.{◌≡◌, ◌<◌, ◌+◌, ℕ, length, take, get_or}
use Rattle.std.specs.List.{concat}
use Rattle.site_traits.proofs.mem_conn.MemConn.with.Given as goal

-- the bytes of the pieces so far, and where each of them ends
abbrev pub invariant-loop-piece : goal.invariant-loop-piece
invariant-loop-piece l = record {
  bytes : l.bytes.items ≡ concat (take l.piece-index l.piece-items);
  count : length l.ends.items ≡ l.piece-index;
  each : (k : ℕ) → k < l.piece-index → get_or l.ends.items k 0 ≡ length (concat (take (k + 1) l.piece-items));
}
