-- A connection of a door in memory.
use Rattle.std.specs.Prelude.{◌≡◌, ◌≤◌, ℕ, List, [], ◌++◌, length, take, drop, Option, Some, None}
use Rattle.std.specs.List.{concat}
use Rattle.site_traits.specs.declared.mem_conn.MemConn.{MemConn}
use Rattle.site_traits.specs.Door.{Conn, fresh, nobody}
use Rattle.site_traits.specs.Pieces.{AreEnds}

-- what a connection tells
abbrev pub conn_of : MemConn → Conn
conn_of c = record {
  bytes = c.bytes.items;
  left = drop c.read c.bytes.items;
  out = c.out.items;
  read_failed =
      c.read_failed;
  write_failed = c.write_failed;
  hung_up = c.hung_up;
}

-- the connection tells the same
abbrev pub SameConn : MemConn → MemConn → Type 0
SameConn old new = conn_of new ≡ conn_of old

-- these bytes went out, and all else that it tells stays
abbrev pub WroteOut : List ℕ → MemConn → MemConn → Type 0
WroteOut bytes old new = conn_of new ≡ record (conn_of old) { out = old.out.items ++ bytes }

-- the next n bytes were read to the front of the piece, or none is left
abbrev pub ReadsNext : MemConn → MemConn → List ℕ → List ℕ → Option ℕ → Type 0
ReadsNext old new before after (Some n) = (1 ≤ n) × (n ≤ length before) × (n ≤ length (conn_of old).left)
    × (after ≡ take n (conn_of old).left ++ drop n before)
    × (conn_of new ≡ record (conn_of old) { left = drop n (conn_of old).left })
ReadsNext old new before after None = ((conn_of old).left ≡ []) × (conn_of new ≡ conn_of old) × (after ≡ before)

-- nothing was read or written on it yet
abbrev pub IsFreshConn : MemConn → Type 0
IsFreshConn c = conn_of c ≡ fresh c.bytes.items

-- it is the one at hand before any has come
abbrev pub IsNobody : MemConn → Type 0
IsNobody c = conn_of c ≡ nobody

-- The plan of a connection: its bytes in, the places where their pieces end, the read and the write that fail, and the
-- room for bytes out (own rule).
pub record ConnPlan : Type 0 where
  pub bytes : List ℕ
  pub ends : List ℕ
  pub failing_read : Option ℕ
  pub failing_write : Option ℕ
  pub room : ℕ

-- the plan that the connection keeps
abbrev pub plan_of : MemConn → ConnPlan
plan_of c = record {
  bytes = c.bytes.items;
  ends = c.ends.items;
  failing_read = c.failing_read;
  failing_write =
      c.failing_write;
  room = c.room;
}

-- the plan stays, and no read or write is counted
pub record KeepsPlan (old new : MemConn) : Type 0 where
  pub plan : plan_of new ≡ plan_of old
  pub reads : new.reads ≡ old.reads
  pub writes : new.writes ≡ old.writes

-- no read or write was counted yet
pub record IsUncounted (c : MemConn) : Type 0 where
  pub reads : c.reads ≡ 0
  pub writes : c.writes ≡ 0

-- a connection with these pieces in, of which this read and this write fail, with room for so many bytes out (own rule)
pub record IsConnOf (pieces : List (List ℕ)) (failing_read failing_write : Option ℕ) (room : ℕ)
    (c : MemConn) : Type 0 where
  pub bytes : c.bytes.items ≡ concat pieces
  pub ends : AreEnds pieces c.ends.items
  pub failing_read_is : c.failing_read ≡ failing_read
  pub failing_write_is : c.failing_write ≡ failing_write
  pub room_is : c.room ≡ room
