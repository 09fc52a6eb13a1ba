-- What telling bytes to a connection does, and how many writes it asks for.
use Rattle.std.specs.Prelude.{◌≡◌, ◌≤◌, ◌+◌, ◌-◌, ℕ, zero, suc, min, List, take, Result, Ok, Err, OnOk}
use Rattle.site_traits.specs.Counts.{one_more}
use Rattle.site_traits.specs.Door.{DoorState, ConnIs, WriteCounts, has_written, write_broke}
use Rattle.lcm_replies.specs.declared.door.DoorFailed.{DoorFailed}
use Rattle.lcm_replies.specs.declared.outgoing.TheConstants.{ROOM}

-- the bytes went out, or a front of them, and then a write failed
abbrev pub WorldTells : List ℕ → Result (Unit {0}) DoorFailed → DoorState → DoorState → Type 0
WorldTells bytes (Ok done) a b = ConnIs (has_written bytes a.conn) a b
WorldTells bytes (Err failed) a b = (n : ℕ) × ConnIs (write_broke (has_written (take n bytes) a.conn)) a b

-- the count with so many more, as far as a u64 counts
unfoldable pub many_more : ℕ → ℕ → ℕ
many_more zero n = n
many_more (suc k) n = one_more (many_more k n)

-- Some writes were asked for: so many took less than they were offered, and so many didn't.
pub record Writes (whole short : ℕ) (a b : WriteCounts) : Type 0 where
  pub made : b.made ≡ many_more (whole + short) a.made
  pub shorts : b.short ≡ many_more short a.short

-- Bytes in so many pieces are told by one write a piece, and one more for each that takes less than it is offered.
-- Where a write fails there are no more than that (own rule).
pub record AsksWrites {T E : Type 0} (pieces : ℕ) (result : Result T E) (a b : WriteCounts) : Type 0 where
  pub whole : ℕ
  pub short : ℕ
  pub writes : Writes whole short a b
  pub most : whole ≤ pieces
  pub all : OnOk result (whole ≡ pieces)

-- no byte is in no piece, and else there is one
abbrev pub one_piece : ℕ → ℕ
one_piece size = min 1 size

-- A reply of so many bytes is in one piece where it is no longer than the room for it, and else the rest is in one more
-- (own rule).
abbrev pub pieces : ℕ → ℕ
pieces size = one_piece size + one_piece (size - ROOM)
