-- What an intake holds, and what reading does to it.
use Rattle.std.specs.Prelude.{◌≡◌, ◌<◌, ◌⊎◌, ℕ, List, [], ◌++◌, length, Result, Ok, Err}
use Rattle.http_frames.specs.Messages.{IsCut, StopsInTarget}
use Rattle.std.specs.declared.alloc.AllocError.{AllocError}
use Rattle.site_traits.specs.Door.{DoorState, DoorCounts, WriteCounts, NoNextFault, call_failed}
use Rattle.http_wire.specs.declared.intake.Came.{Came}
use Rattle.http_wire.specs.declared.intake.Came.TheVariants as came

-- what the door tells, its counts of faults and of writes, and the bytes that were read and not yet passed
pub record IntakeState : Type 0 where
  pub door : DoorState
  pub counts : DoorCounts
  pub writes : WriteCounts
  pub held : List ℕ

-- the state that has these parts
abbrev pub state_of : DoorState → DoorCounts → WriteCounts → List ℕ → IntakeState
state_of door counts writes held = record { door = door; counts = counts; writes = writes; held = held }

-- the state once the door is this one
abbrev pub with_door : {D : Type 0} → (D → DoorState) → (D → DoorCounts) → (D → WriteCounts) → IntakeState → D
    → IntakeState
with_door state counts writes i door = record {
  door = state door;
  counts = counts door;
  writes = writes door;
  held =
      i.held;
}

-- the door read these bytes, and nothing else happened at it but that a read may have failed (own rule)
pub record OnlyReads (read : List ℕ) (a b : DoorState) : Type 0 where
  pub answers : b.answers ≡ a.answers
  pub past : b.past ≡ a.past
  pub bytes : b.conn.bytes ≡ a.conn.bytes
  pub left : a.conn.left ≡ read ++ b.conn.left
  pub out : b.conn.out ≡ a.conn.out
  pub write_failed : b.conn.write_failed ≡ a.conn.write_failed
  pub hung_up : b.conn.hung_up ≡ a.conn.hung_up

-- some bytes were read and stand behind those that were held, and no write was asked for (own rule)
pub record TakesIn (tells : Type 0) (a b : IntakeState) : Type 0 where
  pub more : List ℕ
  pub held : b.held ≡ a.held ++ more
  pub door : tells → OnlyReads more a.door b.door
  pub counts : NoNextFault a.counts b.counts
  pub writes : b.writes ≡ a.writes

-- More bytes are needed to say what these begin with: there are none, or they are a part of a request, or they are no
-- more than a head may have and stop in a request target, where the grammar tells only at its end whether it can go on
-- (own rule).
abbrev pub NeedsMore : List ℕ → Type 0
NeedsMore bytes = (bytes ≡ []) ⊎ (IsCut bytes ⊎ StopsInTarget bytes)

-- what one read brought, by its answer: one that failed counts as one fault, and no other does
abbrev pub CameIs : Type 0 → Result Came AllocError → IntakeState → IntakeState → Type 0
CameIs tells (Ok came.Bytes) a b = (length a.held < length b.held) × (b.counts ≡ a.counts)
CameIs tells (Ok came.End) a b = (b.held ≡ a.held) × (tells → b.door.conn.left ≡ []) × (b.counts ≡ a.counts)
CameIs tells (Ok came.Failed) a b = (b.held ≡ a.held) × (b.counts ≡ call_failed a.counts)
CameIs tells (Err e) a b = b ≡ a
