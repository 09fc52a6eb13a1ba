-- A door in memory.
use Rattle.std.specs.Prelude.{◌≡◌, ◌≤◌, ◌<◌, ◌⊎◌, ◌↔◌, ℕ, ◌+◌, List, [], map, length, Some, if◌then◌else◌, nat_lt, not}
use Rattle.site_traits.specs.Counts.{one_more}
use Rattle.site_traits.specs.declared.door.NextAnswer.{NextAnswer}
use Rattle.site_traits.specs.declared.door.NextAnswer.TheVariants as next
use Rattle.site_traits.specs.declared.door.ReadAnswer.{ReadAnswer}
use Rattle.site_traits.specs.declared.door.ReadAnswer.TheVariants as read
use Rattle.site_traits.specs.declared.door.WriteAnswer.{WriteAnswer}
use Rattle.site_traits.specs.declared.door.WriteAnswer.TheVariants as write
use Rattle.site_traits.specs.declared.mem_door.MemDoor.{MemDoor}
use Rattle.site_traits.specs.Door.{DoorState, DoorCounts, WriteCounts, nobody, write_counts}
use Rattle.site_traits.specs.DoorPlans.{Does, next_of, rest_of, calls_after}
use Rattle.site_traits.specs.MemConn.{conn_of, plan_of}
use Rattle.site_traits.specs.Pieces.{IsOfOnePiece}

-- what the door tells
abbrev pub state_of : MemDoor → DoorState
state_of d = record { answers = d.answers.items; conn = conn_of d.conn; past = map conn_of d.past.items }

-- how often its calls failed, and whether the connection at hand isn't hung up
abbrev pub counts_of : MemDoor → DoorCounts
counts_of d = record { faults = d.faults; next = d.next_faults; up = not d.conn.hung_up }

-- how often a write was asked for; one takes all that it is offered, or fails
abbrev pub writes_of : MemDoor → WriteCounts
writes_of d = write_counts d.writes 0

-- nothing was asked of the door yet
pub record IsNew (d : MemDoor) : Type 0 where
  pub answers : d.answers.items ≡ []
  pub conn : conn_of d.conn ≡ nobody
  pub past : d.past.items ≡ []
  pub calls : d.calls ≡ 0
  pub faults : d.faults ≡ 0
  pub next_faults : d.next_faults ≡ 0
  pub writes : d.writes ≡ 0

-- the door's calls are spent: there were 1,048,576 (own rule)
abbrev pub IsSpent : MemDoor → Type 0
IsSpent d = 1048576 ≤ d.calls

-- `next` fails where the calls are spent, and then nothing comes; else it does what comes next (own rule)
pub record RunsNext (answer : NextAnswer) (old new : MemDoor) : Type 0 where
  pub spent : IsSpent old → (answer ≡ next.Failed) × (new.plans.items ≡ old.plans.items)
  pub does : old.calls < 1048576 → Does (next_of old.plans.items) answer new.conn
      × (new.plans.items ≡ rest_of old.plans.items)
  pub calls : new.calls ≡ calls_after old.calls

-- all but the connection at hand and the counts stays
pub record SamePlan (old new : MemDoor) : Type 0 where
  pub plans : new.plans.items ≡ old.plans.items
  pub conn : plan_of new.conn ≡ plan_of old.conn

-- the next read is the one that the plan lets fail, or the calls are spent
abbrev pub IsReadToFail : MemDoor → Type 0
IsReadToFail d = IsSpent d ⊎ (d.conn.failing_read ≡ Some (one_more d.conn.reads))

-- what a read gives is of one piece of the connection
abbrev pub GivesPiece : ReadAnswer → ℕ → MemDoor → Type 0
GivesPiece (read.Got n) most d = IsOfOnePiece d.conn.ends.items d.conn.read n most
GivesPiece other most d = Unit {0}

-- a read fails exactly where the plan says so or the calls are spent, and is counted else (own rule)
pub record RunsRead (most : ℕ) (answer : ReadAnswer) (old new : MemDoor) : Type 0 where
  pub piece : GivesPiece answer most old
  pub failed : (answer ≡ read.Failed) ↔ IsReadToFail old
  pub same : SamePlan old new
  pub calls : new.calls ≡ calls_after old.calls
  pub reads : new.conn.reads ≡ (if nat_lt old.calls 1048576 then one_more old.conn.reads else old.conn.reads)
  pub writes : new.conn.writes ≡ old.conn.writes

-- these bytes are to fail: the plan says so, the calls are spent, or there is no room for them
abbrev pub IsWriteToFail : List ℕ → MemDoor → Type 0
IsWriteToFail bytes d = IsSpent d ⊎ ((d.conn.failing_write ≡ Some (one_more d.conn.writes))
    ⊎ (d.conn.room < length d.conn.out.items + length bytes))

-- a write fails exactly where the plan says so or there is no room, and takes all of its bytes else (own rule)
pub record RunsWrite (bytes : List ℕ) (answer : WriteAnswer) (old new : MemDoor) : Type 0 where
  pub failed : (answer ≡ write.Failed) ↔ IsWriteToFail bytes old
  pub took : (n : ℕ) → answer ≡ write.Took n → n ≡ length bytes
  pub same : SamePlan old new
  pub calls : new.calls ≡ calls_after old.calls
  pub writes : new.conn.writes ≡ (if nat_lt old.calls 1048576 then one_more old.conn.writes else old.conn.writes)
  pub reads : new.conn.reads ≡ old.conn.reads
