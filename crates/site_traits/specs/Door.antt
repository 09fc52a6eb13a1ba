-- What a door tells: its answers to `next`, and of each connection what came in, what went out and what failed.
use Rattle.std.specs.Prelude.{◌≡◌, ◌≢◌, ◌≤◌, ℕ, Bool, true, false, if◌then◌else◌, nat_lt, List, [], ◌∷◌, ◌++◌, length}
use Rattle.std.specs.Prelude.{take, drop}
use Rattle.lcm_events.specs.declared.states.Role.{Role}
use Rattle.site_traits.specs.declared.door.NextAnswer.{NextAnswer}
use Rattle.site_traits.specs.declared.door.NextAnswer.TheVariants as next
use Rattle.site_traits.specs.declared.door.ReadAnswer.{ReadAnswer}
use Rattle.site_traits.specs.declared.door.ReadAnswer.TheVariants as read
use Rattle.site_traits.specs.declared.door.WriteAnswer.{WriteAnswer}
use Rattle.site_traits.specs.declared.door.WriteAnswer.TheVariants as write
use Rattle.site_traits.specs.Counts.{one_more}

-- A connection: its bytes in, those of them that are not read yet, its bytes out, whether a read or a write on it
-- failed, and whether it was hung up (own rule).
pub record Conn : Type 0 where
  pub bytes : List ℕ
  pub left : List ℕ
  pub out : List ℕ
  pub read_failed : Bool
  pub write_failed : Bool
  pub hung_up : Bool

-- a connection with these bytes in, of which nothing was read yet
abbrev pub fresh : List ℕ → Conn
fresh bytes = record {
  bytes = bytes;
  left = bytes;
  out = [];
  read_failed = false;
  write_failed = false;
  hung_up =
      false;
}

-- where no connection has come yet: nothing comes in, and it is hung up
abbrev pub nobody : Conn
nobody = record { bytes = []; left = []; out = []; read_failed = false; write_failed = false; hung_up = true }

-- the connection once the next n bytes were read
abbrev pub has_read : ℕ → Conn → Conn
has_read n c = record c { left = drop n c.left }

-- the connection once these bytes went out
abbrev pub has_written : List ℕ → Conn → Conn
has_written bytes c = record c { out = c.out ++ bytes }

-- the connection once a read on it failed
abbrev pub read_broke : Conn → Conn
read_broke c = record c { read_failed = true }

-- the connection once a write on it failed
abbrev pub write_broke : Conn → Conn
write_broke c = record c { write_failed = true }

-- the connection once it was hung up
abbrev pub gone : Conn → Conn
gone c = record c { hung_up = true }

-- All that a door tells: its answers to `next` but the failed ones, the connection at hand, and those before it, the
-- oldest first. Before any has come, the one at hand is `nobody`.
pub record DoorState : Type 0 where
  pub answers : List NextAnswer
  pub conn : Conn
  pub past : List Conn

-- the connection at hand is now this, and all else stays
pub record ConnIs (c : Conn) (a b : DoorState) : Type 0 where
  pub answers : b.answers ≡ a.answers
  pub conn : b.conn ≡ c
  pub past : b.past ≡ a.past

-- a connection came, with some bytes in
pub record Comes (role : Role) (a b : DoorState) : Type 0 where
  pub answers : b.answers ≡ a.answers ++ next.Came role ∷ []
  pub bytes : List ℕ
  pub conn : b.conn ≡ fresh bytes
  pub past : b.past ≡ a.past ++ a.conn ∷ []

-- the door gave this answer, and the connections stay
pub record ComesNot (answer : NextAnswer) (a b : DoorState) : Type 0 where
  pub answers : b.answers ≡ a.answers ++ answer ∷ []
  pub conn : b.conn ≡ a.conn
  pub past : b.past ≡ a.past

-- what `next` does by its answer (own rule)
abbrev pub Nexts : NextAnswer → DoorState → DoorState → Type 0
Nexts (next.Came role) a b = Comes role a b
Nexts next.Failed a b = b ≡ a
Nexts answer a b = ComesNot answer a b

-- the next n bytes were read to the front of the piece, the rest of which stays
pub record Gets (n : ℕ) (before after : List ℕ) (a b : DoorState) : Type 0 where
  pub within : n ≤ length a.conn.left
  pub piece : after ≡ take n a.conn.left ++ drop n before
  pub conn : ConnIs (has_read n a.conn) a b

-- what `read` does by its answer: the end comes only where all bytes in were read (own rule)
abbrev pub ReadsIn : List ℕ → List ℕ → ReadAnswer → DoorState → DoorState → Type 0
ReadsIn before after (read.Got n) a b = Gets n before after a b
ReadsIn before after read.End a b = (a.conn.left ≡ []) × (b ≡ a)
ReadsIn before after read.Failed a b = ConnIs (read_broke a.conn) a b

-- what `write` does by its answer (own rule)
abbrev pub WritesOut : List ℕ → WriteAnswer → DoorState → DoorState → Type 0
WritesOut bytes (write.Took n) a b = ConnIs (has_written (take n bytes) a.conn) a b
WritesOut bytes write.Failed a b = ConnIs (write_broke a.conn) a b

-- what `hang_up` does (own rule)
abbrev pub HangsUp : DoorState → DoorState → Type 0
HangsUp a b = ConnIs (gone a.conn) a b

-- at least one byte was read, and no more than the piece has room for
abbrev pub IsAmount : ReadAnswer → ℕ → Type 0
IsAmount (read.Got n) most = (1 ≤ n) × (n ≤ most)
IsAmount answer most = Unit {0}

-- at least one byte was taken, and no more than there are
abbrev pub IsTaken : WriteAnswer → ℕ → Type 0
IsTaken (write.Took n) most = (1 ≤ n) × (n ≤ most)
IsTaken write.Failed most = Unit {0}

-- What a door shows, told or not: how often a call of it failed, how often `next` did, and whether the connection at
-- hand is up, which it is from when it came until it is hung up (own rule).
pub record DoorCounts : Type 0 where
  pub faults : ℕ
  pub next : ℕ
  pub up : Bool

-- once a read or a write failed
abbrev pub call_failed : DoorCounts → DoorCounts
call_failed c = record c { faults = one_more c.faults }

-- once `next` failed
abbrev pub next_failed : DoorCounts → DoorCounts
next_failed c = record c { faults = one_more c.faults; next = one_more c.next }

-- once a connection came
abbrev pub opened : DoorCounts → DoorCounts
opened c = record c { up = true }

-- once it was hung up
abbrev pub closed : DoorCounts → DoorCounts
closed c = record c { up = false }

-- the count of faults did not fall, that of `next` stays, and the connection is up as it was
pub record NoNextFault (a b : DoorCounts) : Type 0 where
  pub faults : a.faults ≤ b.faults
  pub next : b.next ≡ a.next
  pub up : b.up ≡ a.up

-- what `next` leaves of the counts by its answer: a failed one counts as one, and no other does (own rule)
abbrev pub NextCause : NextAnswer → DoorCounts → DoorCounts → Type 0
NextCause (next.Came role) a b = b ≡ opened a
NextCause next.Failed a b = b ≡ next_failed a
NextCause answer a b = b ≡ a

-- a failed read counts as one, and no other does (own rule)
pub record ReadCause (answer : ReadAnswer) (a b : DoorCounts) : Type 0 where
  pub counts : NoNextFault a b
  pub done : answer ≢ read.Failed → b ≡ a
  pub failed : answer ≡ read.Failed → b ≡ call_failed a

-- a failed write counts as one, and no other does (own rule)
pub record WriteCause (answer : WriteAnswer) (a b : DoorCounts) : Type 0 where
  pub counts : NoNextFault a b
  pub done : answer ≢ write.Failed → b ≡ a
  pub failed : answer ≡ write.Failed → b ≡ call_failed a

-- How often a write was asked for, whether it failed or not, and how often one took less than it was offered, told or
-- not, each as far as a u64 counts (own rule).
pub record WriteCounts : Type 0 where
  pub made : ℕ
  pub short : ℕ

-- so many were asked for, and so many of them took less
abbrev pub write_counts : ℕ → ℕ → WriteCounts
write_counts made short = record { made = made; short = short }

-- once a write of so many bytes was asked for, by its answer
abbrev pub asked_for : ℕ → WriteAnswer → WriteCounts → WriteCounts
asked_for size (write.Took n) w = record {
  made = one_more w.made;
  short =
      if nat_lt n size then one_more w.short else w.short;
}
asked_for size write.Failed w = record { made = one_more w.made; short = w.short }
