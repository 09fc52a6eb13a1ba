-- How full the journal of a history is, and what an answer of recording tells of that (own rule, docs/JOURNAL.md).
use Rattle.std.specs.Prelude.{◌≡◌, ◌≤◌, ◌<◌, ◌+◌, ℕ, List, ◌∷◌, length, nat_le, Bool, true, false, Result, Err}
use Rattle.event_codec.specs.Spell.{spelling}
use Rattle.journal_records.specs.File.{size}
use Rattle.journal_core.specs.Room.{HasRoom}
use Rattle.journal_records.specs.declared.limits.TheConstants.{MAX_FILE, MAX_RECORD}
use Rattle.lcm_events.specs.declared.events.Event.{Event}
use Rattle.executor.specs.History.{spellings}
use Rattle.executor.specs.declared.manager.WorkFault.{WorkFault}
use Rattle.executor.specs.declared.manager.WorkFault.TheVariants as fault

-- where the closed gate stands behind the records of this history where each has a batch of its own, in bytes from the
-- front of the file
abbrev pub journal_end : List Event → ℕ
journal_end H = size (spellings H)

-- The closed gate of this history's journal doesn't stand before this place of the file. It stands so many bytes before
-- the history's end.
unfoldable pub is_full : ℕ → ℕ → List Event → Bool
is_full limit saved H = nat_le (limit + saved) (journal_end H)

-- behind this history there is room for the event: a record holds its spelling, and the journal isn't full with it
pub record HasRoomFor (limit saved : ℕ) (H : List Event) (e : Event) : Type 0 where
  pub fits : length (spelling e) ≤ MAX_RECORD
  pub room : is_full limit saved (e ∷ H) ≡ false

-- the journal is full with the event, which is to come behind this gate and has so many bytes
pub record IsFullWith (limit saved : ℕ) (H : List Event) (e : Event) (end more : ℕ) : Type 0 where
  pub fits : length (spelling e) ≤ MAX_RECORD
  pub full : is_full limit saved (e ∷ H) ≡ true
  pub end_is : end + saved ≡ journal_end H
  pub more_is : more ≡ length (spelling e)

-- the event's spelling has so many bytes, more than a record
pub record IsTooLong (e : Event) (n : ℕ) : Type 0 where
  pub long : MAX_RECORD < length (spelling e)
  pub is : n ≡ length (spelling e)

-- what an answer of recording tells of the room behind this history
abbrev pub TellsRoom : ℕ → ℕ → List Event → Event → Result (Unit {0}) WorkFault → Type 0
TellsRoom limit saved H e (Err (fault.TooLong n)) = IsTooLong e n
TellsRoom limit saved H e (Err (fault.Full end more)) = IsFullWith limit saved H e end more
TellsRoom limit saved H e other = HasRoomFor limit saved H e

-- the bytes are the event's spelling, a record holds them, and there is room in the file for it behind this gate
pub record IsRecordOf (bytes : List ℕ) (e : Event) (end : ℕ) : Type 0 where
  pub is : bytes ≡ spelling e
  pub some : 1 ≤ length bytes
  pub fits : length bytes ≤ MAX_RECORD
  pub room : HasRoom end (length bytes) MAX_FILE
