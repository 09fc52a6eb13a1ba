-- How far the records of a file were read (own rule, docs/JOURNAL.md).
use Rattle.std.specs.Prelude.{◌≡◌, ◌≤◌, ℕ, ◌+◌, ◌-◌, List, [], ◌++◌, length, take, drop, All}
use Rattle.std.specs.Int.{w32, to_be_bytes}
use Rattle.journal_records.specs.File.{content, held, number, gate_place, records_of_all, IsRecord}
use Rattle.journal_records.specs.Head.{IsClosed, IsOpen, IsBroken, EndsWithin}
use Rattle.journal_records.specs.declared.reader.Head.{Head}
use Rattle.journal_records.specs.declared.reader.Head.TheVariants.{Closed, Open, Broken}

-- bytes of a file that were read: those that were passed since, and those behind them
pub record Seen : Type 0 where
  pub passed : List ℕ
  pub ahead : List ℕ

abbrev pub none_seen : Seen
none_seen = record { passed = []; ahead = [] }

-- What is read next stands at this place of the file. So many bytes of the batch at hand are left, which is none between
-- two batches; these bytes from the place on are held; and this is the record that was given last.
pub record Reading : Type 0 where
  pub place : ℕ
  pub left : ℕ
  pub ahead : List ℕ
  pub record_bytes : List ℕ

-- nothing was given or is held, and a gate stands at this place
abbrev pub standing_at : ℕ → Reading
standing_at place = record { place = place; left = 0; ahead = []; record_bytes = [] }

-- these bytes are the content of a batch, or of the records at the end of one
abbrev pub AreRecords : List ℕ → Type 0
AreRecords bytes = (rs : List (List ℕ)) × All IsRecord rs × (bytes ≡ content rs)

-- the bytes of a file from one place up to another
abbrev pub part : ℕ → ℕ → List ℕ → List ℕ
part place end image = take (end - place) (drop place image)

-- these are the file's bytes from this place on, none of them behind `end`
pub record AreAhead (place : ℕ) (bytes : List ℕ) (end : ℕ) (image : List ℕ) : Type 0 where
  pub long : end ≤ length image
  pub is : bytes ≡ take (length bytes) (drop place image)
  pub within : place + length bytes ≤ end

-- what was found at the place of a gate, where these bytes stand from it on
abbrev pub HeadIs : ℕ → List ℕ → Head → Reading → Type 0
HeadIs place bytes Closed new = IsClosed bytes
HeadIs place bytes Open new = (batch : List (List ℕ)) × IsOpen place batch bytes × (take new.left new.ahead ≡ content batch)
    × (new.left ≡ length (content batch))
HeadIs place bytes Broken new = IsBroken place bytes

-- what finding it leaves: behind the head of a batch, or at the same gate
abbrev pub Enters : ℕ → Head → Reading → Reading → Type 0
Enters end Open old new = EndsWithin old.place end new.left × (new.place ≡ old.place + 5)
Enters end other old new = (new.place ≡ old.place) × (new.left ≡ 0)

-- the next record of the batch at hand was given
pub record Gives (old new : Reading) : Type 0 where
  pub one : IsRecord new.record_bytes
  pub ahead : old.ahead ≡ held new.record_bytes ++ new.ahead
  pub left : old.left ≡ 4 + length new.record_bytes + new.left
  pub place : new.place ≡ old.place + (4 + length new.record_bytes)

-- The reading stands behind these batches of a file and these records of theirs, which is the end of the last batch or
-- within it: those that weren't given yet are what is left.
pub record StandsBehind (batches : List (List (List ℕ))) (given : List (List ℕ)) (r : Reading) (end : ℕ)
    (image : List ℕ) : Type 0 where
  pub waiting : List (List ℕ)
  pub records : records_of_all batches ≡ given ++ waiting
  pub each : All IsRecord waiting
  pub bytes : take r.left r.ahead ≡ content waiting
  pub left : r.left ≡ length (content waiting)
  pub place : r.place + r.left ≡ gate_place batches
  pub ahead : AreAhead r.place r.ahead end image

-- these bytes begin with a record of this size, behind its number
pub record BeginWithRecord (bytes : List ℕ) (n : ℕ) : Type 0 where
  pub one : IsRecord (take n (drop 4 bytes))
  pub size : length (take n (drop 4 bytes)) ≡ n
  pub is : bytes ≡ held (take n (drop 4 bytes)) ++ drop (4 + n) bytes

-- they begin with none
abbrev pub BeginWithNone : List ℕ → Type 0
BeginWithNone bytes = (r rest : List ℕ) → IsRecord r → bytes ≡ held r ++ rest → ⊥

-- these bytes, which stand at this place, begin with the head of a batch whose content has so many bytes; its gate isn't
-- asked
pub record BeginWithHead (bytes : List ℕ) (place end n : ℕ) : Type 0 where
  pub long : 5 ≤ length bytes
  pub number_is : n ≡ number (drop 1 bytes)
  pub back : to_be_bytes w32 n ≡ take 4 (drop 1 bytes)
  pub ends : EndsWithin place end n

-- they begin with none
abbrev pub BeginWithNoHead : List ℕ → ℕ → ℕ → Type 0
BeginWithNoHead bytes place end = 5 ≤ length bytes → ¬ (EndsWithin place end (number (drop 1 bytes)))
