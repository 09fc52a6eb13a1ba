-- The places of a file that a journal keeps (own rule, docs/JOURNAL.md).
use Rattle.std.specs.Prelude.{◌≡◌, ◌≤◌, ◌<◌, ℕ, ◌+◌, List, [], ◌∷◌, ◌++◌, length, take, get_or, All, if◌then◌else◌}
use Rattle.std.specs.Prelude.{nat_le}
use Rattle.journal_core.specs.declared.marks.Mark.{Mark}
use Rattle.journal_records.specs.File.{gate_place, records_of_all}

-- so many records stand in the batches before this place, and there the next batch begins or the closed gate stands
pub record IsMark (batches : List (List (List ℕ))) (m : Mark) : Type 0 where
  pub passed : ℕ
  pub within : passed ≤ length batches
  pub before : m.before ≡ length (records_of_all (take passed batches))
  pub place : m.place ≡ gate_place (take passed batches)

-- the place of the first gate
abbrev pub first_mark : Mark
first_mark = record { before = 0; place = 32 }

-- the places that are kept, in order, and from which place on the next is kept
pub record Kept : Type 0 where
  pub places : List Mark
  pub next : ℕ

-- one place more is seen: it is kept where it isn't less than 4,096 bytes behind the last that was
abbrev pub one_more : Kept → Mark → Kept
one_more kept mark =
    if nat_le kept.next mark.place
    then record { places = kept.places ++ mark ∷ []; next = mark.place + 4096 }
    else kept

-- the numbers of records before these places never fall
abbrev pub AreInOrder : List Mark → Type 0
AreInOrder places = (j k : ℕ) (d : Mark) → j ≤ k → k < length places → (get_or places j d).before ≤ (get_or places k d).before

-- at most so many records stand before each of these places
abbrev pub AreUpTo : ℕ → List Mark → Type 0
AreUpTo most places = All (λ (m : Mark). m.before ≤ most) places

-- each of these places stands before the end of the largest file
abbrev pub AreInFile : List Mark → Type 0
AreInFile places = All (λ (m : Mark). m.place < 268435456) places
