-- The places of a file of format 1 that a journal keeps (own rule, docs/JOURNAL.md).
use Rattle.std.specs.Prelude.{◌≡◌, ◌≤◌, ◌<◌, ℕ, ◌+◌, ◌-◌, ◌*◌, List, length, take, get_or}
use Rattle.old_journal.specs.declared.marks.Mark.{Mark}
use Rattle.old_journal.specs.File.{size}

-- so many of these records stand before this place, and there the next one begins or the closed gate stands
pub record IsMark (rs : List (List ℕ)) (m : Mark) : Type 0 where
  pub within : m.before ≤ length rs
  pub place : m.place ≡ size (take m.before rs)

-- the place of the first gate
abbrev pub first_mark : Mark
first_mark = record { before = 0; place = 32 }

-- the places that are kept of the records that were seen, in order, and how many those were
pub record Kept : Type 0 where
  pub places : List Mark
  pub seen : ℕ

-- the places of every so many records, from the first on up to those that were seen, and no other
pub record AreEvery (step seen : ℕ) (places : List Mark) : Type 0 where
  pub each : (k : ℕ) (d : Mark) → k < length places → (get_or places k d).before ≡ k * step
  pub reach : seen ≤ length places * step
  pub no_further : length places * step < seen + step

-- A step is one, or one of at most so many as there are times 32,768 records: it doubles where 65,536 places are full.
abbrev pub IsFitStep : ℕ → ℕ → Type 0
IsFitStep step seen = (1 ≤ step) × ((step - 1) * 32768 ≤ seen)
