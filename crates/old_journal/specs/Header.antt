-- The header of a journal file of format 1: what an unfinished file is, and where a header differs (own rule,
-- docs/JOURNAL.md).
use Rattle.std.specs.Prelude.{◌≡◌, ◌⊎◌, ◌≤◌, ◌<◌, ℕ, List, [], ◌∷◌, ◌++◌, length, take, drop, get_or}
use Rattle.old_journal.specs.File.{header}
use Rattle.journal_core.specs.Header.{first}

-- a made file of this manager with no record, whose closed gate is 00
abbrev pub made : ℕ → List ℕ
made manager = header manager ++ 0 ∷ []

-- The file is unfinished for this manager: it has at most one byte, or begins with `v`, or begins with another byte
-- than `V` in front of what a made file of this manager with no record has.
abbrev pub IsUnfinished : ℕ → List ℕ → Type 0
IsUnfinished manager image = (length image ≤ 1) ⊎ (first image ≡ 118)
    ⊎ ((¬ (first image ≡ 86)) × (take 32 (drop 1 image) ≡ drop 1 (made manager)))

-- the file is unfinished for some manager
abbrev pub IsUnmade : List ℕ → Type 0
IsUnmade image = (manager : ℕ) × IsUnfinished manager image

-- The file has a byte at this place that a header may have there. Bytes 9 to 12 are the manager's number and may be
-- any.
pub record MayStand (place : ℕ) (image : List ℕ) : Type 0 where
  pub there : place < length image
  pub right : ((9 ≤ place) × (place ≤ 12)) ⊎ (get_or image place 0 ≡ get_or (header 0) place 0)

-- the file differs first at this place from every header; a missing byte differs
pub record DiffersAt (place : ℕ) (image : List ℕ) : Type 0 where
  pub within : place < 32
  pub before : (k : ℕ) → k < place → MayStand k image
  pub differs : ¬ (MayStand place image)

-- the file isn't unfinished for any manager, and differs first at this place from every header
pub record IsForeign (place : ℕ) (image : List ℕ) : Type 0 where
  pub not_unmade : ¬ (IsUnmade image)
  pub differs : DiffersAt place image

-- the file begins with the header of this manager
pub record HasHeader (manager : ℕ) (image : List ℕ) : Type 0 where
  pub number : manager < 4294967296
  pub front : take 32 image ≡ header manager
