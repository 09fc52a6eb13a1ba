-- A file is one at most of the things that a load of format 1 may find: whole, unmade, foreign or broken (own rule,
-- docs/JOURNAL.md).
use Rattle.std.specs.Prelude.{◌≡◌, ◌<◌, ℕ, List}
use Rattle.old_journal.specs.File.{records, HasRecords}
use Rattle.old_journal.specs.Header.{IsUnmade, IsForeign, HasHeader}
use Rattle.old_journal.specs.Head.{IsBrokenAt}

-- a whole file isn't unfinished
abbrev pub IsWholeOrUnmade : Type 0
IsWholeOrUnmade = (m : ℕ) (rs : List (List ℕ)) (image : List ℕ) → HasRecords m rs image → ¬ (IsUnmade image)

-- a whole file isn't foreign at any place
abbrev pub IsWholeOrForeign : Type 0
IsWholeOrForeign = (m place : ℕ) (rs : List (List ℕ)) (image : List ℕ) → HasRecords m rs image
    → ¬ (IsForeign place image)

-- a whole file isn't broken at any record, for any manager
abbrev pub IsWholeOrBroken : Type 0
IsWholeOrBroken = (m k n : ℕ) (rs : List (List ℕ)) (image : List ℕ) → HasRecords m rs image → ¬ (IsBrokenAt k n image)

-- the manager of a whole file is one, and so are its records
abbrev pub IsWholeOnce : Type 0
IsWholeOnce = (m n : ℕ) (rs qs : List (List ℕ)) (image : List ℕ) → m < 4294967296 → n < 4294967296
    → HasRecords m rs image → HasRecords n qs image
    → (m ≡ n) × (rs ≡ qs)

-- its records are those that are read of it
abbrev pub ReadsItsRecords : Type 0
ReadsItsRecords = (m : ℕ) (rs : List (List ℕ)) (image : List ℕ) → HasRecords m rs image → records image ≡ rs

-- the manager of a file with a header is one
abbrev pub IsHeadedOnce : Type 0
IsHeadedOnce = (m n : ℕ) (image : List ℕ) → HasHeader m image → HasHeader n image → m ≡ n

-- a file with a header isn't unfinished, nor foreign at any place
abbrev pub IsHeadedOrNot : Type 0
IsHeadedOrNot = (m : ℕ) (image : List ℕ) → HasHeader m image
    → ¬ (IsUnmade image) × ((place : ℕ) → ¬ (IsForeign place image))

-- a file is foreign at one place at most, and breaks at one record at most
abbrev pub IsForeignOnce : Type 0
IsForeignOnce = (p q : ℕ) (image : List ℕ) → IsForeign p image → IsForeign q image → p ≡ q

abbrev pub BreaksOnce : Type 0
BreaksOnce = (m k n i : ℕ) (image : List ℕ) → IsBrokenAt m n image → IsBrokenAt k i image → n ≡ i
