-- How far records reach in a file of format 1 (own rule, docs/JOURNAL.md).
use Rattle.std.specs.Prelude.{◌≡◌, ◌<◌, ◌+◌, ℕ, List, [], ◌∷◌, ◌++◌, length}
use Rattle.old_journal.specs.File.{size}

-- one record more of these bytes moves the closed gate from the first place to the second
abbrev pub Adds : List ℕ → ℕ → ℕ → Type 0
Adds bytes old new = new ≡ old + 5 + length bytes

-- the gate of these records is moved by one record more to where the gate of them all stands
abbrev pub AddsUp : Type 0
AddsUp = (rs : List (List ℕ)) (bytes : List ℕ) (old new : ℕ) → old ≡ size rs → Adds bytes old new
    → new ≡ size (rs ++ bytes ∷ [])

-- a record takes more of the file than its bytes
abbrev pub TakesMore : Type 0
TakesMore = (rs : List (List ℕ)) (bytes : List ℕ) → size rs + length bytes < size (rs ++ bytes ∷ [])
