-- How far records reach in a journal's file, and which room is left behind them (own rule, docs/JOURNAL.md).
use Rattle.std.specs.Prelude.{◌≡◌, ◌≤◌, ◌<◌, ◌↔◌, ◌+◌, ℕ, List, [], ◌∷◌, ◌++◌, length}
use Rattle.journal_records.specs.File.{size}

-- one record more of these bytes, in a batch of its own, moves the closed gate from the first place to the second
abbrev pub Adds : List ℕ → ℕ → ℕ → Type 0
Adds bytes old new = new ≡ old + 9 + length bytes

-- behind a closed gate at this place a batch of one record of so many bytes, and the closed gate behind it, end at the
-- limit or before it
abbrev pub HasRoom : ℕ → ℕ → ℕ → Type 0
HasRoom end more limit = end + 10 + more ≤ limit

-- the gate of these records is moved by one record more to where the gate of them all stands
abbrev pub AddsUp : Type 0
AddsUp = (rs : List (List ℕ)) (bytes : List ℕ) (old new : ℕ) → old ≡ size rs → Adds bytes old new
    → new ≡ size (rs ++ bytes ∷ [])

-- There is room for one record more exactly where the gate behind it stands before the limit. The gate stands so many
-- bytes nearer to the front than where each record has a batch of its own.
abbrev pub HasRoomBefore : Type 0
HasRoomBefore = (rs : List (List ℕ)) (bytes : List ℕ) (end saved limit : ℕ) → end + saved ≡ size rs
    → HasRoom end (length bytes) limit ↔ (size (rs ++ bytes ∷ []) < limit + saved)

-- a record takes more of the file than its bytes
abbrev pub TakesMore : Type 0
TakesMore = (rs : List (List ℕ)) (bytes : List ℕ) → size rs + length bytes < size (rs ++ bytes ∷ [])
