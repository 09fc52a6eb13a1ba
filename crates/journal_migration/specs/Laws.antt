-- What holds of every file of format 1 with a history.
use Rattle.std.specs.Prelude.{◌≡◌, ◌<◌, ℕ, List}
use Rattle.lcm_events.specs.declared.events.Event.{Event}
use Rattle.lcm_model.specs.Allowed.{IsLegal}
use Rattle.old_journal.specs.Header.{IsForeign, IsUnmade}
use Rattle.journal_migration.specs.Reading.{HasOldHistory, IsBadOldRecord}

-- a file has one history, and is one manager's
abbrev pub HasOneOldHistory : Type 0
HasOneOldHistory = (m n : ℕ) (H G : List Event) (image : List ℕ) → m < 4294967296 → n < 4294967296
    → HasOldHistory m H image → HasOldHistory n G image → (m ≡ n) × (H ≡ G)

-- where a file's history is legal, none of its records is bad
abbrev pub HasNoBadOldRecord : Type 0
HasNoBadOldRecord = (m n : ℕ) (H : List Event) (image : List ℕ) → m < 4294967296 → HasOldHistory m H image → IsLegal m H
    → IsBadOldRecord n image → ⊥

-- a file with a history isn't unfinished, nor foreign at any place
abbrev pub IsNoOther : Type 0
IsNoOther = (m : ℕ) (H : List Event) (image : List ℕ) → HasOldHistory m H image
    → ¬ (IsUnmade image) × ((place : ℕ) → ¬ (IsForeign place image))

-- a file with a bad record isn't either
abbrev pub IsNoOtherIfBad : Type 0
IsNoOtherIfBad = (n : ℕ) (image : List ℕ) → IsBadOldRecord n image
    → ¬ (IsUnmade image) × ((place : ℕ) → ¬ (IsForeign place image))
