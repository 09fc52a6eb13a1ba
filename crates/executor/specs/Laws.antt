-- What holds of every file with a history.
use Rattle.std.specs.Prelude.{◌≡◌, ◌<◌, ℕ, List}
use Rattle.lcm_events.specs.declared.events.Event.{Event}
use Rattle.executor.specs.History.{HasHistory}
use Rattle.lcm_model.specs.Allowed.{IsLegal}
use Rattle.executor.specs.Open.{IsBadRecord}

-- a file has one history, and is one manager's
abbrev pub HasOneHistory : Type 0
HasOneHistory = (m n : ℕ) (H G : List Event) (image : List ℕ) → m < 4294967296 → n < 4294967296
    → HasHistory m H image → HasHistory n G image → (m ≡ n) × (H ≡ G)

-- where a file's history is legal, none of its records is bad
abbrev pub HasNoBadRecord : Type 0
HasNoBadRecord = (m n : ℕ) (H : List Event) (image : List ℕ) → m < 4294967296 → HasHistory m H image → IsLegal m H
    → IsBadRecord n image → ⊥

-- a file has one bad record at most
abbrev pub HasOneBadRecord : Type 0
HasOneBadRecord = (n k : ℕ) (image : List ℕ) → IsBadRecord n image → IsBadRecord k image → n ≡ k
