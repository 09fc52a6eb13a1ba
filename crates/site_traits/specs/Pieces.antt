-- The pieces in which the bytes of a connection come in, by the places where they end.
use Rattle.std.specs.Prelude.{◌≡◌, ◌≤◌, ◌<◌, ◌⊎◌, ℕ, ◌+◌, ◌-◌, List, length, take, get_or, Contains}
use Rattle.std.specs.List.{concat}

-- piece number k ends where those up to it end
pub record AreEnds (pieces : List (List ℕ)) (ends : List ℕ) : Type 0 where
  pub count : length ends ≡ length pieces
  pub each : (k : ℕ) → k < length pieces → get_or ends k 0 ≡ length (concat (take (k + 1) pieces))

-- no piece ends before an earlier one
abbrev pub IsRising : List ℕ → Type 0
IsRising ends = (i j : ℕ) → i ≤ j → j < length ends → get_or ends i 0 ≤ get_or ends j 0

-- the last piece ends here, or there is none and this is 0
abbrev pub IsLastEnd : List ℕ → ℕ → Type 0
IsLastEnd ends at = get_or ends (length ends - 1) 0 ≡ at

-- the first so many pieces end at this place or before it
abbrev pub ArePassed : List ℕ → ℕ → ℕ → Type 0
ArePassed ends count at = (k : ℕ) → k < count → get_or ends k 0 ≤ at

-- no piece ends within the n bytes from this place on
abbrev pub IsWithinPiece : List ℕ → ℕ → ℕ → Type 0
IsWithinPiece ends at n = (k : ℕ) → k < length ends → (get_or ends k 0 ≤ at) ⊎ (at + n ≤ get_or ends k 0)

-- the n bytes from this place on are of one piece: as many as were asked for, or all that is left of it (own rule)
pub record IsOfOnePiece (ends : List ℕ) (at n most : ℕ) : Type 0 where
  pub within : IsWithinPiece ends at n
  pub whole : (n ≡ most) ⊎ Contains ends (at + n)
