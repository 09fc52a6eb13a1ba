-- What a clock tells: the values that it gave, the oldest first.
use Rattle.std.specs.Prelude.{◌≡◌, ◌<◌, ℕ, ◌-◌, ◌^◌, List, [], ◌∷◌, ◌++◌, length}

-- The clock gave this value. A clock that keeps the number of its calls as a u64 tells no more of them than that has
-- room for (own rule).
abbrev pub Gives : ℕ → List ℕ → List ℕ → Type 0
Gives now old new = length old < 2 ^ 64 - 1 → new ≡ old ++ now ∷ []
