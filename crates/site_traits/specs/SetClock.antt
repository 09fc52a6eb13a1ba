-- A clock that gives the values that it is set to.
use Rattle.std.specs.Prelude.{◌≡◌, ℕ, zero, suc, ◌-◌, min, List, [], ◌∷◌, ◌++◌, length, get_or}
use Rattle.site_traits.specs.declared.set_clock.SetClock.{SetClock}

-- the value that it gives after so many calls: the next one, or the last, or 0 where there is none
abbrev pub value_at : List ℕ → ℕ → ℕ
value_at values k = get_or values (min k (length values - 1)) 0

-- the values that it gave in so many calls, the oldest first
abbrev pub given : List ℕ → ℕ → List ℕ
given values zero = []
given values (suc k) = given values k ++ value_at values k ∷ []

-- it has these values, and was not read yet
pub record IsSet (values : List ℕ) (c : SetClock) : Type 0 where
  pub values_are : c.values.items ≡ values
  pub calls : c.calls ≡ 0
