-- What the lists of a descriptor keep, whoever reads, spells or judges them.
use Rattle.std.specs.Cmp.Lexicographic.{slice_cmp}
use Rattle.std.specs.Ordering.{is_lt, nat_cmp}
use Rattle.std.specs.Prelude.{ℕ, Bool, true, List, [], ◌∷◌, ◌==◌, ◌||◌, ◌&&◌, if◌then◌else◌}

-- the first name stands before the second in byte order (own rule)
abbrev pub is_name_before : List ℕ → List ℕ → Bool
is_name_before a b = is_lt (slice_cmp nat_cmp a b)

-- each entry stands before the next one, by this test (own rule)
abbrev pub is_rising : {A : Type 0} → (A → A → Bool) → List A → Bool
is_rising before [] = true
is_rising before (x ∷ []) = true
is_rising before (x ∷ y ∷ xs) = before x y && is_rising before (y ∷ xs)

-- an aspect with this maximum may have so many deltas a row: none for 0, else one or one a step (SOL 001,
-- ScalingAspects, step_deltas)
abbrev pub is_valid_steps : ℕ → ℕ → Bool
is_valid_steps maximum steps = if maximum == 0 then steps == 0 else (steps == 1) || (steps == maximum)
