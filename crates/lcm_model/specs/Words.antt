-- Small words over histories. A history is a list of events, the latest first, so that an event stands before its past.
use Rattle.std.specs.List.{cons_option, list_any}
use Rattle.std.specs.Prelude.{unwrap_or, ◌+◌, Bool, List, None, Option, Some, [], false, max, not, true, ℕ, ◌==◌, ◌∷◌}
use Rattle.std.specs.Prelude.{◌≡◌, ◌⊎◌}
use Rattle.lcm_events.specs.declared.events.Event.{Event}
use Rattle.lcm_events.specs.declared.events.EventKind.{EventKind}

-- what a question to each event and its past gives, the latest first (own rule)
abbrev pub told : {A : Type 0} → (List Event → EventKind → Option A) → List Event → List A
told ask [] = []
told ask (e ∷ H) = cons_option (ask H e.kind) (told ask H)

-- x is in the list (own rule)
abbrev pub IsIn : {A : Type 0} → A → List A → Type 0
IsIn x [] = ⊥
IsIn x (y ∷ ys) = (y ≡ x) ⊎ IsIn x ys

-- the number is in the list (own rule)
abbrev pub is_among : List ℕ → ℕ → Bool
is_among ns n = list_any (λ m. m == n) ns

-- the first entry of a list (own rule)
abbrev pub first : {A : Type 0} → List A → Option A
first [] = None
first (x ∷ xs) = Some x

-- the last entry of a list: the last of the rest, or else the first (own rule)
abbrev pub last : {A : Type 0} → List A → Option A
last [] = None
last (x ∷ xs) = Some (unwrap_or (last xs) x)

-- the greatest of some numbers, or 0 (own rule)
abbrev pub greatest : List ℕ → ℕ
greatest [] = 0
greatest (n ∷ ns) = max n (greatest ns)

-- the value, where the condition holds (own rule)
abbrev pub when : {A : Type 0} → Bool → A → Option A
when true x = Some x
when false x = None

-- the first of these that is there: a table, read from its first line (own rule)
abbrev pub first_some : {A : Type 0} → List (Option A) → Option A
first_some [] = None
first_some (None ∷ lines) = first_some lines
first_some (Some x ∷ lines) = Some x

-- two truth values are the same (own rule)
abbrev pub same_bool : Bool → Bool → Bool
same_bool true b = b
same_bool false b = not b

-- the first of two that is there (own rule)
abbrev pub otherwise : {A : Type 0} → Option A → Option A → Option A
otherwise (Some x) y = Some x
otherwise None y = y

-- the sum of some numbers (own rule)
abbrev pub total : List ℕ → ℕ
total [] = 0
total (n ∷ ns) = n + total ns
