-- Which occurrences the manager works on, in the order of their numbers (SOL 003 5.6.2).
use Rattle.std.specs.Prelude.{Bool, List, Option, [], filter, find, if◌then◌else◌, map, nat_lt, not, reverse, suc, ℕ}
use Rattle.std.specs.Prelude.{◌<◌, ◌++◌, ◌==◌, ◌∷◌}
use Rattle.lcm_events.specs.declared.events.Event.{Event}
use Rattle.lcm_events.specs.declared.events.EventKind.{EventKind}
use Rattle.lcm_events.specs.declared.events.EventKind.TheVariants.{Asked, Moved}
use Rattle.lcm_events.specs.declared.events.Operation.{Operation}
use Rattle.lcm_events.specs.declared.states.OpState.{OpState}
use Rattle.lcm_model.specs.Moves.{is_active, state}
use Rattle.lcm_model.specs.Operations.{operations}

-- the manager works on the occurrence of an operation (own rule)
abbrev pub is_worked_on : List Event → Operation → Bool
is_worked_on H a = is_active (state H a.occ)

-- the numbers of the active occurrences, the least first (own rule)
abbrev pub active : List Event → List ℕ
active H = reverse (map (λ a. a.occ) (filter (is_worked_on H) (operations H)))

-- the least number above this one of an active occurrence (own rule)
abbrev pub next_active : List Event → ℕ → Option ℕ
next_active H after = find (λ n. nat_lt after n) (active H)

-- numbers rise
abbrev pub Rises : List ℕ → Type 0
Rises [] = Unit {0}
Rises (n ∷ []) = Unit {0}
Rises (m ∷ n ∷ ns) = (m < n) × Rises (n ∷ ns)

-- how many numbers stand before the first that isn't below this one
abbrev pub first_from : ℕ → List ℕ → ℕ
first_from n [] = 0
first_from n (m ∷ ms) = if nat_lt m n then suc (first_from n ms) else 0

-- rising numbers with one more, where it isn't there
abbrev pub with_number : ℕ → List ℕ → List ℕ
with_number n [] = n ∷ []
with_number n (m ∷ ms) = if nat_lt m n then m ∷ with_number n ms else if m == n then m ∷ ms else n ∷ m ∷ ms

-- numbers without one
abbrev pub without_number : ℕ → List ℕ → List ℕ
without_number n ms = filter (λ m. not (m == n)) ms

-- the active numbers after a move to this state
abbrev pub active_moved : ℕ → OpState → List ℕ → List ℕ
active_moved o to ns = if is_active to then with_number o ns else without_number o ns

-- the active numbers after an event
abbrev pub active_after : EventKind → List ℕ → List ℕ
active_after (Asked a) ns = ns ++ a.occ ∷ []
active_after (Moved o to) ns = active_moved o to ns
active_after _ ns = ns
