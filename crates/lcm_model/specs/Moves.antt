-- The states of an operation occurrence, and which may follow which (SOL 003 5.6.2, States and state transitions).
use Rattle.std.specs.List.{list_any}
use Rattle.std.specs.Prelude.{Bool, List, None, Option, Some, [], false, filter_map, if◌then◌else◌, true, unwrap_or, ℕ}
use Rattle.std.specs.Prelude.{◌++◌, ◌==◌, ◌∷◌, ◌≡◌}
use Rattle.lcm_events.specs.Same.{same_state}
use Rattle.lcm_events.specs.declared.events.Event.{Event}
use Rattle.lcm_events.specs.declared.events.EventKind.{EventKind}
use Rattle.lcm_events.specs.declared.events.EventKind.TheVariants.{Moved}
use Rattle.lcm_events.specs.declared.states.OpState.{OpState}
use Rattle.lcm_events.specs.declared.states.OpState.TheVariants.{Completed, Failed, FailedTemp, Processing, RolledBack}
use Rattle.lcm_events.specs.declared.states.OpState.TheVariants.{RollingBack, Starting}
use Rattle.lcm_model.specs.Words.{first}

-- the states that may follow this one (SOL 003 5.6.2)
abbrev pub next_states : OpState → List OpState
next_states Starting = Processing ∷ RolledBack ∷ []
next_states Processing = Completed ∷ FailedTemp ∷ []
next_states FailedTemp = Processing ∷ RollingBack ∷ Failed ∷ []
next_states RollingBack = RolledBack ∷ FailedTemp ∷ []
next_states Completed = []
next_states Failed = []
next_states RolledBack = []

-- an occurrence may go from the one state to the other (SOL 003 5.6.2)
abbrev pub edge : OpState → OpState → Bool
edge from to = list_any (same_state to) (next_states from)

-- no state follows (SOL 003 5.6.2)
abbrev pub is_final : OpState → Bool
is_final Completed = true
is_final Failed = true
is_final RolledBack = true
is_final _ = false

-- the manager works on the occurrence (own rule)
abbrev pub is_active : OpState → Bool
is_active Starting = true
is_active Processing = true
is_active RollingBack = true
is_active _ = false

-- where an event moves the occurrence (own rule)
abbrev pub moved_to : ℕ → EventKind → Option OpState
moved_to o (Moved occ to) = if occ == o then Some to else None
moved_to o _ = None

-- the states of an occurrence, the latest first: STARTING, and then those that it was moved to (SOL 003 5.6.2)
abbrev pub moves : List Event → ℕ → List OpState
moves H o = filter_map (λ e. moved_to o e.kind) H ++ Starting ∷ []

-- the state that an occurrence is in (SOL 003 5.6.2)
abbrev pub state : List Event → ℕ → OpState
state H o = unwrap_or (first (moves H o)) Starting

-- these states, the latest first, are a path of the graph from STARTING (SOL 003 5.6.2)
abbrev pub IsPath : List OpState → Type 0
IsPath [] = ⊥
IsPath (at ∷ []) = at ≡ Starting
IsPath (to ∷ from ∷ earlier) = (edge from to ≡ true) × IsPath (from ∷ earlier)
