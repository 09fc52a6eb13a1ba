-- What a cancel does to the work of an active occurrence (SOL 003 5.4.17, Cancel operation task; 5.6.2).
use Rattle.std.specs.Prelude.{Bool, List, Option, Some, false, if◌then◌else◌, is_some, not, option_map, true, ℕ, ◌≡◌}
use Rattle.std.specs.Prelude.{◌⊎◌}
use Rattle.lcm_events.specs.declared.events.Event.{Event}
use Rattle.lcm_events.specs.declared.states.CancelMode.{CancelMode}
use Rattle.lcm_events.specs.declared.states.CancelMode.TheVariants.{Forceful, Graceful}
use Rattle.lcm_events.specs.declared.states.OpState.{OpState}
use Rattle.lcm_events.specs.declared.states.OpState.TheVariants.{FailedTemp, RolledBack, Starting}
use Rattle.lcm_model.specs.declared.actions.Action.{Action}
use Rattle.lcm_model.specs.declared.actions.Action.TheVariants.{AbortAndLook, AskForGrant, Look, MoveTo, Poll}
use Rattle.lcm_model.specs.Grants.{has_ended}
use Rattle.lcm_model.specs.Moves.{is_active, state}
use Rattle.lcm_model.specs.Next.{first_open, next_action}
use Rattle.lcm_model.specs.Operations.{operation}
use Rattle.lcm_model.specs.Since.{is_cancelled, is_forced}

-- the occurrence leaves its state at once: nothing is waited for, or nothing but the grant and the cancel is FORCEFUL
-- (SOL 003 5.4.17)
abbrev pub Leaves : OpState → CancelMode → Bool → Type 0
Leaves state mode waiting = (waiting ≡ false) ⊎ ((state ≡ Starting) × (mode ≡ Forceful))

-- what is under way is stopped first: resources are being worked on and the cancel is FORCEFUL (SOL 003 5.4.17)
abbrev pub Halts : OpState → CancelMode → Bool → Type 0
Halts state mode waiting = (waiting ≡ true) × (mode ≡ Forceful) × ¬ (state ≡ Starting)

-- what is under way is waited for: the cancel is GRACEFUL (SOL 003 5.4.17)
abbrev pub Waits : CancelMode → Bool → Type 0
Waits mode waiting = (waiting ≡ true) × (mode ≡ Graceful)

-- an occurrence in this state waits: in STARTING for the end of the grant exchange, else for an open attempt (own rule)
abbrev pub is_waiting : OpState → List Event → ℕ → Bool
is_waiting Starting H o = not (has_ended H o)
is_waiting _ H o = is_some (first_open H o)

-- the mode of the cancels in force: FORCEFUL once one of them is (SOL 003 5.5.2.14, CancelMode)
abbrev pub mode_in_force : List Event → ℕ → CancelMode
mode_in_force H o = if is_forced H o then Forceful else Graceful

-- the state for which cancelled work leaves this one (SOL 003 5.6.2)
abbrev pub left_for : OpState → OpState
left_for Starting = RolledBack
left_for _ = FailedTemp

-- the action goes on with what is under way: with the grant exchange in STARTING, else with the open attempt (own rule)
abbrev pub GoesOn : OpState → List Event → ℕ → Option Action → Type 0
GoesOn Starting H o next = (next ≡ Some Poll) ⊎ (next ≡ Some AskForGrant)
GoesOn _ H o next = next ≡ option_map Look (first_open H o)

-- the action takes the step of the cancel that is in force (own rule)
pub record TakesStep (at : OpState) (H : List Event) (o : ℕ) (next : Option Action) : Type 0 where
  pub leaves : Leaves at (mode_in_force H o) (is_waiting at H o) → next ≡ Some (MoveTo (left_for at))
  pub halts : Halts at (mode_in_force H o) (is_waiting at H o) → next ≡ option_map AbortAndLook (first_open H o)
  pub waits : Waits (mode_in_force H o) (is_waiting at H o) → GoesOn at H o next

-- after every history the next action of an active occurrence takes the step of the cancel that is in force (own rule)
abbrev pub CancelsAreTaken : Type 0
CancelsAreTaken = (H : List Event) (o : ℕ) → is_some (operation H o) ≡ true → is_active (state H o) ≡ true
    → is_cancelled H o ≡ true → TakesStep (state H o) H o (next_action H o)
