-- The events that the next action of an occurrence appends (own rule).
use Rattle.std.specs.Prelude.{List, Some, [], is_some, length, true, ℕ, ◌&&◌, ◌∷◌, ◌≡◌, ◌≤◌}
use Rattle.lcm_events.specs.declared.events.Event.{Event}
use Rattle.lcm_events.specs.declared.events.EventKind.{EventKind}
use Rattle.lcm_model.specs.declared.actions.Action.{Action}
use Rattle.lcm_model.specs.Allowed.{IsLegalWithin}
use Rattle.lcm_model.specs.Descriptors.{is_given}
use Rattle.lcm_model.specs.Grants.{IsPlacing}
use Rattle.lcm_model.specs.Work.{window}
use Rattle.lcm_model.specs.Moves.{is_active, state}
use Rattle.lcm_model.specs.Next.{Answer, GrantCame, appended, next_action}
use Rattle.lcm_model.specs.Operations.{changes, operation}

-- the history with these events at one moment, the latest first (own rule)
abbrev pub with_events : ℕ → List EventKind → List Event → List Event
with_events now [] H = H
with_events now (k ∷ ks) H = record { moment = now; kind = k } ∷ with_events now ks H

-- what is asked of an answer: a grant has an identifier, and a place for each change (SOL 003 9.5.2.3)
abbrev pub IsAnswer : List Event → ℕ → Answer → Type 0
IsAnswer H o (GrantCame grant places spots) = (is_given grant ≡ true) × IsPlacing places spots (length (changes H o))
IsAnswer H o _ = Unit {0}

-- a legal history stays legal by the events that the next action of an occurrence appends, for each answer (own rule)
abbrev pub NextActionsAreAllowed : Type 0
NextActionsAreAllowed =
    (width m : ℕ) (H : List Event) → window ≤ width → IsLegalWithin width m H
    → (o now : ℕ) (action : Action) (answer : Answer) → is_some (operation H o) ≡ true
    → next_action H o ≡ Some action → IsAnswer H o answer
    → IsLegalWithin width m (with_events now (appended o action answer) H)

-- an occurrence that was asked for has exactly one next action while it is active, and another none (own rule)
abbrev pub ActiveOccurrencesAct : Type 0
ActiveOccurrencesAct = (H : List Event) (o : ℕ) → is_some (next_action H o)
    ≡ (is_some (operation H o) && is_active (state H o))
