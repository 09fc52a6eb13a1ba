-- The open attempts of an occurrence, event by event (own rule).
use Rattle.std.specs.Prelude.{List, None, false, filter, if◌then◌else◌, length, not, true, ℕ, ◌==◌, ◌∷◌, ◌≡◌, ◌≤◌}
use Rattle.lcm_events.specs.Same.{same_tag}
use Rattle.lcm_events.specs.declared.attempts.Outcome.{Outcome}
use Rattle.lcm_events.specs.declared.attempts.Tag.{Tag}
use Rattle.lcm_events.specs.declared.events.Event.{Event}
use Rattle.lcm_events.specs.declared.events.EventKind.{EventKind}
use Rattle.lcm_events.specs.declared.events.EventKind.TheVariants.{Intent, Settled}
use Rattle.lcm_model.specs.Allowed.{IsAllowedWithin, IsLegalWithin}
use Rattle.lcm_model.specs.Attempts.{intent_in, is_open, is_settled, open_of, settled_in}

-- an attempt that is open hasn't ended (own rule)
abbrev pub OpenAttemptsHaveNotEnded : Type 0
OpenAttemptsHaveNotEnded = (H : List Event) (t : Tag) → is_open H t ≡ true → is_settled H t ≡ false

-- an attempt that begins is the latest open one of its occurrence, and those of the others stay (own rule)
abbrev pub BegunAttemptsAreOpen : Type 0
BegunAttemptsAreOpen =
    (width m : ℕ) (H : List Event) (time : ℕ) (t : Tag) → IsLegalWithin width m H → IsAllowedWithin width m H (Intent t)
    → (o : ℕ) → open_of (record { moment = time; kind = Intent t } ∷ H) o
    ≡ (if t.occ == o then t ∷ open_of H o else open_of H o)

-- once an attempt has ended, the others stay open (own rule)
abbrev pub EndedAttemptsAreNotOpen : Type 0
EndedAttemptsAreNotOpen =
    (H : List Event) (time : ℕ) (t : Tag) (outcome : Outcome) (o : ℕ)
    → open_of (record { moment = time; kind = Settled t outcome } ∷ H) o
    ≡ filter (λ x. not (same_tag x t)) (open_of H o)

-- an event that neither begins an attempt nor ends one leaves the open attempts (own rule)
abbrev pub OtherEventsLeaveAttempts : Type 0
OtherEventsLeaveAttempts =
    (H : List Event) (time : ℕ) (k : EventKind) → intent_in k ≡ None → settled_in k ≡ None
    → (o : ℕ) → open_of (record { moment = time; kind = k } ∷ H) o ≡ open_of H o

-- in a legal history an occurrence has at most as many open attempts as may be open at once (own rule)
abbrev pub OpenAttemptsFitTheWindow : Type 0
OpenAttemptsFitTheWindow = (width m : ℕ) (H : List Event) → IsLegalWithin width m H → (o : ℕ)
    → length (open_of H o) ≤ width
