-- A legal history, event by event.
use Rattle.std.proofs.Common.{ℕ, List, [], ◌∷◌, ◌++◌}
use Rattle.lcm_events.specs.declared.events.Event.{Event}
use Rattle.lcm_events.specs.declared.events.EventKind.{EventKind}
use Rattle.lcm_model.specs.Allowed.{IsAllowedWithin, IsLegalWithin}

-- the beginning of a legal history is legal
pub legal_before : (width m : ℕ) (H later : List Event) → IsLegalWithin width m (later ++ H) → IsLegalWithin width m H
legal_before width m H [] h = h
legal_before width m H (e ∷ later) h = legal_before width m H later h.1

-- each event was allowed after those before it
pub allowed_at : (width m : ℕ) (H : List Event) (e : Event) (later : List Event) → IsLegalWithin width m (later ++ e ∷ H)
    → IsAllowedWithin width m H e.kind
allowed_at width m H e later h = (legal_before width m (e ∷ H) later h).0

-- an event by its parts
abbrev pub event : ℕ → EventKind → Event
event t k = record { moment = t; kind = k }

-- what holds of the empty history and is kept by each allowed event holds of every legal history
pub legal_induction : (width m : ℕ) (P : List Event → Type 0) → P []
    → ((H : List Event) (t : ℕ) (k : EventKind) → IsLegalWithin width m H → IsAllowedWithin width m H k → P H → P (event t k ∷ H))
    → (H : List Event) → IsLegalWithin width m H → P H
legal_induction width m P none step [] h = none
legal_induction width m P none step (e ∷ H) h = step H e.moment e.kind h.1 h.0 (legal_induction width m P none step H h.1)
