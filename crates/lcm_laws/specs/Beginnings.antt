-- The beginnings of a legal history (own rule).
use Rattle.std.specs.Prelude.{List, ℕ, ◌++◌, ◌∷◌}
use Rattle.lcm_events.specs.declared.events.Event.{Event}
use Rattle.lcm_model.specs.Allowed.{IsAllowedWithin, IsLegalWithin}

-- the beginning of a legal history is legal: whatever came later (own rule)
abbrev pub BeginningsAreLegal : Type 0
BeginningsAreLegal = (width m : ℕ) (H later : List Event) → IsLegalWithin width m (later ++ H) → IsLegalWithin width m H

-- each event of a legal history was allowed after the events before it (own rule)
abbrev pub EachEventWasAllowed : Type 0
EachEventWasAllowed = (width m : ℕ) (H : List Event) (e : Event) (later : List Event)
    → IsLegalWithin width m (later ++ e ∷ H) → IsAllowedWithin width m H e.kind
