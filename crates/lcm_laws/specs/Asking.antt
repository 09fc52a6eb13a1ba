-- What is known of an occurrence that was asked for, and of one that wasn't (own rule).
use Rattle.std.specs.Prelude.{List, None, Some, [], false, filter_map, is_some, true, ℕ, ◌++◌, ◌∷◌, ◌≡◌}
use Rattle.lcm_events.specs.declared.attempts.Way.{Way}
use Rattle.lcm_events.specs.declared.events.Event.{Event}
use Rattle.lcm_events.specs.declared.events.EventKind.{EventKind}
use Rattle.lcm_events.specs.declared.states.OpState.TheVariants.{Starting}
use Rattle.lcm_model.specs.Allowed.{IsAllowedWithin, IsLegalWithin}
use Rattle.lcm_model.specs.Attempts.{attempts, done_count, open_of}
use Rattle.lcm_model.specs.Grants.{answers, grant}
use Rattle.lcm_model.specs.Moves.{moved_to, moves}
use Rattle.lcm_model.specs.Operations.{occurrence_of, operation}
use Rattle.lcm_model.specs.Since.{cancels, has_trouble}

-- an event is about an occurrence that was asked for before it (own rule)
abbrev pub EventsAreAboutOccurrences : Type 0
EventsAreAboutOccurrences =
    (width m : ℕ) (H : List Event) (k : EventKind) → IsLegalWithin width m H → IsAllowedWithin width m H k
    → (o : ℕ) → occurrence_of k ≡ Some o → is_some (operation H o) ≡ true

-- nothing was done to the occurrence (own rule)
pub record IsUntouched (H : List Event) (o : ℕ) : Type 0 where
  pub moves : moves H o ≡ Starting ∷ []
  pub attempts : (c : ℕ) → attempts H o c ≡ []
  pub none_open : open_of H o ≡ []
  pub none_done : (way : Way) (c : ℕ) → done_count way H o c ≡ 0
  pub answers : answers H o ≡ []
  pub grant : grant H o ≡ None
  pub cancels : cancels H o ≡ []
  pub no_trouble : has_trouble H o ≡ false

-- in a legal history nothing was done to an occurrence that wasn't asked for (own rule)
abbrev pub UnaskedOccurrencesAreUntouched : Type 0
UnaskedOccurrencesAreUntouched =
    (width m : ℕ) (H : List Event) → IsLegalWithin width m H → (o : ℕ) → operation H o ≡ None → IsUntouched H o

-- trouble lasts until the next move of the occurrence, whatever else comes (own rule)
abbrev pub TroubleLasts : Type 0
TroubleLasts =
    (H later : List Event) (o : ℕ) → has_trouble H o ≡ true → filter_map (λ e. moved_to o e.kind) later ≡ []
    → has_trouble (later ++ H) o ≡ true
