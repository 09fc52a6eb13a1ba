-- No event's bytes begin another's (own format).
use Rattle.std.specs.Prelude.{ℕ, ◌≡◌, List, ◌++◌}
use Rattle.lcm_events.specs.declared.events.Event.{Event}
use Rattle.event_codec.specs.Spell.{spelling}
use Rattle.event_codec.specs.Valid.{IsEvent}

-- bytes that begin with the spellings of two events begin with one event's (own format)
abbrev pub NoSpellingBeginsAnother : Type 0
NoSpellingBeginsAnother =
    (e f : Event) (rest behind : List ℕ) → IsEvent e → IsEvent f → spelling e ++ rest ≡ spelling f ++ behind → e ≡ f
