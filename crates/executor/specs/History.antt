-- What a journal's file says happened (own rule, docs/JOURNAL.md). A history has the latest event first; the file has
-- the oldest first.
use Rattle.std.specs.Prelude.{ℕ, List, map, reverse}
use Rattle.std.specs.List.{AllByRecursion}
use Rattle.event_codec.specs.Spell.{spelling}
use Rattle.event_codec.specs.Valid.{IsEvent}
use Rattle.journal_records.specs.File.{HasRecords}
use Rattle.lcm_events.specs.declared.events.Event.{Event}

-- the spellings of the events, the oldest first
abbrev pub spellings : List Event → List (List ℕ)
spellings H = map spelling (reverse H)

-- the file is a made one of this manager, and its records are the spellings of these events
pub record HasHistory (m : ℕ) (H : List Event) (image : List ℕ) : Type 0 where
  pub file : HasRecords m (spellings H) image
  pub events : AllByRecursion IsEvent H
