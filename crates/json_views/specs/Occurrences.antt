-- The view of the occurrences (SOL 003 5.4.12.3.2, GET on VNF LCM operation occurrences), and when their rows can be
-- shown.
use Rattle.std.specs.List.{range_with_len}
use Rattle.std.specs.Option.{option_map_or}
use Rattle.std.specs.Prelude.{List, Option, Some, filter_map, is_some, length, option_map, slice_get, true, ℕ, ◌+◌, ◌-◌}
use Rattle.std.specs.Prelude.{◌<◌, ◌≡◌}
use Rattle.serde_json.specs.Data.{Data, array, null}
use Rattle.serde_json.specs.View.{items_of}
use Rattle.serde_json.specs.Written.{compact_text}
use Rattle.vnfm_base.specs.Ident.{IsIdentNumber}
use Rattle.lcm_events.specs.declared.events.Event.{Event}
use Rattle.lcm_model.specs.Allowed.{IsLegalWithin}
use Rattle.instance_table.specs.Rows.{Rows}
use Rattle.instance_table.specs.Rows as instances
use Rattle.instance_table.specs.Table.{vnfd_named}
use Rattle.occ_table.specs.Rows.{StandsFor, occurrence}
use Rattle.occ_table.specs.declared.rows.OccRow.{OccRow}
use Rattle.json_views.specs.Occurrence.{occurrence_shown}
use Rattle.json_views.specs.declared.occurrences.TheConstants.{MAX_LISTED}

-- the places of the rows that a list shows, from 0: the last ones of so many (SOL 003 5.4.12.3.2; the limit is an own
-- one)
abbrev pub listed : ℕ → List ℕ
listed made = range_with_len (made - MAX_LISTED) (made - (made - MAX_LISTED))

-- occurrence n, of this row, as the descriptor that the row names has it; null where that isn't there (SOL 003
-- 5.5.2.13)
abbrev pub occurrence_row : ℕ → Rows → ℕ → OccRow → Data
occurrence_row manager rs n row = option_map_or (occurrence_shown manager n row) (vnfd_named rs row.vnfd) null

-- the occurrence whose row is at this place: its number is one more (SOL 003 5.4.12)
abbrev pub occurrence_at : ℕ → Rows → List OccRow → ℕ → Option Data
occurrence_at manager rs os place = option_map (occurrence_row manager rs (place + 1)) (slice_get os place)

-- the occurrences of the 10,000 greatest numbers, in the order of their numbers (SOL 003 5.4.12.3.2)
abbrev pub occurrences_listed : ℕ → Rows → List OccRow → List Data
occurrences_listed manager rs os = filter_map (occurrence_at manager rs os) (listed (length os))

abbrev pub occurrences_value : ℕ → Rows → List OccRow → Data
occurrences_value manager rs os = array (items_of (occurrences_listed manager rs os))

-- its text
unfoldable pub occurrences_text : ℕ → Rows → List OccRow → List ℕ
occurrences_text manager rs os = compact_text (occurrences_value manager rs os)

-- the row of occurrence n can be shown: its number and that of its instance are those of identifiers, and its
-- descriptor is there (own rule)
pub record IsOccurrenceShowable (rs : Rows) (n : ℕ) (row : OccRow) : Type 0 where
  pub number : IsIdentNumber n
  pub instance : IsIdentNumber row.instance
  pub onboarded : is_some (vnfd_named rs row.vnfd) ≡ true

-- the rows are those of a legal history
pub record AreOfLegal (os : List OccRow) : Type 0 where
  pub width : ℕ
  pub manager : ℕ
  pub history : List Event
  pub legal : IsLegalWithin width manager history
  pub stands : StandsFor os history

-- all occurrences can be shown: each row by the number of its place (own rule)
pub record CanOccurrencesBeShown (rs : Rows) (os : List OccRow) : Type 0 where
  pub of_legal : AreOfLegal os
  pub few : length os < 4611686018427387903
  pub each : (place : ℕ) (row : OccRow) → slice_get os place ≡ Some row → IsOccurrenceShowable rs (place + 1) row

-- all rows can be shown, and each that is found by its number (own rule)
pub record CanEachBeShown (rs : Rows) (os : List OccRow) (H : List Event) : Type 0 where
  pub all : CanOccurrencesBeShown rs os
  pub each : (n : ℕ) (row : OccRow) → occurrence H n ≡ Some row → IsOccurrenceShowable rs n row

-- the occurrences of a legal history can be shown, while identifiers can carry the numbers of its events (own rule)
abbrev pub LegalOccurrencesCanBeShown : Type 0
LegalOccurrencesCanBeShown =
    (width m : ℕ) (H : List Event) (rs : Rows) (os : List OccRow) → length H < 4611686018427387903
    → IsLegalWithin width m H → instances.StandsFor rs H → StandsFor os H
    → CanEachBeShown rs os H
