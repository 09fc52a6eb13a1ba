-- Which events are told of, and what is known of the operation that each is about (own rule).
use Rattle.std.specs.Option.{option_map_or}
use Rattle.std.specs.Prelude.{Bool, List, None, Option, Some, false, option_and_then, option_map, true, ℕ, ◌&&◌, ◌==◌}
use Rattle.history_report.specs.declared.chosen.Chosen.{Chosen}
use Rattle.lcm_events.specs.declared.descriptor.Vnfd.{Vnfd}
use Rattle.lcm_events.specs.declared.events.Event.{Event}
use Rattle.lcm_events.specs.declared.events.EventKind.{EventKind}
use Rattle.lcm_events.specs.declared.events.EventKind.TheVariants.{Asked, Created, Deleted}
use Rattle.lcm_model.specs.Lives.{descriptor_named}
use Rattle.lcm_model.specs.Operations.{occurrence_of}
use Rattle.occ_table.specs.Rows.{occurrence}
use Rattle.occ_table.specs.declared.rows.OccRow.{OccRow}

-- what the whole history says of the occurrence that an event is about (SOL 003 5.5.2.13)
abbrev pub row_of : List Event → EventKind → Option OccRow
row_of H k = option_and_then (λ o. occurrence H o) (occurrence_of k)

-- the descriptor of the instance of an occurrence with this row (SOL 003 5.5.2.2)
abbrev pub vnfd_of : List Event → Option OccRow → Option Vnfd
vnfd_of H row = option_and_then (λ r. descriptor_named H r.vnfd) row

-- the instance that an event is about, by what is known of its occurrence
abbrev pub instance_of : Option OccRow → EventKind → Option ℕ
instance_of row (Created instance vnfd name text) = Some instance
instance_of row (Deleted instance) = Some instance
instance_of row (Asked a) = Some a.instance
instance_of row _ = option_map (λ r. r.instance) row

-- the occurrence that an event is about, or that it asks for
abbrev pub occurrence_in : EventKind → Option ℕ
occurrence_in (Asked a) = Some a.occ
occurrence_in k = occurrence_of k

-- nothing is asked for, or what is found is what is asked for
abbrev pub is_wanted : Option ℕ → Option ℕ → Bool
is_wanted None found = true
is_wanted (Some n) found = option_map_or (λ k. n == k) found false

-- an event is chosen: it is about the instance and the occurrence that are asked for
abbrev pub is_chosen : Chosen → Option OccRow → EventKind → Bool
is_chosen c row k = is_wanted c.instance (instance_of row k) && is_wanted c.occurrence (occurrence_in k)
