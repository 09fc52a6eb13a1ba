-- What is written so far, and the occurrences at the places that are left behind it, is the list.
use Rattle.std.proofs.Common.{◌≡◌, ◌-◌, length}
use Rattle.std.specs.List.{range_with_len}
use Rattle.std.specs.Prelude.{filter_map}
use Rattle.serde_json.specs.View.{items_of}
use Rattle.json_members.specs.Text.{with_value}
use Rattle.json_members.proofs.TextLaws.{with_items}
use Rattle.json_views.specs.Occurrences.{occurrence_at, occurrences_value}
use Rattle.json_views.proofs.occurrences.write_occurrences.Given as goal

abbrev pub invariant-loop-place : goal.invariant-loop-place
invariant-loop-place l =
    with_items (items_of (filter_map (occurrence_at l.fn.manager l.fn.instances.rows l.fn.occurrences.rows)
    (range_with_len l.place (length l.fn.occurrences.rows - l.place)))) l.text
    ≡ with_value (occurrences_value l.fn.manager l.fn.instances.rows l.fn.occurrences.rows) l.fn.text
