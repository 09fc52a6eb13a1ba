-- What a request to list or show occurrences comes to (SOL 003 5.4.12.3.2, 5.4.13.3.2). The order of the refusals and
-- their texts are an own rule.
use Rattle.std.specs.Prelude.{ℕ, List, codes, if◌then◌else◌, Bool, Option, Some, None, find}
use Rattle.std.specs.Str.{bytes_eq}
use Rattle.http_wire.specs.declared.request.Request.{Request}
use Rattle.instance_table.specs.Rows.{Rows}
use Rattle.instance_table.specs.Rows as instances
use Rattle.json_views.specs.Occurrence.{occurrence_id}
use Rattle.json_views.specs.Occurrences.{occurrence_row, occurrences_text}
use Rattle.lcm_events.specs.declared.events.Event.{Event}
use Rattle.lcm_events.specs.declared.events.Operation.{Operation}
use Rattle.lcm_model.specs.Operations.{operations}
use Rattle.lcm_routes.specs.Targets.{asks_filter}
use Rattle.occ_table.specs.Rows.{row, rows}
use Rattle.occ_table.specs.declared.rows.OccRow.{OccRow}
use Rattle.serde_json.specs.Written.{compact_text}
use Rattle.lcm_api.specs.Instances.{asked_id}
use Rattle.lcm_api.specs.Planning.{refused, told}
use Rattle.lcm_replies.specs.Replies.{shown}
use Rattle.lcm_api.specs.declared.record.Planned.{Planned}
use Rattle.lcm_replies.specs.declared.reply.Reply.{Reply}

-- the occurrences, in the order of their numbers; a filter isn't served (SOL 003 5.4.12.3.2)
abbrev pub list_occurrences : ℕ → List Event → Request → Planned
list_occurrences m H r =
    if asks_filter r.target then refused 400 (codes "filter is not served") r.last
    else told (shown (occurrences_text m (instances.rows H) (rows H)) r.last)

-- the operation whose occurrence has this identifier (SOL 003 5.4.13)
abbrev pub named_operation : ℕ → List Event → List ℕ → Option Operation
named_operation m H id = find (λ a. bytes_eq (occurrence_id m a.occ) id) (operations H)

-- no occurrence has the identifier (SOL 003 5.4.13)
abbrev pub no_occurrence : Bool → Planned
no_occurrence last = refused 404 (codes "no such occurrence") last

-- the text of the view of occurrence n, of this row (SOL 003 5.5.2.13)
unfoldable pub occurrence_row_text : ℕ → Rows → ℕ → OccRow → List ℕ
occurrence_row_text m rs n r = compact_text (occurrence_row m rs n r)

-- occurrence n, of this row, is shown (SOL 003 5.4.13.3.2)
abbrev pub shown_row : ℕ → List Event → Bool → ℕ → OccRow → Reply
shown_row m H last n r = shown (occurrence_row_text m (instances.rows H) n r) last

abbrev pub show_row : ℕ → List Event → Bool → ℕ → OccRow → Planned
show_row m H last n r = told (shown_row m H last n r)

-- the occurrence of an operation is shown
abbrev pub show_asked : ℕ → List Event → Bool → Option Operation → Planned
show_asked m H last None = no_occurrence last
show_asked m H last (Some a) = show_row m H last a.occ (row H a)

abbrev pub show_occurrence : ℕ → List Event → Request → Planned
show_occurrence m H r = show_asked m H r.last (named_operation m H (asked_id r))
