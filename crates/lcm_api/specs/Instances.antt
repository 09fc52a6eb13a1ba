-- What a request to list, show or delete instances comes to (SOL 003 5.4.2.3.2, 5.4.3.3). The order of the refusals and
-- their texts are an own rule.
use Rattle.std.specs.Prelude.{ℕ, List, [], codes, if◌then◌else◌, Bool, false, Option, Some, None, find}
use Rattle.std.specs.Str.{bytes_eq}
use Rattle.http_wire.specs.declared.request.Request.{Request}
use Rattle.instance_table.specs.Rows.{Rows, instance_rows, rows}
use Rattle.instance_table.specs.declared.rows.InstanceRow.{InstanceRow}
use Rattle.json_views.specs.Instance.{instance_id}
use Rattle.json_views.specs.Instances.{instances_text, row_value}
use Rattle.lcm_events.specs.declared.events.Event.{Event}
use Rattle.lcm_events.specs.declared.events.EventKind.TheVariants.{Deleted}
use Rattle.lcm_model.specs.Refusals.{delete_refusal}
use Rattle.lcm_model.specs.declared.refusals.Refusal.{Refusal}
use Rattle.serde_json.specs.Written.{compact_text}
use Rattle.lcm_routes.specs.Targets.{asks_filter, identifier_in, path_of}
use Rattle.lcm_api.specs.Refusals.{refused_for}
use Rattle.lcm_api.specs.Planning.{refused, told}
use Rattle.lcm_replies.specs.Replies.{shown}
use Rattle.lcm_api.specs.declared.record.Planned.{Planned}
use Rattle.lcm_api.specs.declared.record.Planned.TheVariants.{Records}
use Rattle.lcm_replies.specs.declared.reply.Reply.{Reply}

-- all live instances, in the order of their numbers; a filter isn't served (SOL 003 5.4.2.3.2)
abbrev pub list_instances : ℕ → List Event → Request → Planned
list_instances m H r =
    if asks_filter r.target then refused 400 (codes "filter is not served") r.last
    else told (shown (instances_text m (rows H)) r.last)

-- the identifier in the path of a request
abbrev pub asked_id : Request → List ℕ
asked_id r = identifier_in (path_of r.target)

-- the row of the live instance that has this identifier (SOL 003 5.4.3)
abbrev pub named_instance : ℕ → List Event → List ℕ → Option InstanceRow
named_instance m H id = find (λ row. bytes_eq (instance_id m row.number) id) (instance_rows H)

-- no live instance has the identifier (SOL 003 5.4.3)
abbrev pub no_instance : Bool → Planned
no_instance last = refused 404 (codes "no such instance") last

-- the text of the view of an instance of this row (SOL 003 5.5.2.2)
unfoldable pub row_text : ℕ → Rows → InstanceRow → List ℕ
row_text m rs row = compact_text (row_value m rs row)

-- the instance is shown (SOL 003 5.4.3.3.2)
abbrev pub show_found : ℕ → List Event → Bool → Option InstanceRow → Planned
show_found m H last None = no_instance last
show_found m H last (Some row) = told (shown (row_text m (rows H) row) last)

abbrev pub show_instance : ℕ → List Event → Request → Planned
show_instance m H r = show_found m H r.last (named_instance m H (asked_id r))

-- the event of a deletion (SOL 003 5.4.3.3.5)
abbrev pub deletion : ℕ → ℕ → Event
deletion now n = record { moment = now; kind = Deleted n }

-- the answer to it (RFC 9110 15.3.5)
unfoldable pub deleted : Bool → Reply
deleted last = record { status = 204; location = None; allow = None; problem = false; body = []; last = last }

-- the deletion of this instance, by why it is refused
abbrev pub delete_judged : List Event → ℕ → ℕ → Bool → Option Refusal → Planned
delete_judged H now n last (Some why) = refused_for why last
delete_judged H now n last None = Records (deletion now n) (deleted last)

-- the instance is deleted, unless it is INSTANTIATED or an operation goes on (SOL 003 5.4.3.3.5)
abbrev pub delete_found : List Event → ℕ → Bool → Option InstanceRow → Planned
delete_found H now last None = no_instance last
delete_found H now last (Some row) = delete_judged H now row.number last (delete_refusal H row.number)

abbrev pub delete_instance : ℕ → List Event → ℕ → Request → Planned
delete_instance m H now r = delete_found H now r.last (named_instance m H (asked_id r))
