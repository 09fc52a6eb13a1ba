-- What a request for a task of an instance comes to: it asks for an operation by its body (SOL 003 5.4.4 to 5.4.10).
-- The order of the refusals and their texts are an own rule.
use Rattle.std.specs.Prelude.{ℕ, ◌+◌, ◌≡◌, List, [], codes, if◌then◌else◌, Bool, false, Option, Some, None, Result}
use Rattle.std.specs.Prelude.{Ok, Err}
use Rattle.http_wire.specs.declared.request.Request.{Request}
use Rattle.instance_table.specs.declared.rows.InstanceRow.{InstanceRow}
use Rattle.json_views.specs.Occurrence.{occurrence_path}
use Rattle.json_bodies.specs.declared.body.BodyFault.{BodyFault}
use Rattle.lcm_events.specs.declared.asks.Ask.{Ask}
use Rattle.lcm_events.specs.declared.asks.OpKind.{OpKind}
use Rattle.lcm_events.specs.declared.descriptor.Vnfd.{Vnfd}
use Rattle.lcm_events.specs.declared.events.Event.{Event}
use Rattle.lcm_events.specs.declared.events.EventKind.TheVariants.{Asked}
use Rattle.lcm_events.specs.declared.events.Operation.{Operation}
use Rattle.lcm_events.specs.declared.states.Role.{Role}
use Rattle.lcm_model.specs.Lives.{descriptor}
use Rattle.lcm_model.specs.Operations.{occurrences_made}
use Rattle.lcm_model.specs.Plans.{plan}
use Rattle.lcm_model.specs.Refusals.{ask_refusal, case_in, situation}
use Rattle.lcm_model.specs.declared.refusals.Refusal.{Refusal}
use Rattle.lcm_api.specs.Asked.{NamesFewTexts, ask_by, asked_in}
use Rattle.lcm_api.specs.Bodies.{unread}
use Rattle.lcm_api.specs.Instances.{asked_id, named_instance, no_instance}
use Rattle.lcm_api.specs.Media.{is_json}
use Rattle.lcm_api.specs.Refusals.{refused_for}
use Rattle.lcm_api.specs.Planning.{refused, told}
use Rattle.lcm_api.specs.declared.asks.AskVerdict.{AskVerdict}
use Rattle.lcm_api.specs.declared.asks.AskVerdict.TheVariants as verdict
use Rattle.lcm_api.specs.declared.asked.AskedBody.{AskedBody}
use Rattle.lcm_api.specs.declared.record.Planned.{Planned}
use Rattle.lcm_api.specs.declared.record.Planned.TheVariants.{Records}
use Rattle.lcm_replies.specs.declared.reply.Reply.{Reply}

-- the operation that an instance with this descriptor is asked for: the next occurrence, with its plan (SOL 003 5.4.4
-- to 5.4.10)
abbrev pub operation_asked : List Event → ℕ → Role → Ask → Vnfd → Operation
operation_asked H i role ask d = record {
  occ = occurrences_made H + 1;
  instance = i;
  role = role;
  ask = ask;
  changes =
      plan (case_in d (situation d H i) ask);
}

-- its event
abbrev pub asking : ℕ → Operation → Event
asking now a = record { moment = now; kind = Asked a }

-- the answer to it: where its occurrence is found (SOL 003 5.4.4.3.1; RFC 9110 15.3.3)
unfoldable pub accepted : ℕ → ℕ → Bool → Reply
accepted m occ last = record {
  status = 202;
  location = Some (occurrence_path m occ);
  allow = None;
  problem = false;
  body = [];
  last = last;
}

-- this operation is asked for, by why it is refused
abbrev pub ask_judged : ℕ → List Event → ℕ → Operation → Bool → Option Refusal → Planned
ask_judged m H now a last (Some why) = refused_for why last
ask_judged m H now a last None = Records (asking now a) (accepted m a.occ last)

-- an instance with this descriptor is asked for this
abbrev pub asked_of : ℕ → List Event → ℕ → Role → ℕ → Vnfd → Bool → Ask → Planned
asked_of m H now role i d last ask = ask_judged m H now (operation_asked H i role ask d) last
    (ask_refusal d (situation d H i) ask)

-- an instance is asked for what depends on its descriptor; each that is live has one
abbrev pub ask_described : ℕ → List Event → ℕ → Role → ℕ → (Vnfd → Ask) → Bool → Option Vnfd → Planned
ask_described m H now role i ask last None = no_instance last
ask_described m H now role i ask last (Some d) = asked_of m H now role i d last (ask d)

-- the live instance of this row is asked for what a body says: the ask is made once the instance is found
abbrev pub ask_found : ℕ → List Event → ℕ → Role → AskedBody → Bool → Option InstanceRow → Planned
ask_found m H now role body last None = no_instance last
ask_found m H now role body last (Some row) = ask_described m H now role row.number (λ d. ask_by d body) last
    (descriptor H row.number)

-- the instance that a request names is asked for this (SOL 003 5.4.4 to 5.4.10)
abbrev pub ask_named : ℕ → List Event → ℕ → Role → AskedBody → Request → Planned
ask_named m H now role body r = ask_found m H now role body r.last (named_instance m H (asked_id r))

-- a request for a task of an instance with this body, as it is read
abbrev pub ask_read : ℕ → List Event → ℕ → Role → Result AskedBody BodyFault → Request → Planned
ask_read m H now role (Ok body) r = ask_named m H now role body r
ask_read m H now role (Err fault) r = told (unread fault r.last)

-- an operation that isn't served yet is refused of each instance
abbrev pub unserved_found : Bool → Option InstanceRow → Planned
unserved_found last None = no_instance last
unserved_found last (Some row) = refused 404 (codes "task is not supported") last

abbrev pub unserved : ℕ → List Event → Request → Planned
unserved m H r = unserved_found r.last (named_instance m H (asked_id r))

-- a request for a task of an instance, by what its body says: it is to be JSON. Of an operation that isn't served yet
-- it isn't read.
abbrev pub task_with : ℕ → List Event → ℕ → Role → Request → Option (Result AskedBody BodyFault) → Planned
task_with m H now role r None = unserved m H r
task_with m H now role r (Some read) =
    if is_json r.media then ask_read m H now role read r
    else refused 415 (codes "body must be application/json") r.last

-- what a request for this task of an instance comes to
abbrev pub instance_task : ℕ → List Event → ℕ → Role → OpKind → Request → Planned
instance_task m H now role kind r = task_with m H now role r (asked_in kind r.body)

-- whatever the history, a request for this task is refused with this reply, asks for what a body says, which names few
-- machines, or asks for what isn't served yet
abbrev pub IsAskVerdict : OpKind → Request → AskVerdict → Type 0
IsAskVerdict kind r (verdict.Refused reply) = (m : ℕ) (H : List Event) (now : ℕ) (role : Role)
    → instance_task m H now role kind r ≡ told reply
IsAskVerdict kind r (verdict.Asks body) =
    NamesFewTexts body
    × ((m : ℕ) (H : List Event) (now : ℕ) (role : Role)
    → instance_task m H now role kind r ≡ ask_named m H now role body r)
IsAskVerdict kind r verdict.Unserved = (m : ℕ) (H : List Event) (now : ℕ) (role : Role)
    → instance_task m H now role kind r ≡ unserved m H r
