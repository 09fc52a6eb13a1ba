-- What a request to create an instance comes to (SOL 003 5.4.2.3.1). The order of the refusals is an own rule.
use Rattle.std.specs.Prelude.{ℕ, ◌+◌, List, length, codes, nat_le, if◌then◌else◌, Bool, false, Option, Some, None}
use Rattle.std.specs.Prelude.{Result, Ok, Err}
use Rattle.lcm_events.specs.declared.events.Event.{Event}
use Rattle.lcm_events.specs.declared.events.EventKind.TheVariants.{Created}
use Rattle.lcm_events.specs.declared.descriptor.Vnfd.{Vnfd}
use Rattle.lcm_model.specs.Lives.{descriptor_named, instances_made, live_instances}
use Rattle.json_bodies.specs.Body.{create_of}
use Rattle.json_views.specs.Instance.{instance_path, created_text}
use Rattle.json_bodies.specs.declared.body.CreateBody.{CreateBody}
use Rattle.json_bodies.specs.declared.body.BodyFault.{BodyFault}
use Rattle.http_wire.specs.declared.request.Request.{Request}
use Rattle.lcm_api.specs.Bodies.{unread}
use Rattle.lcm_api.specs.Media.{is_json}
use Rattle.lcm_api.specs.Planning.{refused, told}
use Rattle.lcm_model.specs.declared.limits.TheConstants.{MAX_INSTANCES}
use Rattle.lcm_api.specs.declared.record.Planned.{Planned}
use Rattle.lcm_api.specs.declared.record.Planned.TheVariants.{Records}
use Rattle.lcm_replies.specs.declared.reply.Reply.{Reply}

-- the event of a create request: the next instance, with what the body says (SOL 003 5.4.2)
abbrev pub creation : List Event → ℕ → CreateBody → Event
creation H now body = record { moment = now; kind = Created (instances_made H + 1) body.vnfd body.name body.text }

-- the answer to it: the instance and where it is found (SOL 003 5.4.2, 5.5.2.2)
unfoldable pub created : ℕ → ℕ → CreateBody → Vnfd → Bool → Reply
created m n body vnfd last = record {
  status = 201;
  location = Some (instance_path m n);
  allow = None;
  problem = false;
  body = created_text m n body vnfd;
  last = last;
}

-- a create request whose body says this, where its descriptor was onboarded: whether one more may be live
abbrev pub described_outcome : ℕ → List Event → ℕ → CreateBody → Bool → Option Vnfd → Planned
described_outcome m H now body last None = refused 422 (codes "vnfdId is not onboarded") last
described_outcome m H now body last (Some vnfd) =
    if nat_le MAX_INSTANCES (length (live_instances H)) then refused 507 (codes "too many instances") last
    else Records (creation H now body) (created m (instances_made H + 1) body vnfd last)

-- a create request whose body says this
abbrev pub create_outcome : ℕ → List Event → ℕ → CreateBody → Bool → Planned
create_outcome m H now body last = described_outcome m H now body last (descriptor_named H body.vnfd)

-- a create request with this body, as it is read
abbrev pub body_outcome : ℕ → List Event → ℕ → Result CreateBody BodyFault → Bool → Planned
body_outcome m H now (Ok body) last = create_outcome m H now body last
body_outcome m H now (Err fault) last = told (unread fault last)

-- what a request to create an instance comes to: its body is to be JSON
abbrev pub create_instance : ℕ → List Event → ℕ → Request → Planned
create_instance m H now r =
    if is_json r.media then body_outcome m H now (create_of r.body) r.last
    else refused 415 (codes "body must be application/json") r.last
