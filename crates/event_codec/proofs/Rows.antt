-- One event of each kind and its bytes, written out by hand after the format.
use Rattle.std.proofs.Common.{◌≡◌, ℕ, List, [], ◌∷◌, ◌++◌, Some, None, refl}
use Rattle.std.specs.Prelude.{codes}
use Rattle.lcm_events.specs.declared.asks.Aim.{Aim}
use Rattle.lcm_events.specs.declared.asks.Aim.TheVariants as aims
use Rattle.lcm_events.specs.declared.asks.Ask.{Ask}
use Rattle.lcm_events.specs.declared.asks.Ask.TheVariants as asks
use Rattle.lcm_events.specs.declared.asks.AspectLevel.{AspectLevel}
use Rattle.lcm_events.specs.declared.asks.OpKind.TheVariants as op
use Rattle.lcm_events.specs.declared.asks.ScaleWay.{ScaleWay}
use Rattle.lcm_events.specs.declared.asks.ScaleWay.TheVariants as scale
use Rattle.lcm_events.specs.declared.asks.StopType.{StopType}
use Rattle.lcm_events.specs.declared.asks.StopType.TheVariants as stop
use Rattle.lcm_events.specs.declared.asks.Vnfc.{Vnfc}
use Rattle.lcm_events.specs.declared.attempts.Outcome.{Outcome}
use Rattle.lcm_events.specs.declared.attempts.Outcome.TheVariants as outcomes
use Rattle.lcm_events.specs.declared.attempts.Tag.{Tag}
use Rattle.lcm_events.specs.declared.attempts.Way.{Way}
use Rattle.lcm_events.specs.declared.attempts.Way.TheVariants as ways
use Rattle.lcm_events.specs.declared.changes.Change.{Change}
use Rattle.lcm_events.specs.declared.changes.DefKind.{DefKind}
use Rattle.lcm_events.specs.declared.changes.DefKind.TheVariants as item
use Rattle.lcm_events.specs.declared.changes.Verb.{Verb}
use Rattle.lcm_events.specs.declared.changes.Verb.TheVariants as verbs
use Rattle.lcm_events.specs.declared.descriptor.Aspect.{Aspect}
use Rattle.lcm_events.specs.declared.descriptor.Level.{Level}
use Rattle.lcm_events.specs.declared.descriptor.Port.{Port}
use Rattle.lcm_events.specs.declared.descriptor.Row.{Row}
use Rattle.lcm_events.specs.declared.descriptor.Storage.{Storage}
use Rattle.lcm_events.specs.declared.descriptor.Vdu.{Vdu}
use Rattle.lcm_events.specs.declared.descriptor.Vnfd.{Vnfd}
use Rattle.lcm_events.specs.declared.events.Event.{Event}
use Rattle.lcm_events.specs.declared.events.EventKind.{EventKind}
use Rattle.lcm_events.specs.declared.events.EventKind.TheVariants as events
use Rattle.lcm_events.specs.declared.events.GrantTry.{GrantTry}
use Rattle.lcm_events.specs.declared.events.GrantTry.TheVariants as grants
use Rattle.lcm_events.specs.declared.events.Operation.{Operation}
use Rattle.lcm_events.specs.declared.events.PostOutcome.{PostOutcome}
use Rattle.lcm_events.specs.declared.events.PostOutcome.TheVariants as post
use Rattle.lcm_events.specs.declared.filters.Filter.{Filter}
use Rattle.lcm_events.specs.declared.filters.NoticeKind.{NoticeKind}
use Rattle.lcm_events.specs.declared.filters.NoticeKind.TheVariants as notice
use Rattle.lcm_events.specs.declared.filters.OperationType.{OperationType}
use Rattle.lcm_events.specs.declared.filters.OperationType.TheVariants as kind
use Rattle.lcm_events.specs.declared.places.Place.{Place}
use Rattle.lcm_events.specs.declared.states.CancelMode.{CancelMode}
use Rattle.lcm_events.specs.declared.states.CancelMode.TheVariants as mode
use Rattle.lcm_events.specs.declared.states.OpState.{OpState}
use Rattle.lcm_events.specs.declared.states.OpState.TheVariants as state
use Rattle.lcm_events.specs.declared.states.Role.{Role}
use Rattle.lcm_events.specs.declared.states.Role.TheVariants as who
use Rattle.event_codec.specs.Spell.{u16, u32, u64, spelling}

-- at 2023-11-14T22:13:20.000Z
abbrev pub at : EventKind → Event
at kind = record { moment = 1700000000000; kind = kind }

pub spelling-onboarded : spelling (at (events.Onboarded (record {
  descriptor_id = codes "d";
  provider = codes "p";
  product_name = codes "n";
  software_version = codes "1";
  descriptor_version = codes "2";
  flavour_id = codes "f";
  vdus = record { name = codes "V"; memory = 1024; cpus = 2; maximum = 4294967295; initial = 1; storages = 0 ∷ [] } ∷ [];
  storages = record { name = codes "s"; size = 5 } ∷ [];
  links = codes "l" ∷ [];
  ports = record { name = codes "c"; vdu = 0; link = Some 0 } ∷ record { name = codes "m"; vdu = 0; link = None } ∷ [];
  aspects = record { name = codes "a"; maximum = 3; steps = 1; rows = record { vdu = 0; deltas = 2 ∷ [] } ∷ [] } ∷ [];
  levels = record { name = codes "x"; numbers = 1 ∷ [] } ∷ [];
  default_level = 0;
})))
    ≡ 1 ∷ 0 ∷ 0 ∷ 1 ∷ 139 ∷ 207 ∷ 229 ∷ 104 ∷ 0 ∷ 1 ∷ 100 ∷ 1 ∷ 112 ∷ 1 ∷ 110 ∷ 1 ∷ 49 ∷ 1 ∷ 50 ∷ 1 ∷ 102 ∷ 0 ∷ 1 ∷ 1 ∷ 86 ∷ 0 ∷ 0 ∷ 0 ∷ 0
    ∷ 0 ∷ 0 ∷ 4 ∷ 0 ∷ 0 ∷ 0 ∷ 0 ∷ 2 ∷ 255 ∷ 255 ∷ 255 ∷ 255 ∷ 0 ∷ 0 ∷ 0 ∷ 1 ∷ 0 ∷ 1 ∷ 0 ∷ 0 ∷ 0 ∷ 1 ∷ 1 ∷ 115 ∷ 0 ∷ 0 ∷ 0 ∷ 0 ∷ 0 ∷ 0 ∷ 0
    ∷ 5 ∷ 0 ∷ 1 ∷ 1 ∷ 108 ∷ 0 ∷ 2 ∷ 1 ∷ 99 ∷ 0 ∷ 0 ∷ 0 ∷ 0 ∷ 1 ∷ 109 ∷ 0 ∷ 0 ∷ 255 ∷ 255 ∷ 0 ∷ 1 ∷ 1 ∷ 97 ∷ 0 ∷ 0 ∷ 0 ∷ 3 ∷ 0 ∷ 1 ∷ 0 ∷ 1
    ∷ 0 ∷ 0 ∷ 0 ∷ 0 ∷ 0 ∷ 2 ∷ 0 ∷ 1 ∷ 1 ∷ 120 ∷ 0 ∷ 0 ∷ 0 ∷ 1 ∷ 0 ∷ 0 ∷ []
unfolding spelling u16 u32 u64
spelling-onboarded = refl

pub spelling-created : spelling (at (events.Created 1 (codes "vnfd-1") (Some (codes "edge-1")) None))
    ≡ 2 ∷ 0 ∷ 0 ∷ 1 ∷ 139 ∷ 207 ∷ 229 ∷ 104 ∷ 0 ∷ 0 ∷ 0 ∷ 0 ∷ 0 ∷ 0 ∷ 0 ∷ 0 ∷ 1 ∷ 6 ∷ 118 ∷ 110 ∷ 102 ∷ 100 ∷ 45 ∷ 49 ∷ 1 ∷ 6 ∷ 101 ∷ 100
    ∷ 103 ∷ 101 ∷ 45 ∷ 49 ∷ 0 ∷ []
unfolding spelling u16 u32 u64
spelling-created = refl

pub spelling-deleted : spelling (at (events.Deleted 1))
    ≡ 3 ∷ 0 ∷ 0 ∷ 1 ∷ 139 ∷ 207 ∷ 229 ∷ 104 ∷ 0 ∷ 0 ∷ 0 ∷ 0 ∷ 0 ∷ 0 ∷ 0 ∷ 0 ∷ 1 ∷ []
unfolding spelling u16 u32 u64
spelling-deleted = refl

pub spelling-asked : spelling (at (events.Asked (record {
  occ = 1;
  instance = 2;
  role = who.Orchestrator;
  ask = asks.Scale scale.In (codes "workers") 2;
  changes = record { phase = 6; verb = verbs.Remove; def = record { kind = item.Compute; item = 0; vdu = 1; serial = 3 } } ∷ [];
})))
    ≡ 4 ∷ 0 ∷ 0 ∷ 1 ∷ 139 ∷ 207 ∷ 229 ∷ 104 ∷ 0 ∷ 0 ∷ 0 ∷ 0 ∷ 0 ∷ 0 ∷ 0 ∷ 0 ∷ 1 ∷ 0 ∷ 0 ∷ 0 ∷ 0 ∷ 0 ∷ 0 ∷ 0 ∷ 2 ∷ 0 ∷ 2 ∷ 1 ∷ 7 ∷ 119 ∷ 111
    ∷ 114 ∷ 107 ∷ 101 ∷ 114 ∷ 115 ∷ 0 ∷ 0 ∷ 0 ∷ 2 ∷ 0 ∷ 1 ∷ 6 ∷ 1 ∷ 2 ∷ 0 ∷ 0 ∷ 0 ∷ 1 ∷ 0 ∷ 0 ∷ 0 ∷ 3 ∷ []
unfolding spelling u16 u32 u64
spelling-asked = refl

pub spelling-grant_tried : spelling (at (events.GrantTried 1 (grants.Later (codes "/g1"))))
    ≡ 5 ∷ 0 ∷ 0 ∷ 1 ∷ 139 ∷ 207 ∷ 229 ∷ 104 ∷ 0 ∷ 0 ∷ 0 ∷ 0 ∷ 0 ∷ 0 ∷ 0 ∷ 0 ∷ 1 ∷ 0 ∷ 0 ∷ 3 ∷ 47 ∷ 103 ∷ 49 ∷ []
unfolding spelling u16 u32 u64
spelling-grant_tried = refl

pub spelling-granted : spelling (at (events.Granted 1 (codes "g1") (record { vim = codes "v"; zone = [] } ∷ []) (0 ∷ 0 ∷ [])))
    ≡ 6 ∷ 0 ∷ 0 ∷ 1 ∷ 139 ∷ 207 ∷ 229 ∷ 104 ∷ 0 ∷ 0 ∷ 0 ∷ 0 ∷ 0 ∷ 0 ∷ 0 ∷ 0 ∷ 1 ∷ 2 ∷ 103 ∷ 49 ∷ 1 ∷ 1 ∷ 118 ∷ 0 ∷ 0 ∷ 2 ∷ 0 ∷ 0 ∷ []
unfolding spelling u16 u32 u64
spelling-granted = refl

pub spelling-denied : spelling (at (events.Denied 1))
    ≡ 7 ∷ 0 ∷ 0 ∷ 1 ∷ 139 ∷ 207 ∷ 229 ∷ 104 ∷ 0 ∷ 0 ∷ 0 ∷ 0 ∷ 0 ∷ 0 ∷ 0 ∷ 0 ∷ 1 ∷ []
unfolding spelling u16 u32 u64
spelling-denied = refl

pub spelling-intent : spelling (at (events.Intent (record { occ = 1; change = 2; attempt = 1; way = ways.Forward })))
    ≡ 8 ∷ 0 ∷ 0 ∷ 1 ∷ 139 ∷ 207 ∷ 229 ∷ 104 ∷ 0 ∷ 0 ∷ 0 ∷ 0 ∷ 0 ∷ 0 ∷ 0 ∷ 0 ∷ 1 ∷ 0 ∷ 2 ∷ 0 ∷ 0 ∷ 0 ∷ 1 ∷ 0 ∷ []
unfolding spelling u16 u32 u64
spelling-intent = refl

pub spelling-call_failed : spelling (at (events.CallFailed (record { occ = 1; change = 2; attempt = 1; way = ways.Undo })))
    ≡ 9 ∷ 0 ∷ 0 ∷ 1 ∷ 139 ∷ 207 ∷ 229 ∷ 104 ∷ 0 ∷ 0 ∷ 0 ∷ 0 ∷ 0 ∷ 0 ∷ 0 ∷ 0 ∷ 1 ∷ 0 ∷ 2 ∷ 0 ∷ 0 ∷ 0 ∷ 1 ∷ 1 ∷ []
unfolding spelling u16 u32 u64
spelling-call_failed = refl

pub spelling-settled : spelling (at (events.Settled (record { occ = 1; change = 2; attempt = 1; way = ways.Forward })
    (outcomes.Done (codes "r1"))))
    ≡ 10 ∷ 0 ∷ 0 ∷ 1 ∷ 139 ∷ 207 ∷ 229 ∷ 104 ∷ 0 ∷ 0 ∷ 0 ∷ 0 ∷ 0 ∷ 0 ∷ 0 ∷ 0 ∷ 1 ∷ 0 ∷ 2 ∷ 0 ∷ 0 ∷ 0 ∷ 1 ∷ 0 ∷ 0 ∷ 2 ∷ 114 ∷ 49 ∷ []
unfolding spelling u16 u32 u64
spelling-settled = refl

pub spelling-moved : spelling (at (events.Moved 1 state.FailedTemp))
    ≡ 11 ∷ 0 ∷ 0 ∷ 1 ∷ 139 ∷ 207 ∷ 229 ∷ 104 ∷ 0 ∷ 0 ∷ 0 ∷ 0 ∷ 0 ∷ 0 ∷ 0 ∷ 0 ∷ 1 ∷ 3 ∷ []
unfolding spelling u16 u32 u64
spelling-moved = refl

pub spelling-cancel_asked : spelling (at (events.CancelAsked 1 mode.Forceful))
    ≡ 12 ∷ 0 ∷ 0 ∷ 1 ∷ 139 ∷ 207 ∷ 229 ∷ 104 ∷ 0 ∷ 0 ∷ 0 ∷ 0 ∷ 0 ∷ 0 ∷ 0 ∷ 0 ∷ 1 ∷ 1 ∷ []
unfolding spelling u16 u32 u64
spelling-cancel_asked = refl

pub spelling-subscribed : spelling (at (events.Subscribed 1 who.Element (codes "http://h/x") (record {
  vnfds = codes "d" ∷ [];
  instances = [];
  names = [];
  notices = notice.Occurrence ∷ notice.Deletion ∷ [];
  operations = kind.Of op.Instantiate ∷ kind.ModifyInfo ∷ [];
  states = state.Completed ∷ [];
})))
    ≡ 13 ∷ 0 ∷ 0 ∷ 1 ∷ 139 ∷ 207 ∷ 229 ∷ 104 ∷ 0 ∷ 0 ∷ 0 ∷ 0 ∷ 0 ∷ 0 ∷ 0 ∷ 0 ∷ 1 ∷ 1 ∷ 0 ∷ 10 ∷ 104 ∷ 116 ∷ 116 ∷ 112 ∷ 58 ∷ 47 ∷ 47 ∷ 104
    ∷ 47 ∷ 120 ∷ 0 ∷ 1 ∷ 1 ∷ 100 ∷ 0 ∷ 0 ∷ 0 ∷ 0 ∷ 0 ∷ 2 ∷ 0 ∷ 2 ∷ 0 ∷ 2 ∷ 1 ∷ 9 ∷ 0 ∷ 1 ∷ 2 ∷ []
unfolding spelling u16 u32 u64
spelling-subscribed = refl

pub spelling-unsubscribed : spelling (at (events.Unsubscribed 1))
    ≡ 14 ∷ 0 ∷ 0 ∷ 1 ∷ 139 ∷ 207 ∷ 229 ∷ 104 ∷ 0 ∷ 0 ∷ 0 ∷ 0 ∷ 0 ∷ 0 ∷ 0 ∷ 0 ∷ 1 ∷ []
unfolding spelling u16 u32 u64
spelling-unsubscribed = refl

pub spelling-posted : spelling (at (events.Posted 1 5 post.NotTaken))
    ≡ 15 ∷ 0 ∷ 0 ∷ 1 ∷ 139 ∷ 207 ∷ 229 ∷ 104 ∷ 0 ∷ 0 ∷ 0 ∷ 0 ∷ 0 ∷ 0 ∷ 0 ∷ 0 ∷ 1 ∷ 0 ∷ 0 ∷ 0 ∷ 0 ∷ 0 ∷ 0 ∷ 0 ∷ 5 ∷ 1 ∷ []
unfolding spelling u16 u32 u64
spelling-posted = refl
