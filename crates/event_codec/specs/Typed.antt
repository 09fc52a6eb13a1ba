-- What the types of an event's parts say alone: each number within its type, each text a name or a line.
-- A definition without a sentence of its own says this of the part that its name says, and is a tool of the proof.
use Rattle.std.specs.List.{AllByRecursion}
use Rattle.vnfm_base.specs.Text.{IsName, IsLine}
use Rattle.vnfm_base.specs.Moment.{IsMoment}
use Rattle.lcm_events.specs.declared.asks.Aim.{Aim}
use Rattle.lcm_events.specs.declared.asks.Aim.TheVariants as aims
use Rattle.lcm_events.specs.declared.asks.Ask.{Ask}
use Rattle.lcm_events.specs.declared.asks.Ask.TheVariants as asks
use Rattle.lcm_events.specs.declared.attempts.Tag.{Tag}
use Rattle.lcm_events.specs.declared.changes.Change.{Change}
use Rattle.lcm_events.specs.declared.descriptor.Aspect.{Aspect}
use Rattle.lcm_events.specs.declared.descriptor.Level.{Level}
use Rattle.lcm_events.specs.declared.descriptor.Port.{Port}
use Rattle.lcm_events.specs.declared.descriptor.Row.{Row}
use Rattle.lcm_events.specs.declared.descriptor.Vdu.{Vdu}
use Rattle.lcm_events.specs.declared.descriptor.Vnfd.{Vnfd}
use Rattle.lcm_events.specs.declared.events.Event.{Event}
use Rattle.lcm_events.specs.declared.events.EventKind.{EventKind}
use Rattle.lcm_events.specs.declared.events.EventKind.TheVariants as events
use Rattle.lcm_events.specs.declared.events.Operation.{Operation}
use Rattle.lcm_events.specs.declared.filters.Filter.{Filter}
use Rattle.event_codec.specs.Valid.{IsU8, IsU16, IsU32, IsU64, Optionally, IsVnfc, IsAspectLevel, IsGrantTry, IsPlace}
use Rattle.event_codec.specs.Valid.{IsOutcome, IsStorage}

abbrev pub TypedTag : Tag → Type 0
TypedTag t = IsU64 t.occ × IsU16 t.change × IsU32 t.attempt

abbrev pub TypedChange : Change → Type 0
TypedChange c = IsU8 c.phase × IsU16 c.def.item × IsU16 c.def.vdu × IsU32 c.def.serial

abbrev pub TypedAim : Aim → Type 0
TypedAim (aims.Level level) = IsName level
TypedAim (aims.Aspects aspects) = AllByRecursion IsAspectLevel aspects

abbrev pub TypedAsk : Ask → Type 0
TypedAsk (asks.Instantiate flavour level) = IsName flavour × Optionally IsName level
TypedAsk (asks.Scale way aspect steps) = IsName aspect × IsU32 steps
TypedAsk (asks.ScaleToLevel to) = TypedAim to
TypedAsk (asks.Heal cause named) = Optionally IsLine cause × AllByRecursion IsVnfc named
TypedAsk (asks.Operate started stop) = Unit {0}
TypedAsk (asks.Terminate mode timeout) = Optionally IsU32 timeout

abbrev pub TypedOperation : Operation → Type 0
TypedOperation o = IsU64 o.occ × IsU64 o.instance × TypedAsk o.ask × AllByRecursion TypedChange o.changes

abbrev pub TypedFilter : Filter → Type 0
TypedFilter f = AllByRecursion IsName f.vnfds × AllByRecursion IsName f.instances × AllByRecursion IsName f.names

abbrev pub TypedVdu : Vdu → Type 0
TypedVdu v = IsName v.name × IsU64 v.memory × IsU32 v.cpus × IsU32 v.maximum × IsU32 v.initial
    × AllByRecursion IsU16 v.storages

abbrev pub TypedPort : Port → Type 0
TypedPort p = IsName p.name × IsU16 p.vdu × Optionally IsU16 p.link

abbrev pub TypedRow : Row → Type 0
TypedRow r = IsU16 r.vdu × AllByRecursion IsU32 r.deltas

abbrev pub TypedAspect : Aspect → Type 0
TypedAspect a = IsName a.name × IsU32 a.maximum × IsU16 a.steps × AllByRecursion TypedRow a.rows

abbrev pub TypedLevel : Level → Type 0
TypedLevel l = IsName l.name × AllByRecursion IsU32 l.numbers

abbrev pub TypedLists : Vnfd → Type 0
TypedLists v = AllByRecursion TypedVdu v.vdus × AllByRecursion IsStorage v.storages × AllByRecursion IsName v.links
    × AllByRecursion TypedPort v.ports × AllByRecursion TypedAspect v.aspects × AllByRecursion TypedLevel v.levels
    × IsU16 v.default_level

abbrev pub TypedVnfd : Vnfd → Type 0
TypedVnfd v = IsName v.descriptor_id × IsName v.provider × IsName v.product_name × IsName v.software_version
    × IsName v.descriptor_version × IsName v.flavour_id × TypedLists v

abbrev pub TypedKind : EventKind → Type 0
TypedKind (events.Onboarded v) = TypedVnfd v
TypedKind (events.Created instance of_vnfd named text) =
    IsU64 instance × IsName of_vnfd × Optionally IsName named × Optionally IsLine text
TypedKind (events.Deleted instance) = IsU64 instance
TypedKind (events.Asked o) = TypedOperation o
TypedKind (events.GrantTried occ answer) = IsU64 occ × IsGrantTry answer
TypedKind (events.Granted occ grant places spots) = IsU64 occ × IsName grant × AllByRecursion IsPlace places
    × AllByRecursion IsU8 spots
TypedKind (events.Denied occ) = IsU64 occ
TypedKind (events.Intent t) = TypedTag t
TypedKind (events.CallFailed t) = TypedTag t
TypedKind (events.Settled t how) = TypedTag t × IsOutcome how
TypedKind (events.Moved occ to) = IsU64 occ
TypedKind (events.CancelAsked occ mode) = IsU64 occ
TypedKind (events.Subscribed subscription role callback asked) =
    IsU64 subscription × IsLine callback × TypedFilter asked
TypedKind (events.Unsubscribed subscription) = IsU64 subscription
TypedKind (events.Posted subscription place how) = IsU64 subscription × IsU64 place

-- what holds of every event that a program has in hand
abbrev pub TypedEvent : Event → Type 0
TypedEvent e = IsMoment e.moment × TypedKind e.kind
