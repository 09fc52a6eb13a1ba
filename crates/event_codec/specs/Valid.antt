-- Which events have a spelling: each number within its values, each text a name or a line, each list in order and of
-- a length that its count can say (own format, docs/EVENTS.md).
-- A definition without a sentence of its own says this of the part that its name says, and is a tool of the proof.
use Rattle.std.specs.Prelude.{ℕ, ◌≡◌, ◌^◌, ◌<◌, ◌≤◌, ◌==◌, List, [], ◌∷◌, Option, Some, None, Bool, true, false, length}
use Rattle.std.specs.Prelude.{nat_lt, ◌&&◌, ◌||◌, if◌then◌else◌}
use Rattle.std.specs.List.{AllByRecursion, list_all}
use Rattle.lcm_events.specs.Descriptors.{is_name_before, is_rising, is_valid_steps}
use Rattle.vnfm_base.specs.Text.{IsName, IsLine}
use Rattle.vnfm_base.specs.Moment.{IsMoment}
use Rattle.lcm_events.specs.declared.asks.Aim.{Aim}
use Rattle.lcm_events.specs.declared.asks.Aim.TheVariants as aims
use Rattle.lcm_events.specs.declared.asks.Ask.{Ask}
use Rattle.lcm_events.specs.declared.asks.Ask.TheVariants as asks
use Rattle.lcm_events.specs.declared.asks.AspectLevel.{AspectLevel}
use Rattle.lcm_events.specs.declared.asks.Vnfc.{Vnfc}
use Rattle.lcm_events.specs.declared.attempts.Outcome.{Outcome}
use Rattle.lcm_events.specs.declared.attempts.Outcome.TheVariants as outcomes
use Rattle.lcm_events.specs.declared.attempts.Tag.{Tag}
use Rattle.lcm_events.specs.declared.changes.Change.{Change}
use Rattle.lcm_events.specs.declared.descriptor.Aspect.{Aspect}
use Rattle.lcm_events.specs.declared.descriptor.Level.{Level}
use Rattle.lcm_events.specs.declared.descriptor.Port.{Port}
use Rattle.lcm_events.specs.declared.descriptor.Row.{Row}
use Rattle.lcm_events.specs.declared.descriptor.Storage.{Storage}
use Rattle.lcm_events.specs.declared.descriptor.Vdu.{Vdu}
use Rattle.lcm_events.specs.declared.descriptor.Vnfd.{Vnfd}
use Rattle.lcm_events.specs.declared.events.Event.{Event}
use Rattle.lcm_events.specs.declared.events.EventKind.{EventKind}
use Rattle.lcm_events.specs.declared.events.EventKind.TheVariants as events
use Rattle.lcm_events.specs.declared.events.GrantTry.{GrantTry}
use Rattle.lcm_events.specs.declared.events.GrantTry.TheVariants as grants
use Rattle.lcm_events.specs.declared.events.Operation.{Operation}
use Rattle.lcm_events.specs.declared.filters.Filter.{Filter}
use Rattle.lcm_events.specs.declared.places.Place.{Place}
use Rattle.lcm_events.specs.declared.states.OpState.{OpState}
use Rattle.event_codec.specs.Numbers as number

-- the number has one byte, two, four or eight
abbrev pub IsU8 : ℕ → Type 0
IsU8 n = n < 2 ^ 8

abbrev pub IsU16 : ℕ → Type 0
IsU16 n = n < 2 ^ 16

abbrev pub IsU32 : ℕ → Type 0
IsU32 n = n < 2 ^ 32

abbrev pub IsU64 : ℕ → Type 0
IsU64 n = n < 2 ^ 64

-- the value, where there is one, is such
abbrev pub Optionally : {A : Type 0} → (A → Type 0) → Option A → Type 0
Optionally P None = Unit {0}
Optionally P (Some x) = P x

-- a list whose length fits two bytes, of such entries
abbrev pub AreMany : {A : Type 0} → (A → Type 0) → List A → Type 0
AreMany P xs = (length xs < 2 ^ 16) × AllByRecursion P xs

-- any value of the type
abbrev pub IsAny : {A : Type 0} → A → Type 0
IsAny x = Unit {0}

-- attempts count from 1
abbrev pub IsTag : Tag → Type 0
IsTag t = IsU64 t.occ × IsU16 t.change × ((1 ≤ t.attempt) × IsU32 t.attempt)

-- phases go to 8
abbrev pub IsChange : Change → Type 0
IsChange c = (c.phase ≤ 8) × IsU16 c.def.item × IsU16 c.def.vdu × IsU32 c.def.serial

abbrev pub IsVnfc : Vnfc → Type 0
IsVnfc v = IsU16 v.vdu × IsU32 v.serial

abbrev pub IsAspectLevel : AspectLevel → Type 0
IsAspectLevel a = IsName a.aspect × IsU32 a.level

abbrev pub IsAim : Aim → Type 0
IsAim (aims.Level level) = IsName level
IsAim (aims.Aspects aspects) = AreMany IsAspectLevel aspects

abbrev pub IsAsk : Ask → Type 0
IsAsk (asks.Instantiate flavour level) = IsName flavour × Optionally IsName level
IsAsk (asks.Scale way aspect steps) = IsName aspect × IsU32 steps
IsAsk (asks.ScaleToLevel to) = IsAim to
IsAsk (asks.Heal cause named) = Optionally IsLine cause × AreMany IsVnfc named
IsAsk (asks.Operate started stop) = Unit {0}
IsAsk (asks.Terminate mode timeout) = Optionally IsU32 timeout

abbrev pub IsOperation : Operation → Type 0
IsOperation o = IsU64 o.occ × IsU64 o.instance × IsAsk o.ask × AreMany IsChange o.changes

abbrev pub IsGrantTry : GrantTry → Type 0
IsGrantTry (grants.Later location) = IsLine location
IsGrantTry grants.Trouble = Unit {0}
IsGrantTry grants.NotCovering = Unit {0}

abbrev pub IsPlace : Place → Type 0
IsPlace p = IsName p.vim × IsName p.zone

-- a grant has at most 32 places, and each number of a place names one of them
abbrev pub ArePlaced : List Place → List ℕ → Type 0
ArePlaced places spots = (length places ≤ 32) × AllByRecursion IsPlace places × AreMany IsU8 spots
    × (list_all (λ s. nat_lt s (length places)) spots ≡ true)

abbrev pub IsOutcome : Outcome → Type 0
IsOutcome (outcomes.Done resource) = IsName resource
IsOutcome (outcomes.Broken code) = IsU32 code
IsOutcome outcomes.Aborted = Unit {0}
IsOutcome outcomes.NotBegun = Unit {0}

-- an occurrence never moves to STARTING
abbrev pub IsMoved : OpState → Type 0
IsMoved to = (number.op_state to == 0) ≡ false

abbrev pub IsFilter : Filter → Type 0
IsFilter f = AreMany IsName f.vnfds × AreMany IsName f.instances × AreMany IsName f.names
    × AreMany IsAny f.notices × AreMany IsAny f.operations × AreMany IsAny f.states

abbrev pub IsStorage : Storage → Type 0
IsStorage s = IsName s.name × IsU64 s.size

-- the numbers of its storages rise
abbrev pub IsVdu : Vdu → Type 0
IsVdu v = IsName v.name × IsU64 v.memory × IsU32 v.cpus × IsU32 v.maximum × IsU32 v.initial
    × AreMany IsU16 v.storages × (is_rising nat_lt v.storages ≡ true)

-- 65,535 names no link
abbrev pub IsLink : Option ℕ → Type 0
IsLink link = Optionally (λ n. n < 65535) link

abbrev pub IsPort : Port → Type 0
IsPort p = IsName p.name × IsU16 p.vdu × IsLink p.link

-- the row of an aspect with so many steps
abbrev pub IsRow : ℕ → Row → Type 0
IsRow steps r = IsU16 r.vdu × ((length r.deltas ≡ steps) × AllByRecursion IsU32 r.deltas)

-- the rows rise by VDU
abbrev pub IsAspect : Aspect → Type 0
IsAspect a = IsName a.name × IsU32 a.maximum × IsU16 a.steps × AreMany (IsRow a.steps) a.rows
    × (is_valid_steps a.maximum a.steps ≡ true) × (is_rising (λ r s. nat_lt r.vdu s.vdu) a.rows ≡ true)

-- the level of a descriptor with so many aspects
abbrev pub IsLevel : ℕ → Level → Type 0
IsLevel aspects l = IsName l.name × ((length l.numbers ≡ aspects) × AllByRecursion IsU32 l.numbers)

-- the named things of a descriptor stand in the order of their names, with no name twice in a list
abbrev pub in_order : Vnfd → Bool
in_order v = is_rising (λ a b. is_name_before a.name b.name) v.vdus
    && (is_rising (λ a b. is_name_before a.name b.name) v.storages
    && (is_rising is_name_before v.links
    && (is_rising (λ a b. is_name_before a.name b.name) v.ports
    && (is_rising (λ a b. is_name_before a.name b.name) v.aspects
    && is_rising (λ a b. is_name_before a.name b.name) v.levels))))

-- the number, where there is one, is below
abbrev pub optionally_below : ℕ → Option ℕ → Bool
optionally_below most None = true
optionally_below most (Some n) = nat_lt n most

-- each number of a storage, a VDU, a link or a level names an entry of the descriptor
abbrev pub names_entries : Vnfd → Bool
names_entries v = list_all (λ m. list_all (λ s. nat_lt s (length v.storages)) m.storages) v.vdus
    && (list_all (λ p. nat_lt p.vdu (length v.vdus) && optionally_below (length v.links) p.link) v.ports
    && (list_all (λ a. list_all (λ r. nat_lt r.vdu (length v.vdus)) a.rows) v.aspects
    && nat_lt v.default_level (length v.levels)))

abbrev pub IsVnfd : Vnfd → Type 0
IsVnfd v = IsName v.descriptor_id × IsName v.provider × IsName v.product_name × IsName v.software_version
    × IsName v.descriptor_version × IsName v.flavour_id × AreMany IsVdu v.vdus × AreMany IsStorage v.storages
    × AreMany IsName v.links × AreMany IsPort v.ports × AreMany IsAspect v.aspects
    × AreMany (IsLevel (length v.aspects)) v.levels × IsU16 v.default_level
    × (in_order v ≡ true) × (names_entries v ≡ true)

-- each kind's fields are such (own format)
abbrev pub IsKind : EventKind → Type 0
IsKind (events.Onboarded v) = IsVnfd v
IsKind (events.Created instance of_vnfd named text) =
    IsU64 instance × IsName of_vnfd × Optionally IsName named × Optionally IsLine text
IsKind (events.Deleted instance) = IsU64 instance
IsKind (events.Asked o) = IsOperation o
IsKind (events.GrantTried occ answer) = IsU64 occ × IsGrantTry answer
IsKind (events.Granted occ grant places spots) = IsU64 occ × IsName grant × ArePlaced places spots
IsKind (events.Denied occ) = IsU64 occ
IsKind (events.Intent t) = IsTag t
IsKind (events.CallFailed t) = IsTag t
IsKind (events.Settled t how) = IsTag t × IsOutcome how
IsKind (events.Moved occ to) = IsU64 occ × IsMoved to
IsKind (events.CancelAsked occ mode) = IsU64 occ
IsKind (events.Subscribed subscription role callback asked) = IsU64 subscription × IsLine callback × IsFilter asked
IsKind (events.Unsubscribed subscription) = IsU64 subscription
IsKind (events.Posted subscription place how) = IsU64 subscription × IsU64 place

-- the event has a spelling (own format)
abbrev pub IsEvent : Event → Type 0
IsEvent e = IsMoment e.moment × IsKind e.kind
