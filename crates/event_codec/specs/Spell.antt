-- How each part of an event is spelled in bytes (own format, docs/EVENTS.md).
use Rattle.std.specs.Prelude.{ℕ, List, [], ◌∷◌, ◌++◌, Option, Some, None, length}
use Rattle.std.specs.Int.{to_be_bytes, w8, w16, w32, w64}
use Rattle.std.specs.List.{flat_map}
use Rattle.lcm_events.specs.declared.asks.Aim.{Aim}
use Rattle.lcm_events.specs.declared.asks.Aim.TheVariants as aims
use Rattle.lcm_events.specs.declared.asks.Ask.{Ask}
use Rattle.lcm_events.specs.declared.asks.Ask.TheVariants as asks
use Rattle.lcm_events.specs.declared.asks.AspectLevel.{AspectLevel}
use Rattle.lcm_events.specs.declared.asks.Vnfc.{Vnfc}
use Rattle.lcm_events.specs.declared.attempts.Outcome.{Outcome}
use Rattle.lcm_events.specs.declared.attempts.Outcome.TheVariants as outcomes
use Rattle.lcm_events.specs.declared.attempts.Tag.{Tag}
use Rattle.lcm_events.specs.declared.changes.Change.{Change}
use Rattle.lcm_events.specs.declared.descriptor.Aspect.{Aspect}
use Rattle.lcm_events.specs.declared.descriptor.Level.{Level}
use Rattle.lcm_events.specs.declared.descriptor.Port.{Port}
use Rattle.lcm_events.specs.declared.descriptor.Row.{Row}
use Rattle.lcm_events.specs.declared.descriptor.Storage.{Storage}
use Rattle.lcm_events.specs.declared.descriptor.Vdu.{Vdu}
use Rattle.lcm_events.specs.declared.descriptor.Vnfd.{Vnfd}
use Rattle.lcm_events.specs.declared.events.Event.{Event}
use Rattle.lcm_events.specs.declared.events.EventKind.{EventKind}
use Rattle.lcm_events.specs.declared.events.EventKind.TheVariants as events
use Rattle.lcm_events.specs.declared.events.GrantTry.{GrantTry}
use Rattle.lcm_events.specs.declared.events.GrantTry.TheVariants as grants
use Rattle.lcm_events.specs.declared.events.Operation.{Operation}
use Rattle.lcm_events.specs.declared.filters.Filter.{Filter}
use Rattle.lcm_events.specs.declared.places.Place.{Place}
use Rattle.event_codec.specs.Numbers as number

-- a number in one byte
abbrev pub u8 : ℕ → List ℕ
u8 n = n ∷ []

-- a number in two bytes, the high one first
unfoldable pub u16 : ℕ → List ℕ
u16 n = to_be_bytes w16 n

-- a number in four bytes, the high one first
unfoldable pub u32 : ℕ → List ℕ
u32 n = to_be_bytes w32 n

-- a number in eight bytes, the high one first
unfoldable pub u64 : ℕ → List ℕ
u64 n = to_be_bytes w64 n

-- a name: its length in one byte, then its bytes
abbrev pub name : List ℕ → List ℕ
name text = length text ∷ text

-- a line: its length in two bytes, then its bytes
abbrev pub line : List ℕ → List ℕ
line text = u16 (length text) ++ text

-- a value that may lack: 0, or 1 and the value
abbrev pub optional : {A : Type 0} → (A → List ℕ) → Option A → List ℕ
optional spell None = 0 ∷ []
optional spell (Some x) = 1 ∷ spell x

-- a list: its length in two bytes, then its entries
abbrev pub many : {A : Type 0} → (A → List ℕ) → List A → List ℕ
many spell xs = u16 (length xs) ++ flat_map spell xs

-- a short list: its length in one byte, then its entries
abbrev pub few : {A : Type 0} → (A → List ℕ) → List A → List ℕ
few spell xs = to_be_bytes w8 (length xs) ++ flat_map spell xs

-- the name of an attempt
abbrev pub tag : Tag → List ℕ
tag t = u64 t.occ ++ (u16 t.change ++ (u32 t.attempt ++ u8 (number.way t.way)))

-- a change of a plan, in eleven bytes
abbrev pub change : Change → List ℕ
change c = u8 c.phase ++ (u8 (number.verb c.verb) ++ (u8 (number.def_kind c.def.kind)
    ++ (u16 c.def.item ++ (u16 c.def.vdu ++ u32 c.def.serial))))

-- a machine of an instance
abbrev pub vnfc : Vnfc → List ℕ
vnfc v = u16 v.vdu ++ u32 v.serial

-- a level of an aspect
abbrev pub aspect_level : AspectLevel → List ℕ
aspect_level a = name a.aspect ++ u32 a.level

-- what SCALE_TO_LEVEL aims at
abbrev pub aim : Aim → List ℕ
aim (aims.Level level) = 0 ∷ name level
aim (aims.Aspects aspects) = 1 ∷ many aspect_level aspects

-- what an operation is asked to do
abbrev pub ask : Ask → List ℕ
ask (asks.Instantiate flavour level) = 1 ∷ name flavour ++ optional name level
ask (asks.Scale way aspect steps) = 2 ∷ u8 (number.scale_way way) ++ (name aspect ++ u32 steps)
ask (asks.ScaleToLevel to) = 3 ∷ aim to
ask (asks.Heal cause named) = 4 ∷ optional line cause ++ many vnfc named
ask (asks.Operate started stop) = 5 ∷ u8 (number.started started) ++ u8 (number.stop_type stop)
ask (asks.Terminate mode timeout) = 6 ∷ u8 (number.terminate_mode mode) ++ optional u32 timeout

-- an operation that was asked for
abbrev pub operation : Operation → List ℕ
operation o = u64 o.occ ++ (u64 o.instance ++ (u8 (number.role o.role) ++ (ask o.ask ++ many change o.changes)))

-- an answer that is no grant
abbrev pub grant_try : GrantTry → List ℕ
grant_try (grants.Later location) = 0 ∷ line location
grant_try grants.Trouble = 1 ∷ []
grant_try grants.NotCovering = 2 ∷ []

-- a place that a grant gives
abbrev pub place : Place → List ℕ
place p = name p.vim ++ name p.zone

-- how an attempt ended
abbrev pub outcome : Outcome → List ℕ
outcome (outcomes.Done resource) = 0 ∷ name resource
outcome (outcomes.Broken code) = 1 ∷ u32 code
outcome outcomes.Aborted = 2 ∷ []
outcome outcomes.NotBegun = 3 ∷ []

-- the filter of a subscription
abbrev pub filter : Filter → List ℕ
filter f = many name f.vnfds ++ (many name f.instances ++ (many name f.names
    ++ (many (λ n. u8 (number.notice_kind n)) f.notices
    ++ (many (λ o. u8 (number.operation_type o)) f.operations ++ many (λ s. u8 (number.op_state s)) f.states))))

-- a kind of machine
abbrev pub vdu : Vdu → List ℕ
vdu v = name v.name ++ (u64 v.memory ++ (u32 v.cpus ++ (u32 v.maximum ++ (u32 v.initial ++ many u16 v.storages))))

-- a kind of disk
abbrev pub storage : Storage → List ℕ
storage s = name s.name ++ u64 s.size

-- the number of a port's link; 65,535 stands for none
abbrev pub link : Option ℕ → List ℕ
link None = u16 65535
link (Some n) = u16 n

-- a connection point
abbrev pub port : Port → List ℕ
port p = name p.name ++ (u16 p.vdu ++ link p.link)

-- what the steps of an aspect add to one VDU; the aspect says how many numbers there are
abbrev pub row : Row → List ℕ
row r = u16 r.vdu ++ flat_map u32 r.deltas

-- a scaling aspect
abbrev pub aspect : Aspect → List ℕ
aspect a = name a.name ++ (u32 a.maximum ++ (u16 a.steps ++ many row a.rows))

-- an instantiation level; the number of aspects says how many numbers there are
abbrev pub level : Level → List ℕ
level l = name l.name ++ flat_map u32 l.numbers

-- the lists of a descriptor
abbrev pub vnfd_lists : Vnfd → List ℕ
vnfd_lists v = many vdu v.vdus ++ (many storage v.storages ++ (many name v.links ++ (many port v.ports
    ++ (many aspect v.aspects ++ (many level v.levels ++ u16 v.default_level)))))

-- a descriptor
abbrev pub vnfd : Vnfd → List ℕ
vnfd v = name v.descriptor_id ++ (name v.provider ++ (name v.product_name ++ (name v.software_version
    ++ (name v.descriptor_version ++ (name v.flavour_id ++ vnfd_lists v)))))

-- the number of the kind of an event
abbrev pub kind_number : EventKind → ℕ
kind_number (events.Onboarded v) = 1
kind_number (events.Created i v n t) = 2
kind_number (events.Deleted i) = 3
kind_number (events.Asked o) = 4
kind_number (events.GrantTried o a) = 5
kind_number (events.Granted o g p s) = 6
kind_number (events.Denied o) = 7
kind_number (events.Intent t) = 8
kind_number (events.CallFailed t) = 9
kind_number (events.Settled t o) = 10
kind_number (events.Moved o to) = 11
kind_number (events.CancelAsked o m) = 12
kind_number (events.Subscribed s r c f) = 13
kind_number (events.Unsubscribed s) = 14
kind_number (events.Posted s p o) = 15

-- the fields of an event, in the order of the format
abbrev pub fields : EventKind → List ℕ
fields (events.Onboarded v) = vnfd v
fields (events.Created instance of_vnfd named text) = u64 instance
    ++ (name of_vnfd ++ (optional name named ++ optional line text))
fields (events.Deleted instance) = u64 instance
fields (events.Asked o) = operation o
fields (events.GrantTried occ answer) = u64 occ ++ grant_try answer
fields (events.Granted occ grant places spots) = u64 occ ++ (name grant ++ (few place places ++ many u8 spots))
fields (events.Denied occ) = u64 occ
fields (events.Intent t) = tag t
fields (events.CallFailed t) = tag t
fields (events.Settled t how) = tag t ++ outcome how
fields (events.Moved occ to) = u64 occ ++ u8 (number.op_state to)
fields (events.CancelAsked occ mode) = u64 occ ++ u8 (number.cancel_mode mode)
fields (events.Subscribed subscription role callback asked) =
    u64 subscription ++ (u8 (number.role role) ++ (line callback ++ filter asked))
fields (events.Unsubscribed subscription) = u64 subscription
fields (events.Posted subscription place how) = u64 subscription ++ (u64 place ++ u8 (number.post_outcome how))

-- the bytes of an event: the number of its kind, its moment in milliseconds, and its fields (own format)
unfoldable pub spelling : Event → List ℕ
spelling e = kind_number e.kind ∷ u64 e.moment ++ fields e.kind
