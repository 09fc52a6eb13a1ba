-- No event's spelling has 2^63 bytes: the count of what is put never stands still.
use Rattle.std.proofs.Common.{◌≡◌, ℕ, ◌+◌, ◌*◌, ◌-◌, ◌^◌, ◌<◌, ◌≤◌, List, [], ◌∷◌, ◌++◌, Option, Some, None, length, min, nat_lt, false}
use Rattle.std.proofs.Common.{refl, ◌∙◌, ap, arith}
use Rattle.std.specs.List.{AllByRecursion, flat_map}
use Rattle.std.proofs.Math.Nat.{suc-mul, mul-le-mul_right}
use Rattle.std.proofs.lemmas.Bool.{le-ltb}
use Rattle.std.proofs.lemmas.List.{length-append}
use Rattle.vnfm_base.specs.Text.{IsName, IsLine}
use Rattle.lcm_events.specs.declared.asks.Aim.{Aim}
use Rattle.lcm_events.specs.declared.asks.Aim.TheVariants as aims
use Rattle.lcm_events.specs.declared.asks.Ask.{Ask}
use Rattle.lcm_events.specs.declared.asks.Ask.TheVariants as asks
use Rattle.lcm_events.specs.declared.asks.AspectLevel.{AspectLevel}
use Rattle.lcm_events.specs.declared.asks.Vnfc.{Vnfc}
use Rattle.lcm_events.specs.declared.attempts.Outcome.{Outcome}
use Rattle.lcm_events.specs.declared.attempts.Outcome.TheVariants as outcomes
use Rattle.lcm_events.specs.declared.attempts.Tag.{Tag}
use Rattle.lcm_events.specs.declared.changes.Change.{Change}
use Rattle.lcm_events.specs.declared.descriptor.Aspect.{Aspect}
use Rattle.lcm_events.specs.declared.descriptor.Level.{Level}
use Rattle.lcm_events.specs.declared.descriptor.Port.{Port}
use Rattle.lcm_events.specs.declared.descriptor.Row.{Row}
use Rattle.lcm_events.specs.declared.descriptor.Storage.{Storage}
use Rattle.lcm_events.specs.declared.descriptor.Vdu.{Vdu}
use Rattle.lcm_events.specs.declared.descriptor.Vnfd.{Vnfd}
use Rattle.lcm_events.specs.declared.events.Event.{Event}
use Rattle.lcm_events.specs.declared.events.EventKind.{EventKind}
use Rattle.lcm_events.specs.declared.events.EventKind.TheVariants as events
use Rattle.lcm_events.specs.declared.events.GrantTry.{GrantTry}
use Rattle.lcm_events.specs.declared.events.GrantTry.TheVariants as grants
use Rattle.lcm_events.specs.declared.events.Operation.{Operation}
use Rattle.lcm_events.specs.declared.filters.Filter.{Filter}
use Rattle.lcm_events.specs.declared.places.Place.{Place}
use Rattle.event_codec.specs.Numbers as number
use Rattle.event_codec.specs.Spell as spell
use Rattle.event_codec.specs.Spell.{u16, u32, u64, spelling, fields}
use Rattle.event_codec.specs.Valid.{IsU8, IsU16, IsU32, IsAny, Optionally, AreMany, IsChange, IsVnfc, IsAspectLevel, IsAim, IsAsk}
use Rattle.event_codec.specs.Valid.{IsOperation, IsGrantTry, IsPlace, IsOutcome, IsFilter, IsStorage, IsVdu, IsPort, IsRow, IsAspect}
use Rattle.event_codec.specs.Valid.{IsLevel, IsVnfd, IsKind, IsEvent}
use Rattle.event_codec.specs.Written.{Written, nothing, put}

length-u16 : (n : ℕ) → length (spell.u16 n) ≡ 2
unfolding u16
length-u16 n = refl

length-u32 : (n : ℕ) → length (spell.u32 n) ≡ 4
unfolding u32
length-u32 n = refl

length-u64 : (n : ℕ) → length (spell.u64 n) ≡ 8
unfolding u64
length-u64 n = refl

most_name : (text : List ℕ) → IsName text → length (spell.name text) ≤ 256
most_name text h = let k : length text ≤ 255 = h.short in omega arith

most_line : (text : List ℕ) → IsLine text → length (spell.line text) ≤ 2050
most_line text h = let k : length text ≤ 2048 = h.short in omega
    (arith, length-append (spell.u16 (length text)) text, length-u16 (length text))

most_optional : {A : Type 0} (a_spell : A → List ℕ) (Fits : A → Type 0) (m : ℕ) → ((x : A) → Fits x → length (a_spell x) ≤ m)
    → (o : Option A) → Optionally Fits o → length (spell.optional a_spell o) ≤ m + 1
most_optional a_spell Fits m most None h = omega arith
most_optional a_spell Fits m most (Some x) h = let k = most x h in omega (arith, most x h)

most_entries : {A : Type 0} (a_spell : A → List ℕ) (Fits : A → Type 0) (m : ℕ) → ((x : A) → Fits x → length (a_spell x) ≤ m)
    → (xs : List A) → AllByRecursion Fits xs → length (flat_map a_spell xs) ≤ length xs * m
most_entries a_spell Fits m most [] h = omega arith
most_entries a_spell Fits m most (x ∷ xs) h =
    omega (
      arith,
      length-append (a_spell x) (flat_map a_spell xs),
      most x h.0,
      most_entries a_spell Fits m most xs h.1,
      suc-mul (length xs) m,
    )

most_many : {A : Type 0} (a_spell : A → List ℕ) (Fits : A → Type 0) (m : ℕ) → ((x : A) → Fits x → length (a_spell x) ≤ m)
    → (xs : List A) → AreMany Fits xs → length (spell.many a_spell xs) ≤ 65535 * m + 2
most_many a_spell Fits m most xs h =
    let short : length xs ≤ 65535 = (let k : length xs < 2 ^ 16 = h.0 in omega arith) in
    omega (
      arith,
      length-append (spell.u16 (length xs)) (flat_map a_spell xs),
      length-u16 (length xs),
      most_entries a_spell Fits m most xs h.1,
      mul-le-mul_right m short,
    )

most_numbers : (n : ℕ) (xs : List ℕ) → (length xs ≡ n) × AllByRecursion IsU32 xs → n < 2 ^ 16 → length (flat_map spell.u32 xs) ≤ 262140
most_numbers n xs h few =
    let k : length xs ≡ n = h.0 in
    omega (arith, most_entries spell.u32 IsU32 4 (λ x p. omega (arith, length-u32 x)) xs h.1)

length-tag : (t : Tag) → length (spell.tag t) ≡ 15
length-tag t = omega (arith, length-append {A = ℕ}, length-u64 t.occ, length-u16 t.change, length-u32 t.attempt)

most_change : (c : Change) → IsChange c → length (spell.change c) ≤ 11
most_change c h = omega (arith, length-append {A = ℕ}, length-u16 c.def.item, length-u16 c.def.vdu, length-u32 c.def.serial)

most_vnfc : (v : Vnfc) → IsVnfc v → length (spell.vnfc v) ≤ 6
most_vnfc v h = omega (arith, length-append {A = ℕ}, length-u16 v.vdu, length-u32 v.serial)

most_aspect_level : (a : AspectLevel) → IsAspectLevel a → length (spell.aspect_level a) ≤ 260
most_aspect_level a h = omega (arith, length-append (spell.name a.aspect) (spell.u32 a.level), most_name a.aspect h.0, length-u32 a.level)

most_aim : (x : Aim) → IsAim x → length (spell.aim x) ≤ 17039103
most_aim (aims.Level level) h = let k = most_name level h in omega (arith, most_name level h)
most_aim (aims.Aspects aspects) h = omega (arith, most_many spell.aspect_level IsAspectLevel 260 most_aspect_level aspects h)

most_ask : (x : Ask) → IsAsk x → length (spell.ask x) ≤ 20000000
most_ask (asks.Instantiate flavour level) h =
    omega (
      arith,
      length-append (spell.name flavour) (spell.optional spell.name level),
      most_name flavour h.0,
      most_optional spell.name IsName 256 most_name level h.1,
    )
most_ask (asks.Scale way aspect steps) h = omega (
  arith,
  length-append (spell.name aspect) (spell.u32 steps),
  most_name aspect h.0,
  length-u32 steps,
)
most_ask (asks.ScaleToLevel to) h = omega (arith, most_aim to h)
most_ask (asks.Heal cause named) h =
    omega (
      arith,
      length-append (spell.optional spell.line cause) (spell.many spell.vnfc named),
      most_optional spell.line IsLine 2050 most_line cause h.0,
      most_many spell.vnfc IsVnfc 6 most_vnfc named h.1,
    )
most_ask (asks.Operate started stop) h = omega arith
most_ask (asks.Terminate mode timeout) h =
    omega (arith, length-append {A = ℕ}, most_optional spell.u32 IsU32 4 (λ n p. omega (arith, length-u32 n)) timeout h)

most_operation : (o : Operation) → IsOperation o → length (spell.operation o) ≤ 30000000
most_operation o h =
    omega (
      arith,
      length-append {A = ℕ},
      length-u64 o.occ,
      length-u64 o.instance,
      most_ask o.ask h.2,
      most_many spell.change IsChange 11 most_change o.changes h.3,
    )

most_grant_try : (x : GrantTry) → IsGrantTry x → length (spell.grant_try x) ≤ 2051
most_grant_try (grants.Later location) h = omega (arith, most_line location h)
most_grant_try grants.Trouble h = omega arith
most_grant_try grants.NotCovering h = omega arith

most_place : (p : Place) → IsPlace p → length (spell.place p) ≤ 512
most_place p h = omega (arith, length-append (spell.name p.vim) (spell.name p.zone), most_name p.vim h.0, most_name p.zone h.1)

most_outcome : (x : Outcome) → IsOutcome x → length (spell.outcome x) ≤ 257
most_outcome (outcomes.Done resource) h = omega (arith, most_name resource h)
most_outcome (outcomes.Broken code) h = omega (arith, length-u32 code)
most_outcome outcomes.Aborted h = omega arith
most_outcome outcomes.NotBegun h = omega arith

most_filter : (f : Filter) → IsFilter f → length (spell.filter f) ≤ 60000000
most_filter f h =
    omega (
      arith,
      length-append {A = ℕ},
      most_many spell.name IsName 256 most_name f.vnfds h.0,
      most_many spell.name IsName 256 most_name f.instances h.1,
      most_many spell.name IsName 256 most_name f.names h.2,
      most_many (λ w. spell.u8 (number.notice_kind w)) IsAny 1 (λ w p. omega arith) f.notices h.3,
      most_many (λ w. spell.u8 (number.operation_type w)) IsAny 1 (λ w p. omega arith) f.operations h.4,
      most_many (λ w. spell.u8 (number.op_state w)) IsAny 1 (λ w p. omega arith) f.states h.5,
    )

most_vdu : (v : Vdu) → IsVdu v → length (spell.vdu v) ≤ 200000
most_vdu v h =
    omega (
      arith,
      length-append {A = ℕ},
      length-append (spell.name v.name) (spell.u64 v.memory ++ (spell.u32 v.cpus
          ++ (spell.u32 v.maximum ++ (spell.u32 v.initial ++ spell.many spell.u16 v.storages)))),
      most_name v.name h.0,
      length-u64 v.memory,
      length-u32 v.cpus,
      length-u32 v.maximum,
      length-u32 v.initial,
      most_many spell.u16 IsU16 2 (λ n p. omega (arith, length-u16 n)) v.storages h.5,
    )

most_storage : (s : Storage) → IsStorage s → length (spell.storage s) ≤ 264
most_storage s h = omega (arith, length-append (spell.name s.name) (spell.u64 s.size), most_name s.name h.0, length-u64 s.size)

most_link : (link : Option ℕ) → length (spell.link link) ≤ 2
most_link None = omega (arith, length-u16 65535)
most_link (Some n) = omega (arith, length-u16 n)

most_port : (p : Port) → IsPort p → length (spell.port p) ≤ 260
most_port p h = omega (
  arith,
  length-append {A = ℕ},
  length-append (spell.name p.name) (spell.u16 p.vdu ++ spell.link p.link),
  most_name p.name h.0,
  length-u16 p.vdu,
  most_link p.link,
)

most_row : (steps : ℕ) → steps < 2 ^ 16 → (r : Row) → IsRow steps r → length (spell.row r) ≤ 262142
most_row steps few r h = omega (arith, length-append {A = ℕ}, length-u16 r.vdu, most_numbers steps r.deltas h.1 few)

most_aspect : (a : Aspect) → IsAspect a → length (spell.aspect a) ≤ 18000000000
most_aspect a h =
    omega (
      arith,
      length-append {A = ℕ},
      length-append (spell.name a.name) (spell.u32 a.maximum ++ (spell.u16 a.steps ++ spell.many spell.row a.rows)),
      most_name a.name h.0,
      length-u32 a.maximum,
      length-u16 a.steps,
      most_many spell.row (IsRow a.steps) 262142 (most_row a.steps h.2) a.rows h.3,
    )

most_level : (n : ℕ) → n < 2 ^ 16 → (l : Level) → IsLevel n l → length (spell.level l) ≤ 262396
most_level n few l h = omega (
  arith,
  length-append (spell.name l.name) (flat_map spell.u32 l.numbers),
  most_name l.name h.0,
  most_numbers n l.numbers h.1 few,
)

most_lists : (v : Vnfd) → IsVnfd v → length (spell.vnfd_lists v) ≤ 1200000000000000
most_lists v h =
    omega (
      arith,
      length-append {A = ℕ},
      most_many spell.vdu IsVdu 200000 most_vdu v.vdus h.6,
      most_many spell.storage IsStorage 264 most_storage v.storages h.7,
      most_many spell.name IsName 256 most_name v.links h.8,
      most_many spell.port IsPort 260 most_port v.ports h.9,
      most_many spell.aspect IsAspect 18000000000 most_aspect v.aspects h.10,
      most_many spell.level (IsLevel (length v.aspects)) 262396 (most_level (length v.aspects) h.10.0) v.levels h.11,
      length-u16 v.default_level,
    )

most_named : (text rest : List ℕ) (m : ℕ) → IsName text → length rest ≤ m → length (spell.name text ++ rest) ≤ m + 256
most_named text rest m h few = omega (arith, length-append (spell.name text) rest, most_name text h)

most_vnfd : (v : Vnfd) → IsVnfd v → length (spell.vnfd v) ≤ 1200000000001536
most_vnfd v h =
    most_named v.descriptor_id _ 1200000000001280 h.0 (most_named v.provider _ 1200000000001024 h.1
    (most_named v.product_name _ 1200000000000768 h.2
    (most_named v.software_version _ 1200000000000512 h.3 (most_named v.descriptor_version _ 1200000000000256 h.4
    (most_named v.flavour_id _ 1200000000000000 h.5 (most_lists v h))))))

most_fields : (k : EventKind) → IsKind k → length (fields k) ≤ 1400000000000000
most_fields (events.Onboarded v) h = omega (arith, most_vnfd v h)
most_fields (events.Created i v n t) h =
    omega (
      arith,
      length-append (spell.u64 i) (spell.name v ++ (spell.optional spell.name n ++ spell.optional spell.line t)),
      length-u64 i,
      length-append (spell.name v) (spell.optional spell.name n ++ spell.optional spell.line t),
      most_name v h.1,
      length-append (spell.optional spell.name n) (spell.optional spell.line t),
      most_optional spell.name IsName 256 most_name n h.2,
      most_optional spell.line IsLine 2050 most_line t h.3,
    )
most_fields (events.Deleted i) h = omega (arith, length-u64 i)
most_fields (events.Asked o) h = omega (arith, most_operation o h)
most_fields (events.GrantTried o a) h = omega (arith, length-append {A = ℕ}, length-u64 o, most_grant_try a h.1)
most_fields (events.Granted o g p s) h =
    omega (
      arith,
      length-append (spell.u64 o) (spell.name g ++ (spell.few spell.place p ++ spell.many spell.u8 s)),
      length-u64 o,
      length-append (spell.name g) (spell.few spell.place p ++ spell.many spell.u8 s),
      most_name g h.1,
      length-append (spell.few spell.place p) (spell.many spell.u8 s),
      most_entries spell.place IsPlace 512 most_place p h.2.1,
      h.2.0,
      most_many spell.u8 IsU8 1 (λ n q. omega arith) s h.2.2,
    )
most_fields (events.Denied o) h = omega (arith, length-u64 o)
most_fields (events.Intent t) h = omega (arith, length-tag t)
most_fields (events.CallFailed t) h = omega (arith, length-tag t)
most_fields (events.Settled t o) h = omega (arith, length-append {A = ℕ}, length-tag t, most_outcome o h.1)
most_fields (events.Moved o to) h = omega (arith, length-append {A = ℕ}, length-u64 o)
most_fields (events.CancelAsked o m) h = omega (arith, length-append {A = ℕ}, length-u64 o)
most_fields (events.Subscribed s r c f) h = omega (arith, length-append {A = ℕ}, length-u64 s, most_line c h.1, most_filter f h.2)
most_fields (events.Unsubscribed s) h = omega (arith, length-u64 s)
most_fields (events.Posted s p o) h = omega (arith, length-append {A = ℕ}, length-u64 s, length-u64 p)

pub most_spelling : (e : Event) → IsEvent e → length (spelling e) < 2 ^ 63
unfolding spelling
most_spelling e h = omega (arith, length-append (spell.u64 e.moment) (fields e.kind), length-u64 e.moment, most_fields e.kind h.1)

-- what fits is kept, and was counted
pub put-kept : (w : Written) (text : List ℕ) → w ≡ put nothing text → w.len ≤ 65536 → (w.kept ≡ text) × (length text ≤ 65536)
unfolding put
put-kept w text is few =
    let count : w.len ≡ min (0 + length text) (2 ^ 64 - 1) = ap (λ (v : Written). v.len) is in
    let short : length text ≤ 65536 = omega arith in
    let test : nat_lt 65536 (0 + length text) ≡ false = le-ltb 65536 (0 + length text) (omega arith) in
    (ap (λ (v : Written). v.kept) is ∙ rw test refl, short)

-- what doesn't was counted too
pub put-long : (w : Written) (text : List ℕ) → w ≡ put nothing text → 65536 < w.len → length text < 2 ^ 63
    → (w.len ≡ length text) × (65536 < length text)
unfolding put
put-long w text is long within =
    let count : w.len ≡ min (0 + length text) (2 ^ 64 - 1) = ap (λ (v : Written). v.len) is in
    (omega arith, omega arith)
