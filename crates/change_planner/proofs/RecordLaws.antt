-- What is asked for fits a record.
use Rattle.std.proofs.Common.{◌≡◌, ◌≤◌, ◌+◌, ◌*◌, ◌||◌, ◌∙◌, ℕ, List, [], ◌∷◌, Bool, true, false, cond, not, Option, None, Some, is_some}
use Rattle.std.proofs.Common.{refl, sym, subst, length, map, find, flat_map, arith, inl, inr}
use Rattle.std.specs.List.{AllByRecursion, list_any}
use Rattle.std.proofs.Math.Nat.{suc-mul}
use Rattle.std.proofs.lemmas.Bool.{leb-true}
use Rattle.std.proofs.lemmas.List.{length-append, length-map}
use Rattle.vnfm_base.specs.Text.{IsLine, IsName}
use Rattle.lcm_events.specs.Same.{same_name}
use Rattle.lcm_events.specs.declared.asks.Aim.{Aim}
use Rattle.lcm_events.specs.declared.asks.Aim.TheVariants as aims
use Rattle.lcm_events.specs.declared.asks.Ask.{Ask}
use Rattle.lcm_events.specs.declared.asks.Ask.TheVariants as asks
use Rattle.lcm_events.specs.declared.asks.AspectLevel.{AspectLevel}
use Rattle.lcm_events.specs.declared.asks.Vnfc.{Vnfc}
use Rattle.lcm_events.specs.declared.changes.Change.{Change}
use Rattle.lcm_events.specs.declared.descriptor.Aspect.{Aspect}
use Rattle.lcm_events.specs.declared.descriptor.Vnfd.{Vnfd}
use Rattle.lcm_events.specs.declared.events.Event.{Event}
use Rattle.lcm_events.specs.declared.events.EventKind.TheVariants.{Asked}
use Rattle.lcm_events.specs.declared.events.Operation.{Operation}
use Rattle.event_codec.specs.Spell as spell
use Rattle.event_codec.specs.Spell.{spelling, u16, u32, u64}
use Rattle.event_codec.specs.Typed.{TypedAsk}
use Rattle.event_codec.specs.Valid.{IsAspectLevel, IsU32, IsVnfc, Optionally}
use Rattle.lcm_model.specs.declared.refusals.Refusal.TheVariants as refusals
use Rattle.lcm_model.specs.Words.{IsIn, when}
use Rattle.lcm_model.specs.Lives.{descriptor}
use Rattle.lcm_model.specs.Descriptors.{IsValid}
use Rattle.lcm_model.specs.Refusals.{aim_refusal, aspect_named, content_refusal, has_aspect, is_above, names_twice, plan_refusal, situation}
use Rattle.lcm_model.specs.Refusals.{state_refusal}
use Rattle.lcm_model.specs.Allowed.{IsAllowedWithin, IsLegalWithin, IsPlanOf}
use Rattle.change_planner.specs.Records.{NamesFew}
use Rattle.lcm_laws.proofs.Lists.{and_left, and_right, by_test, none_of-front, none_of-rest, when-none}
use Rattle.lcm_laws.proofs.Members.{Rises, in_map, of_map}
use Rattle.lcm_laws.proofs.BoundLaws.{Differ, few, few_changes}
use Rattle.lcm_laws.proofs.PlanHistory.{descriptor_valid, found_in}
use Rattle.lcm_laws.proofs.StandLaws.{same_name-true}
use Rattle.lcm_laws.proofs.CoverLaws.{same_name-refl}

length-u16 : (n : ℕ) → length (spell.u16 n) ≡ 2
unfolding u16
length-u16 n = refl

length-u32 : (n : ℕ) → length (spell.u32 n) ≡ 4
unfolding u32
length-u32 n = refl

pub length-u64 : (n : ℕ) → length (spell.u64 n) ≡ 8
unfolding u64
length-u64 n = refl

most_name : (text : List ℕ) → IsName text → length (spell.name text) ≤ 256
most_name text h = let k : length text ≤ 255 = h.short in omega arith

most_line : (text : List ℕ) → IsLine text → length (spell.line text) ≤ 2050
most_line text h = let k : length text ≤ 2048 = h.short in omega
    (arith, length-append (spell.u16 (length text)) text, length-u16 (length text))

most_optional : {A : Type 0} → (spells : A → List ℕ) (Fits : A → Type 0) (m : ℕ) → ((x : A) → Fits x → length (spells x) ≤ m)
    → (o : Option A) → Optionally Fits o
    → length (spell.optional spells o) ≤ m + 1
most_optional spells Fits m most None h = omega arith
most_optional spells Fits m most (Some x) h = let k = most x h in omega (arith, k)

-- entries of a list, each of so many bytes at most
most_entries : {A : Type 0} → (spells : A → List ℕ) (Fits : A → Type 0) (m : ℕ) → ((x : A) → Fits x → length (spells x) ≤ m) → (xs : List A)
    → AllByRecursion Fits xs
    → length (flat_map spells xs) ≤ length xs * m
most_entries spells Fits m most [] h = omega arith
most_entries spells Fits m most (x ∷ xs) h =
    let here = most x h.0 in
    let rest = most_entries spells Fits m most xs h.1 in
    omega (arith, length-append (spells x) (flat_map spells xs), here, rest, suc-mul (length xs) m)

length-change : (c : Change) → length (spell.change c) ≡ 11
length-change c = omega (arith, length-append {A = ℕ}, length-u16 c.def.item, length-u16 c.def.vdu, length-u32 c.def.serial)

length-changes : (cs : List Change) → length (flat_map spell.change cs) ≡ length cs * 11
length-changes [] = refl
length-changes (c ∷ cs) =
    let rest = length-changes cs in
    omega (arith, length-append (spell.change c) (flat_map spell.change cs), length-change c, rest, suc-mul (length cs) 11)

most_vnfc : (v : Vnfc) → IsVnfc v → length (spell.vnfc v) ≤ 6
most_vnfc v h = omega (arith, length-append (spell.u16 v.vdu) (spell.u32 v.serial), length-u16 v.vdu, length-u32 v.serial)

most_level : (x : AspectLevel) → IsAspectLevel x → length (spell.aspect_level x) ≤ 260
most_level x h = let name = most_name x.aspect h.0 in omega (
  arith,
  length-append (spell.name x.aspect) (spell.u32 x.level),
  length-u32 x.level,
  name,
)

-- names that differ are at most as many as those that they are among
or_left : (a b : Bool) → (a || b) ≡ false → a ≡ false
or_left true b e = e
or_left false b e = refl

or_right : (a b : Bool) → (a || b) ≡ false → b ≡ false
or_right true b e = cc
or_right false b e = e

none_passes : {A : Type 0} → (p : A → Bool) (x : A) (xs : List A) → list_any p xs ≡ false → IsIn x xs → p x ≡ false
none_passes p x [] e h = absurd h
none_passes {A} p x (y ∷ xs) e (inl is) = subst (λ (z : A). p z ≡ false) is (or_left (p y) (list_any p xs) e)
none_passes p x (y ∷ xs) e (inr h) = none_passes p x xs (or_right (p y) (list_any p xs) e) h

names_differ : (named : List AspectLevel) → names_twice named ≡ false → Rises Differ (map (λ x. x.aspect) named)
names_differ [] e = tt
names_differ (x ∷ named) e = (
  λ y within same.
      (let from = of_map (λ (z : AspectLevel). z.aspect) y named within in
      let no : same_name from.0.aspect x.aspect ≡ false = none_passes (λ y. same_name y.aspect x.aspect) from.0 named
      (or_left (list_any (λ y. same_name y.aspect x.aspect) named) (names_twice named) e) from.1 in
      let one : x.aspect ≡ from.0.aspect = same ∙ sym from.2 in
      let yes : same_name from.0.aspect x.aspect ≡ true = subst (λ (n : List ℕ). same_name n x.aspect ≡ true) one
      (same_name-refl x.aspect) in
      let clash : true ≡ false = sym yes ∙ no in cc),
  names_differ named (or_right (list_any (λ y. same_name y.aspect x.aspect) named) (names_twice named) e),
)

not-not-true : (b : Bool) → not b ≡ false → b ≡ true
not-not-true true e = refl
not-not-true false e = cc

found_passes : {A : Type 0} → (p : A → Bool) (xs : List A) (x : A) → find p xs ≡ Some x → p x ≡ true
found_passes p [] x e = cc
found_passes {A} p (y ∷ xs) x e = by_test (p y)
    (λ passes.
    let is : Some y ≡ Some x = subst (λ (b : Bool). cond b (Some y) (find p xs) ≡ Some x) passes e in
    let one : y ≡ x = cc in
    subst (λ (z : A). p z ≡ true) one passes)
    (λ fails. found_passes p xs x (subst (λ (b : Bool). cond b (Some y) (find p xs) ≡ Some x) fails e))

known_aspect : (d : Vnfd) (name : List ℕ) (o : Option Aspect) → find (λ a. same_name a.name name) d.aspects ≡ o → is_some o ≡ true
    → IsIn name (map (λ a. a.name) d.aspects)
known_aspect d name None is e = cc
known_aspect d name (Some a) is e =
    let one : a.name ≡ name = same_name-true a.name name (found_passes (λ a. same_name a.name name) d.aspects a is) in
    subst (λ (n : List ℕ). IsIn n (map (λ a. a.name) d.aspects)) one
    (in_map (λ (a : Aspect). a.name) a d.aspects (found_in (λ a. same_name a.name name) d.aspects a is))

few_named : (d : Vnfd) (named : List AspectLevel) → IsValid d → aim_refusal d (aims.Aspects named) ≡ None → length named ≤ 16
few_named d named valid e =
    let unknown = list_any (λ x. not (has_aspect d x.aspect)) named in
    let above = when (list_any (is_above d) named) refusals.LevelAboveMaximum in
    let twice = when (names_twice named) refusals.AspectTwice in
    let all : list_any (λ x. not (has_aspect d x.aspect)) named ≡ false =
    when-none unknown refusals.UnknownAspect (none_of-front (when unknown refusals.UnknownAspect) (twice ∷ above ∷ []) e) in
    let once : names_twice named ≡ false =
    when-none (names_twice named) refusals.AspectTwice (none_of-front twice (above ∷ [])
    (none_of-rest (when unknown refusals.UnknownAspect) (twice ∷ above ∷ []) e)) in
    let less : length (map (λ x. x.aspect) named) ≤ length (map (λ a. a.name) d.aspects) =
    few (map (λ x. x.aspect) named) (map (λ a. a.name) d.aspects) (names_differ named once) (λ n within.
    let from = of_map (λ (x : AspectLevel). x.aspect) n named within in
    let known : has_aspect d from.0.aspect ≡ true = not-not-true (has_aspect d from.0.aspect)
    (none_passes (λ x. not (has_aspect d x.aspect)) from.0 named all from.1) in
    subst (λ (k : List ℕ). IsIn k (map (λ a. a.name) d.aspects)) from.2
    (known_aspect d from.0.aspect (aspect_named d from.0.aspect) refl known)) in
    let sixteen : length d.aspects ≤ 16 = leb-true (length d.aspects) 16 (and_right _ _ (and_left _ _ (and_left _ _ valid.counts))) in
    omega (arith, less, sixteen, length-map named (λ x. x.aspect), length-map d.aspects (λ a. a.name))

most_aim : (d : Vnfd) (aim : Aim) → IsValid d → aim_refusal d aim ≡ None → TypedAsk (asks.ScaleToLevel aim) → length (spell.aim aim) ≤ 4165
most_aim d (aims.Level name) valid e h = let k = most_name name h in omega (arith, k)
most_aim d (aims.Aspects named) valid e h =
    let n = few_named d named valid e in
    let bytes = most_entries spell.aspect_level IsAspectLevel 260 (λ x p. most_level x p) named h in
    omega (arith, length-append (spell.u16 (length named)) (flat_map spell.aspect_level named), length-u16 (length named), n, bytes)

-- what an ask is spelled in
pub most_ask : (d : Vnfd) (ask : Ask) → IsValid d → content_refusal d ask ≡ None → TypedAsk ask → NamesFew ask
    → length (spell.ask ask) ≤ 6000
most_ask d (asks.Instantiate flavour level) valid e h n =
    let a = most_name flavour h.0 in
    let b = most_optional spell.name IsName 256 (λ x p. most_name x p) level h.1 in
    omega (arith, length-append (spell.name flavour) (spell.optional spell.name level), a, b)
most_ask d (asks.Scale way aspect steps) valid e h n =
    let a = most_name aspect h.0 in omega (arith, length-append aspect (spell.u32 steps), length-u32 steps, a)
most_ask d (asks.ScaleToLevel aim) valid e h n = let a = most_aim d aim valid e h in omega (arith, a)
most_ask d (asks.Heal cause named) valid e h n =
    let a = most_optional spell.line IsLine 2050 (λ x p. most_line x p) cause h.0 in
    let b = most_entries spell.vnfc IsVnfc 6 (λ x p. most_vnfc x p) named h.1 in
    omega (
      arith,
      length-append (spell.optional spell.line cause) (spell.many spell.vnfc named),
      length-append (spell.u16 (length named)) (flat_map spell.vnfc named),
      length-u16 (length named),
      a,
      b,
      n,
    )
most_ask d (asks.Operate started stop) valid e h n = omega arith
most_ask d (asks.Terminate mode timeout) valid e h n =
    let a = most_optional spell.u32 IsU32 4 (λ x p. four x) timeout h in omega (arith, a) where
      four : (x : ℕ) → length (spell.u32 x) ≤ 4
      four x = omega (arith, length-u32 x)

most_asked : (H : List Event) (a : Operation) (d : Option Vnfd) → ((e : Vnfd) → d ≡ Some e → IsValid e) → IsPlanOf H a d → TypedAsk a.ask
    → NamesFew a.ask → length (spell.ask a.ask) ≤ 6000
most_asked H a None f h typed n = absurd h
most_asked H a (Some d) f h typed n =
    let content : content_refusal d a.ask ≡ None =
    none_of-front (content_refusal d a.ask) (state_refusal d (situation d H a.instance) a.ask
    ∷ plan_refusal d (situation d H a.instance) a.ask ∷ []) h.0 in
    most_ask d a.ask (f d refl) content typed n

pub length-operation : (o : Operation) → length (spell.operation o)
    ≡ 8 + (8 + (1 + (length (spell.ask o.ask) + (2 + length o.changes * 11))))
length-operation o =
    omega (arith, length-append {A = ℕ}, length-u64 o.occ, length-u64 o.instance, length-u16 (length o.changes), length-changes o.changes)

-- what may be asked for fits a record
pub asked_fits : (width m : ℕ) (H : List Event) (time : ℕ) (a : Operation) → IsLegalWithin width m H → IsAllowedWithin width m H (Asked a)
    → TypedAsk a.ask → NamesFew a.ask → length (spelling (record { moment = time; kind = Asked a })) ≤ 65536
unfolding spelling
asked_fits width m H time a legal allowed typed n =
    let ask = most_asked H a (descriptor H a.instance) (λ e is. descriptor_valid width m H a.instance e legal is) allowed.planned typed n in
    let plan = few_changes width m H a legal allowed in
    omega (arith, length-append (spell.u64 time) (spell.operation a), length-u64 time, length-operation a, ask, plan)
