-- What stands of an instance is of its descriptor.
use Rattle.std.proofs.Common.{◌≡◌, ◌≤◌, ◌+◌, ◌&&◌, ◌==◌, ◌∙◌, ℕ, List, [], ◌∷◌, true, false, not, Option, None, Some, refl, ap, sym, subst}
use Rattle.std.proofs.Common.{length, map, filter, find, arith, ◌⊎◌, inl, inr, ltb, lt-ltb, eqb-true, eq-eqb, slice_get}
use Rattle.std.specs.List.{cons_option, range_with_len}
use Rattle.std.specs.Option.{option_map_or}
use Rattle.std.specs.Prelude.{option_and_then, option_map}
use Rattle.lcm_events.specs.Same.{same_def, same_name}
use Rattle.lcm_events.proofs.SameLaws.{same_def-true}
use Rattle.lcm_events.specs.declared.asks.Ask.{Ask}
use Rattle.lcm_events.specs.declared.asks.Ask.TheVariants.{Heal, Instantiate, Operate, Scale, ScaleToLevel, Terminate}
use Rattle.lcm_events.specs.declared.attempts.Outcome.{Outcome}
use Rattle.lcm_events.specs.declared.attempts.Outcome.TheVariants.{Done}
use Rattle.lcm_events.specs.declared.attempts.Tag.{Tag}
use Rattle.lcm_events.specs.declared.changes.Change.{Change}
use Rattle.lcm_events.specs.declared.changes.Def.{Def}
use Rattle.lcm_events.specs.declared.changes.DefKind.{DefKind}
use Rattle.lcm_events.specs.declared.changes.DefKind.TheVariants.{Compute, Link, Port, Storage}
use Rattle.lcm_events.specs.declared.changes.Verb.{Verb}
use Rattle.lcm_events.specs.declared.changes.Verb.TheVariants.{Create, Remove, Start, Stop}
use Rattle.lcm_events.specs.declared.descriptor.Vnfd.{Vnfd}
use Rattle.lcm_events.specs.declared.events.Event.{Event}
use Rattle.lcm_events.specs.declared.events.EventKind.{EventKind}
use Rattle.lcm_events.specs.declared.events.EventKind.TheVariants.{Asked, Created, Onboarded, Settled}
use Rattle.lcm_events.specs.declared.events.Operation.{Operation}
use Rattle.lcm_model.specs.declared.holding.Effect.{Effect}
use Rattle.lcm_model.specs.Words.{IsIn, first, greatest, is_among, told}
use Rattle.lcm_model.specs.Operations.{asked_in, operation, operations}
use Rattle.lcm_model.specs.Holding.{effect, effect_done, effect_in, effects, is_effect_on, is_of_instance, is_of_vdu, leaves_it, serial_of}
use Rattle.lcm_model.specs.Holding.{stands, top, top_in, top_of}
use Rattle.lcm_model.specs.Lives.{CreatedInstance, creation, creations, descriptor, descriptor_named, descriptors}
use Rattle.lcm_model.specs.Vnfcs.{def_of, is_def_in, is_def_of, is_there, is_whole, items, there}
use Rattle.lcm_model.specs.Plans.{Case, is_named, leaving, may_stay, new_by, plan, stay, stay_by, want}
use Rattle.lcm_model.specs.Planned.{IsLink, IsOf, IsPlannedBy}
use Rattle.lcm_model.specs.Refusals.{case_in, situation}
use Rattle.lcm_model.specs.Allowed.{IsAllowedWithin, IsLegalWithin, IsPlanOf}
use Rattle.lcm_laws.specs.Standing.{IsOfInstance}
use Rattle.lcm_laws.proofs.Histories.{event, legal_induction}
use Rattle.lcm_laws.proofs.Lists.{and_left, and_right, and_true, by_test}
use Rattle.lcm_laws.proofs.Members.{get_in, in_among, in_filter, in_map, in_take, of_filter, of_map, of_range}
use Rattle.lcm_laws.proofs.NumberLaws.{find-skips, instances_counted}
use Rattle.lcm_laws.proofs.PlanHistory.{found_in}
use Rattle.lcm_laws.proofs.PlanMembers.{OfMachine, in_plan-planned, of_all}

-- what an event may add to a list
pub of_cons : {A : Type 0} → (y : A) (o : Option A) (xs : List A) → IsIn y (cons_option o xs) → (o ≡ Some y) ⊎ IsIn y xs
of_cons y None xs h = inr h
of_cons y (Some x) xs (inl e) = inl (ap Some e)
of_cons y (Some x) xs (inr h) = inr h

pub in_cons : {A : Type 0} → (y : A) (o : Option A) (xs : List A) → IsIn y xs → IsIn y (cons_option o xs)
in_cons y None xs h = h
in_cons y (Some x) xs h = inr h

-- the change and the operation that an effect is of
abbrev pub EffectFrom : List Event → Effect → Type 0
EffectFrom H y =
    (a : Operation) × IsIn a (operations H) × (a.instance ≡ y.instance) × ((c : Change) × IsIn c a.changes × (c.def ≡ y.def))

from_change : (H : List Event) (t : Tag) (name : List ℕ) (y : Effect) (a : Operation) (c : Option Change) → IsIn a (operations H)
    → slice_get a.changes t.change ≡ c → option_map (effect t name a) c ≡ Some y → EffectFrom H y
from_change H t name y a None among is e = cc
from_change H t name y a (Some c) among is e =
    let same : effect t name a c ≡ y = cc in
    (a, among, ap (λ (z : Effect). z.instance) same, (c, get_in c a.changes t.change is, ap (λ (z : Effect). z.def) same))

from_done : (H : List Event) (t : Tag) (name : List ℕ) (y : Effect) (a : Option Operation) → operation H t.occ ≡ a
    → option_and_then (λ a. option_map (effect t name a) (slice_get a.changes t.change)) a ≡ Some y → EffectFrom H y
from_done H t name y None is e = cc
from_done H t name y (Some a) is e =
    from_change H t name y a (slice_get a.changes t.change) (found_in (λ b. b.occ == t.occ) (operations H) a is) refl e

from_outcome : (H : List Event) (t : Tag) (out : Outcome) (y : Effect) → effect_done H t out ≡ Some y → EffectFrom H y
from_outcome H t (Done name) y e = from_done H t name y (operation H t.occ) refl e
from_outcome H t _ y e = cc

from_kind : (H : List Event) (k : EventKind) (y : Effect) → effect_in H k ≡ Some y → EffectFrom H y
unfolding effect_in
from_kind H (Settled t out) y e = from_outcome H t out y e
from_kind H _ y e = cc

wider : (e : Event) (H : List Event) (y : Effect) → EffectFrom H y → EffectFrom (e ∷ H) y
wider e H y h = (h.0, in_cons h.0 (asked_in e.kind) (operations H) h.1, h.2, h.3)

-- every effect is of a change of an operation of its instance
pub effect_from : (H : List Event) (y : Effect) → IsIn y (told effect_in H) → EffectFrom H y
effect_from [] y h = absurd h
effect_from (e ∷ H) y h = elim (of_cons y (effect_in H e.kind) (told effect_in H) h) [
  | inl is ↦ wider e H y (from_kind H e.kind y is)
  | inr before ↦ wider e H y (effect_from H y before)
]

some_effect : (ys : List Effect) → option_map_or leaves_it (option_map (λ y. y.verb) (first ys)) false ≡ true → (y : Effect) × IsIn y ys
some_effect [] e = cc
some_effect (y ∷ ys) e = (y, inl refl)

-- what stands of an instance is named by a change of an operation of the instance
abbrev pub NamedBy : List Event → ℕ → Def → Type 0
NamedBy H i x = (a : Operation) × IsIn a (operations H) × (a.instance ≡ i) × ((c : Change) × IsIn c a.changes × (c.def ≡ x))

pub stands-named : (H : List Event) (i : ℕ) (x : Def) → stands H i x ≡ true → NamedBy H i x
stands-named H i x h =
    let some : (y : Effect) × IsIn y (effects H i x) = some_effect (effects H i x) h in
    let passed = of_filter (is_effect_on i x) some.0 (told effect_in H) some.1 in
    let from : EffectFrom H some.0 = effect_from H some.0 passed.0 in
    let at : some.0.instance ≡ i = eqb-true some.0.instance i (and_left (some.0.instance == i) (same_def some.0.def x) passed.1) in
    let on : some.0.def ≡ x = same_def-true some.0.def x (and_right (some.0.instance == i) (same_def some.0.def x) passed.1) in
    (from.0, from.1, from.2 ∙ at, (from.3.0, from.3.1, from.3.2 ∙ on))

-- none of some numbers is above the greatest
below_greatest : (n : ℕ) (ns : List ℕ) → IsIn n ns → n ≤ greatest ns
below_greatest n [] h = absurd h
below_greatest n (k ∷ ns) (inl e) = omega (arith, e)
below_greatest n (k ∷ ns) (inr h) = let rest : n ≤ greatest ns = below_greatest n ns h in omega (arith, rest)

pub serial_below_top : (H : List Event) (i : ℕ) (a : Operation) (c : Change) → IsIn a (operations H) → a.instance ≡ i → IsIn c a.changes
    → c.def.serial ≤ top H i c.def.vdu
unfolding top_in
serial_below_top H i a c among at has =
    let v = c.def.vdu in
    let own : is_of_vdu v c ≡ true = eq-eqb c.def.vdu v refl in
    let named : c.def.serial ≤ top_of v a.changes =
    below_greatest c.def.serial (map serial_of (filter (is_of_vdu v) a.changes))
    (in_map serial_of c (filter (is_of_vdu v) a.changes) (in_filter (is_of_vdu v) c a.changes has own)) in
    let ours : is_of_instance i a ≡ true = eq-eqb a.instance i at in
    let most : top_of v a.changes ≤ top H i v =
    below_greatest (top_of v a.changes) (map (top_in v) (filter (is_of_instance i) (operations H)))
    (in_map (top_in v) a (filter (is_of_instance i) (operations H)) (in_filter (is_of_instance i) a (operations H) among ours)) in
    omega (arith, named, most)

-- names that compare equal are equal
pub same_name-true : (a b : List ℕ) → same_name a b ≡ true → a ≡ b
same_name-true [] [] e = refl
same_name-true [] (y ∷ b) e = cc
same_name-true (x ∷ a) [] e = cc
same_name-true (x ∷ a) (y ∷ b) e =
    let here : x ≡ y = eqb-true x y (and_left (x == y) (same_name a b) e) in
    let rest : a ≡ b = same_name-true a b (and_right (x == y) (same_name a b) e) in
    cc

named-next : (H : List Event) (x d : Vnfd) (id : List ℕ) → descriptor_named H x.descriptor_id ≡ None → descriptor_named H id ≡ Some d
    → find (λ y. same_name y.descriptor_id id) (x ∷ descriptors H) ≡ Some d
named-next H x d id unknown e = by_test (same_name x.descriptor_id id)
    (λ same.
    let is : x.descriptor_id ≡ id = same_name-true x.descriptor_id id same in
    let none : descriptor_named H id ≡ None = subst (λ (n : List ℕ). descriptor_named H n ≡ None) is unknown in
    cc)
    (λ other. rw other e)

onboarded-next : (H : List Event) (x d : Vnfd) (c : Option CreatedInstance) → descriptor_named H x.descriptor_id ≡ None
    → option_and_then (λ c. descriptor_named H c.vnfd) c ≡ Some d
    → option_and_then (λ c. find (λ y. same_name y.descriptor_id c.vnfd) (x ∷ descriptors H)) c ≡ Some d
onboarded-next H x d None unknown e = cc
onboarded-next H x d (Some c) unknown e = named-next H x d c.vnfd unknown e

created-next : (width m : ℕ) (H : List Event) (b : CreatedInstance) (i : ℕ) (d : Vnfd) (c : Option CreatedInstance)
    → IsLegalWithin width m H
    → b.instance ≡ length (creations H) + 1 → creation H i ≡ c → option_and_then (λ c. descriptor_named H c.vnfd) c ≡ Some d
    → option_and_then (λ c. descriptor_named H c.vnfd) (find (λ x. x.instance == i) (b ∷ creations H)) ≡ Some d
created-next width m H b i d None legal number is e = cc
created-next width m H b i d (Some c) legal number is e =
    rw (find-skips (λ x. x.instance) b (creations H) i c number (instances_counted width m H legal) is) e

-- the descriptor of an instance stays
pub descriptor-next : (width m : ℕ) (H : List Event) (time : ℕ) (k : EventKind) (i : ℕ) (d : Vnfd) → IsLegalWithin width m H
    → IsAllowedWithin width m H k
    → descriptor H i ≡ Some d → descriptor (event time k ∷ H) i ≡ Some d
descriptor-next width m H time (Onboarded x) i d legal allowed e = onboarded-next H x d (creation H i) allowed.unknown e
descriptor-next width m H time (Created j vnfd name text) i d legal allowed e =
    created-next width m H (record { instance = j; vnfd = vnfd; name = name; text = text }) i d (creation H i) legal allowed.number refl e
descriptor-next width m H time _ i d legal allowed e = e

-- the serials that a plan names are 1 or more
there_from_one : (p : Case) (v s : ℕ) → IsIn s (there p.vnfd p.held v) → 1 ≤ s
there_from_one p v s h =
    (of_range s 1 (p.held.top v) (of_filter (is_there p.vnfd p.held v) s (range_with_len 1 (p.held.top v)) h).0).0

pub may_stay_there : (p : Case) (ask : Ask) (v s : ℕ) → IsIn s (may_stay ask p v) → IsIn s (there p.vnfd p.held v)
may_stay_there p (Instantiate flavour level) v s h = absurd h
may_stay_there p (Terminate mode timeout) v s h = absurd h
may_stay_there p (Heal cause []) v s h = absurd h
may_stay_there p (Heal cause (x ∷ named)) v s h =
    (of_filter (λ s. is_whole p.vnfd p.held v s && not (is_named (x ∷ named) v s)) s (there p.vnfd p.held v) h).0
may_stay_there p (Scale way aspect steps) v s h = h
may_stay_there p (ScaleToLevel aim) v s h = h
may_stay_there p (Operate started stop) v s h = h

stay_by_may : (p : Case) (ask : Ask) (v s : ℕ) → IsIn s (stay_by ask p v) → IsIn s (may_stay ask p v)
stay_by_may p (Operate started stop) v s h = h
stay_by_may p (Instantiate flavour level) v s h = in_take s (want p v) (may_stay (Instantiate flavour level) p v) h
stay_by_may p (Terminate mode timeout) v s h = in_take s (want p v) (may_stay (Terminate mode timeout) p v) h
stay_by_may p (Heal cause named) v s h = in_take s (want p v) (may_stay (Heal cause named) p v) h
stay_by_may p (Scale way aspect steps) v s h = in_take s (want p v) (may_stay (Scale way aspect steps) p v) h
stay_by_may p (ScaleToLevel aim) v s h = in_take s (want p v) (may_stay (ScaleToLevel aim) p v) h

pub stay_there : (p : Case) (v s : ℕ) → IsIn s (stay p v) → IsIn s (there p.vnfd p.held v)
stay_there p v s h = may_stay_there p p.ask v s (stay_by_may p p.ask v s h)

pub leaving_there : (p : Case) (v s : ℕ) → IsIn s (leaving p v) → IsIn s (there p.vnfd p.held v)
leaving_there p v s h = (of_filter (λ s. not (is_among (stay p v) s)) s (there p.vnfd p.held v) h).0

above_one : (a s n : ℕ) → IsIn s (range_with_len (a + 1) n) → 1 ≤ s
above_one a s n h = let low = (of_range s (a + 1) n h).0 in omega (arith, low)

new_from_one : (p : Case) (ask : Ask) (v s : ℕ) → IsIn s (new_by ask p v) → 1 ≤ s
new_from_one p (Operate started stop) v s h = absurd h
new_from_one p (Terminate mode timeout) v s h = absurd h
new_from_one p _ v s h = above_one (p.held.top v) s _ h

-- a planned definition is the descriptor's
def_in_kind : (d : Vnfd) (kind : DefKind) (y : Def) → OfMachine kind → ltb y.vdu (length d.vdus) ≡ true
    → is_among (items d kind y.vdu) y.item ≡ true
    → ltb 0 y.serial ≡ true → is_def_in d kind y ≡ true
def_in_kind d Link y (inl e) a b c = cc
def_in_kind d Link y (inr (inl e)) a b c = cc
def_in_kind d Link y (inr (inr e)) a b c = cc
def_in_kind d Storage y h a b c = and_true _ _ (and_true _ _ a b) c
def_in_kind d Compute y h a b c = and_true _ _ (and_true _ _ a b) c
def_in_kind d Port y h a b c = and_true _ _ (and_true _ _ a b) c

of_machine : (p : Case) (serials : ℕ → List ℕ) (y : Def) → ((v s : ℕ) → IsIn s (serials v) → 1 ≤ s) → IsOf serials p y
    → is_def_of p.vnfd y ≡ true
of_machine p serials y f h =
    let sorted = of_all p.vnfd y.vdu y.serial y h.2 in
    let from = of_map (def_of y.kind y.vdu y.serial) y (items p.vnfd y.kind y.vdu) sorted.1 in
    let item : from.0 ≡ y.item = ap (λ (x : Def). x.item) from.2 in
    let among : is_among (items p.vnfd y.kind y.vdu) y.item ≡ true =
    in_among (items p.vnfd y.kind y.vdu) y.item (subst (λ (n : ℕ). IsIn n (items p.vnfd y.kind y.vdu)) item from.1) in
    def_in_kind p.vnfd y.kind y sorted.0 (lt-ltb y.vdu (length p.vnfd.vdus) h.0) among (lt-ltb 0 y.serial (f y.vdu y.serial h.1))

of_link : (p : Case) (y : Def) → IsLink p y → is_def_of p.vnfd y ≡ true
of_link p y h =
    subst (λ (x : Def). is_def_of p.vnfd x ≡ true) (sym h.2)
    (let within : ltb h.0 (length p.vnfd.links) ≡ true = lt-ltb h.0 (length p.vnfd.links) h.1 in rw within refl)

planned_by-def : (p : Case) (v : Verb) (y : Def) → IsPlannedBy p v y → is_def_of p.vnfd y ≡ true
planned_by-def p Create y (inl h) = of_machine p (λ v. new_by p.ask p v) y (λ v s. new_from_one p p.ask v s) h
planned_by-def p Create y (inr h) = of_link p y h.1
planned_by-def p Remove y h = elim h.1 [
  | inl g ↦ of_machine p (leaving p) y (λ v s within. there_from_one p v s (leaving_there p v s within)) g
  | inr g ↦ of_link p y g.1
]
planned_by-def p Start y h = of_machine p (stay p) y (λ v s within. there_from_one p v s (stay_there p v s within)) h.2
planned_by-def p Stop y h = of_machine p (there p.vnfd p.held) y (λ v s within. there_from_one p v s within) h.2

pub in_plan-def : (p : Case) (c : Change) → IsIn c (plan p) → is_def_of p.vnfd c.def ≡ true
in_plan-def p c h = planned_by-def p c.verb c.def (in_plan-planned p c h).1

-- every change of every operation is of the descriptor of its instance
abbrev DescribedAt : List Event → Operation → Change → Type 0
DescribedAt H a c = (d : Vnfd) × (descriptor H a.instance ≡ Some d) × (is_def_of d c.def ≡ true)

abbrev Described : List Event → Type 0
Described H = (a : Operation) → IsIn a (operations H) → (c : Change) → IsIn c a.changes → DescribedAt H a c

asked_described : (H : List Event) (a : Operation) (o : Option Vnfd) → descriptor H a.instance ≡ o → IsPlanOf H a o → (c : Change)
    → IsIn c a.changes
    → DescribedAt H a c
asked_described H a None is h c has = absurd h
asked_described H a (Some d) is h c has =
    let p = case_in d (situation d H a.instance) a.ask in
    (d, is, in_plan-def p c (subst (λ (xs : List Change). IsIn c xs) h.1 has))

described_later : (width m : ℕ) (H : List Event) (time : ℕ) (k : EventKind) (a : Operation) (c : Change) → IsLegalWithin width m H
    → IsAllowedWithin width m H k
    → DescribedAt H a c → DescribedAt (event time k ∷ H) a c
described_later width m H time k a c legal allowed h = (h.0, descriptor-next width m H time k a.instance h.0 legal allowed h.1, h.2)

described_step : (width m : ℕ) (H : List Event) (time : ℕ) (k : EventKind) → IsLegalWithin width m H → IsAllowedWithin width m H k
    → Described H → Described (event time k ∷ H)
described_step width m H time (Asked b) legal allowed h a (inl e) c has =
    subst (λ (z : Operation). DescribedAt (event time (Asked b) ∷ H) z c) e
    (described_later width m H time (Asked b) b c legal allowed
    (asked_described H b (descriptor H b.instance) refl allowed.planned c (subst (λ (z : Operation). IsIn c z.changes) (sym e) has)))
described_step width m H time (Asked b) legal allowed h a (inr g) c has =
    described_later width m H time (Asked b) a c legal allowed (h a g c has)
described_step width m H time (Onboarded x) legal allowed h a g c has =
    described_later width m H time (Onboarded x) a c legal allowed (h a g c has)
described_step width m H time (Created j vnfd name text) legal allowed h a g c has =
    described_later width m H time (Created j vnfd name text) a c legal allowed (h a g c has)
described_step width m H time _ legal allowed h a g c has = h a g c has

pub described : (width m : ℕ) (H : List Event) → IsLegalWithin width m H → (a : Operation) → IsIn a (operations H) → (c : Change)
    → IsIn c a.changes → DescribedAt H a c
described width m H legal =
    legal_induction width m Described (λ a h. absurd h) (λ H time k legal allowed h. described_step width m H time k legal allowed h) H
    legal

-- what stands is of the descriptor
pub stands_of : (width m : ℕ) (H : List Event) → IsLegalWithin width m H → (i : ℕ) (x : Def) → stands H i x ≡ true → IsOfInstance H i x
stands_of width m H legal i x h =
    let from : NamedBy H i x = stands-named H i x h in
    let a = from.0 in
    let c = from.3.0 in
    let of : DescribedAt H a c = described width m H legal a from.1 c from.3.1 in
    let serial : c.def.serial ≤ top H i c.def.vdu = serial_below_top H i a c from.1 from.2 from.3.1 in (
      of.0,
      subst (λ (j : ℕ). descriptor H j ≡ Some of.0) from.2 of.1,
      subst (λ (y : Def). is_def_of of.0 y ≡ true) from.3.2 of.2,
      subst (λ (y : Def). y.serial ≤ top H i y.vdu) from.3.2 serial,
    )
