-- No operation has more than 5,000 changes.
use Rattle.std.proofs.Common.{◌≡◌, ◌≤◌, ◌<◌, ◌+◌, ◌++◌, ◌&&◌, ◌==◌, ◌∙◌, ℕ, List, [], ◌∷◌, Bool, true, false, cond, not, Option, None, Some}
use Rattle.std.proofs.Common.{refl, ap, sym, subst, length, map, filter, flat_map, arith, suc, inl, inr, ◌⊎◌, ltb, ltb-true, ltb-false}
use Rattle.std.proofs.Common.{eqb-true, eq-eqb, length-append}
use Rattle.std.proofs.lemmas.List.{length-map}
use Rattle.std.specs.List.{range_with_len}
use Rattle.lcm_events.specs.Same.{same_def, same_verb}
use Rattle.lcm_events.proofs.SameLaws.{change_ext, def_ext, same_def-true, same_verb-refl, same_verb-true}
use Rattle.lcm_events.specs.declared.attempts.Outcome.{Outcome}
use Rattle.lcm_events.specs.declared.attempts.Outcome.TheVariants.{Done}
use Rattle.lcm_events.specs.declared.attempts.Tag.{Tag}
use Rattle.lcm_events.specs.declared.changes.Change.{Change}
use Rattle.lcm_events.specs.declared.changes.Def.{Def}
use Rattle.lcm_events.specs.declared.changes.DefKind.{DefKind}
use Rattle.lcm_events.specs.declared.changes.DefKind.TheVariants.{Compute, Link, Port, Storage}
use Rattle.lcm_events.specs.declared.changes.Verb.{Verb}
use Rattle.lcm_events.specs.declared.changes.Verb.TheVariants.{Create, Remove, Start, Stop}
use Rattle.lcm_events.specs.declared.descriptor.Vnfd.{Vnfd}
use Rattle.lcm_events.specs.declared.events.Event.{Event}
use Rattle.lcm_events.specs.declared.events.EventKind.{EventKind}
use Rattle.lcm_events.specs.declared.events.EventKind.TheVariants.{Asked, Moved, Settled}
use Rattle.lcm_events.specs.declared.events.Operation.{Operation}
use Rattle.lcm_events.specs.declared.states.OpState.{OpState}
use Rattle.lcm_model.specs.declared.refusals.Refusal.TheVariants as refusals
use Rattle.lcm_events.specs.declared.asks.Ask.{Ask}
use Rattle.lcm_events.specs.declared.asks.Ask.TheVariants.{Heal}
use Rattle.lcm_model.specs.Levels.{target}
use Rattle.lcm_model.specs.Words.{IsIn, is_among, when}
use Rattle.lcm_model.specs.Moves.{is_final, state}
use Rattle.lcm_model.specs.Attempts.{is_open}
use Rattle.lcm_model.specs.Operations.{operation, operations}
use Rattle.lcm_model.specs.Holding.{effect, effect_in, stands, top}
use Rattle.lcm_model.specs.Instances.{defs_up_to}
use Rattle.lcm_model.specs.Lives.{descriptor}
use Rattle.lcm_model.specs.Vnfcs.{all_defs, def_of, defs, is_def_in, is_def_of, is_there, items, link_def, links, there, vdu_numbers}
use Rattle.lcm_model.specs.Plans.{Case, phase, plan, starts, stops}
use Rattle.lcm_model.specs.Planned.{IsLink, IsPlannedBy, key}
use Rattle.lcm_model.specs.Descriptors.{IsValid}
use Rattle.lcm_model.specs.Refusals.{Situation, case_in, content_refusal, created, has_nothing_to_do, is_above_profile, is_terminate}
use Rattle.lcm_model.specs.Refusals.{is_too_large, naming_refusal, plan_refusal, situation, state_refusal}
use Rattle.lcm_model.specs.Allowed.{IsAllowedWithin, IsLegalWithin, IsPlanOf}
use Rattle.lcm_laws.specs.Standing.{IsOfInstance}
use Rattle.lcm_laws.proofs.Histories.{event, legal_induction}
use Rattle.lcm_laws.proofs.Lists.{and_left, and_right, by_test, none_of-front, none_of-rest, when-none}
use Rattle.lcm_laws.proofs.Members.{get_in, Less, Rises, among_in, in_back, in_filter, in_either, in_flat_map, in_front, in_map, in_range}
use Rattle.lcm_laws.proofs.Members.{of_filter, of_flat_map, of_map, of_range, rises_append, rises_filter, rises_flat_map, rises_map}
use Rattle.lcm_laws.proofs.Members.{rises_range}
use Rattle.lcm_laws.proofs.AskLaws.{item_in, runs-stands, serial_in}
use Rattle.lcm_laws.proofs.HoldLaws.{after_other, moved_from, stands_elsewhere, stands_moved}
use Rattle.lcm_laws.proofs.OngoingLaws.{asked_idle, state-moved}
use Rattle.lcm_laws.proofs.PlanHistory.{descriptor_valid}
use Rattle.lcm_laws.proofs.PlanMembers.{OfMachine, in_all, in_plan-planned, of_all, of_defs}
use Rattle.lcm_laws.proofs.PlanOrder.{Before, items_rise, not_before, one_way, plan_rises}
use Rattle.lcm_laws.proofs.SettledLaws.{idle_none, open_operation, stands-nothing, what_is_done}
use Rattle.lcm_laws.proofs.StandLaws.{in_plan-def, leaving_there, stands_of, stay_there}

-- two things differ
abbrev pub Differ : {A : Type 0} → A → A → Type 0
Differ x y = x ≡ y → ⊥

-- what is left of a list without one of its entries
abbrev Without : {A : Type 0} → A → List A → Type 0
Without {A} x ys = (zs : List A) × (length ys ≡ suc (length zs)) × ((z : A) → IsIn z ys → (x ≡ z) ⊎ IsIn z zs)

without : {A : Type 0} → (x : A) (ys : List A) → IsIn x ys → Without x ys
without x [] h = absurd h
without {A} x (y ∷ ys) (inl e) = (ys, refl, rest) where
  rest : (z : A) → IsIn z (y ∷ ys) → (x ≡ z) ⊎ IsIn z ys
  rest z (inl f) = inl (sym e ∙ f)
  rest z (inr g) = inr g
without {A} x (y ∷ ys) (inr h) = onward (without x ys h) where
  onward : Without x ys → Without x (y ∷ ys)
  onward w = (y ∷ w.0, ap suc w.1, rest) where
    rest : (z : A) → IsIn z (y ∷ ys) → (x ≡ z) ⊎ IsIn z (y ∷ w.0)
    rest z (inl f) = inr (inl f)
    rest z (inr g) = elim (w.2 z g) [ inl f ↦ inl f | inr k ↦ inr (inr k) ]

-- of things that differ there are at most as many as of those that they are among
pub few : {A : Type 0} → (xs ys : List A) → Rises Differ xs → ((x : A) → IsIn x xs → IsIn x ys) → length xs ≤ length ys
few [] ys h f = omega arith
few (x ∷ xs) ys h f =
    let w = without x ys (f x (inl refl)) in
    let rest : length xs ≤ length w.0 = few xs w.0 h.1 (λ z g.
    elim (w.2 z (f z (inr g))) [ inl same ↦ absurd (h.0 z g same) | inr there ↦ there ]) in
    let size = w.1 in
    omega (arith, rest, size)

-- the definitions up to some serials differ
pub items_differ : (d : Vnfd) (kind : DefKind) (v s : ℕ) → IsValid d → Rises Differ (defs d kind v s)
items_differ d kind v s valid =
    rises_map Less Differ (def_of kind v s) (items d kind v) (λ a b ha hb less e.
    let same : a ≡ b = ap (λ (x : Def). x.item) e in absurd (omega (arith, less, same))) (items_rise d kind v valid)

pub kinds_differ : (d : Vnfd) (j k : DefKind) (v s : ℕ) (x y : Def) → (j ≡ k → ⊥) → IsIn x (defs d j v s) → IsIn y (defs d k v s)
    → Differ x y
kinds_differ d j k v s x y no_way hx hy e =
    no_way (sym (of_defs d j v s x hx).0 ∙ (ap (λ (z : Def). z.kind) e ∙ (of_defs d k v s y hy).0))

pub machine_differs : (d : Vnfd) (v s : ℕ) → IsValid d → Rises Differ (all_defs d v s)
machine_differs d v s valid =
    rises_append Differ (defs d Storage v s ++ defs d Compute v s) (defs d Port v s)
    (rises_append Differ (defs d Storage v s) (defs d Compute v s) (items_differ d Storage v s valid) (items_differ d Compute v s valid)
    (λ x y hx hy. kinds_differ d Storage Compute v s x y (λ e. cc) hx hy))
    (items_differ d Port v s valid)
    (λ x y hx hy. elim (in_either x (defs d Storage v s) (defs d Compute v s) hx) [
      | inl g ↦ kinds_differ d Storage Port v s x y (λ e. cc) g hy
      | inr g ↦ kinds_differ d Compute Port v s x y (λ e. cc) g hy
    ])

pub all_parts : (d : Vnfd) (v s : ℕ) (x : Def) → IsIn x (all_defs d v s) → OfMachine x.kind × (x.vdu ≡ v) × (x.serial ≡ s)
all_parts d v s x h = let own = of_all d v s x h in let parts = of_defs d x.kind v s x own.1 in (own.0, parts.1, parts.2)

not_link : (kind : DefKind) → OfMachine kind → kind ≡ Link → ⊥
not_link Link (inl e) f = cc
not_link Link (inr (inl e)) f = cc
not_link Link (inr (inr e)) f = cc
not_link Storage h f = cc
not_link Compute h f = cc
not_link Port h f = cc

link_is : (d : Vnfd) (x : Def) → IsIn x (links d) → x.kind ≡ Link
link_is d x h = let from = of_map link_def x (range_with_len 0 (length d.links)) h in sym (ap (λ (y : Def). y.kind) from.2)

pub up_to_differ : (d : Vnfd) (top : ℕ → ℕ) → IsValid d → Rises Differ (defs_up_to d top)
up_to_differ d top valid =
    rises_append Differ (flat_map (λ v. flat_map (all_defs d v) (range_with_len 1 (top v))) (vdu_numbers d)) (links d)
    (rises_flat_map Less Differ (λ v. flat_map (all_defs d v) (range_with_len 1 (top v))) (vdu_numbers d) (rises_range 0 (length d.vdus))
    (λ v within.
    rises_flat_map Less Differ (all_defs d v) (range_with_len 1 (top v)) (rises_range 1 (top v)) (λ s inside. machine_differs d v s valid)
    (λ r s x y less hx hy e.
    let a = (all_parts d v r x hx).2 in let b = (all_parts d v s y hy).2 in let same : x.serial ≡ y.serial = ap (λ (z : Def). z.serial) e in
    absurd (omega (arith, less, a, b, same))))
    (λ u v x y less hx hy e.
    let from_x = of_flat_map (all_defs d u) x (range_with_len 1 (top u)) hx in
    let from_y = of_flat_map (all_defs d v) y (range_with_len 1 (top v)) hy in
    let a = (all_parts d u from_x.0 x from_x.2).1 in let b = (all_parts d v from_y.0 y from_y.2).1 in
    let same : x.vdu ≡ y.vdu = ap (λ (z : Def). z.vdu) e in absurd (omega (arith, less, a, b, same))))
    (rises_map Less Differ link_def (range_with_len 0 (length d.links)) (λ a b ha hb less e.
    let same : a ≡ b = ap (λ (x : Def). x.item) e in absurd (omega (arith, less, same))) (rises_range 0 (length d.links)))
    (λ x y hx hy e.
    let from = of_flat_map (λ v. flat_map (all_defs d v) (range_with_len 1 (top v))) x (vdu_numbers d) hx in
    let machine = of_flat_map (all_defs d from.0) x (range_with_len 1 (top from.0)) from.2 in
    not_link x.kind (all_parts d from.0 machine.0 x machine.2).0 (ap (λ (z : Def). z.kind) e ∙ link_is d y hy))

-- a definition of the descriptor with a serial up to the greatest is among them
pub vdu_in : (v n : ℕ) → v < n → IsIn v (range_with_len 0 n)
vdu_in v n h = in_range v 0 n (omega arith) (omega (arith, h))

machine_up_to : (d : Vnfd) (top : ℕ → ℕ) (kind : DefKind) (x : Def) → x.kind ≡ kind → x.serial ≤ top x.vdu
    → (ltb x.vdu (length d.vdus) && is_among (items d kind x.vdu) x.item && ltb 0 x.serial) ≡ true → IsIn x (defs_up_to d top)
machine_up_to d top kind x is low h =
    let vdu : x.vdu < length d.vdus = ltb-true x.vdu (length d.vdus) (and_left _ _ (and_left _ _ h)) in
    let item : IsIn x.item (items d kind x.vdu) = among_in (items d kind x.vdu) x.item (and_right _ _ (and_left _ _ h)) in
    let above : 0 < x.serial = ltb-true 0 x.serial (and_right _ _ h) in
    let all : IsIn x (all_defs d x.vdu x.serial) = in_all d kind x.vdu x.serial x (item_in d kind x is item) in
    in_front x (flat_map (λ v. flat_map (all_defs d v) (range_with_len 1 (top v))) (vdu_numbers d)) (links d)
    (in_flat_map (λ v. flat_map (all_defs d v) (range_with_len 1 (top v))) x.vdu x (vdu_numbers d) (vdu_in x.vdu (length d.vdus) vdu)
    (in_flat_map (all_defs d x.vdu) x.serial x (range_with_len 1 (top x.vdu)) (serial_in x.serial (top x.vdu) above low) all))

link_up_to : (d : Vnfd) (top : ℕ → ℕ) (x : Def) → x.kind ≡ Link
    → (ltb x.item (length d.links) && (x.vdu == 65535) && (x.serial == 0)) ≡ true
    → IsIn x (defs_up_to d top)
link_up_to d top x is h =
    let item : x.item < length d.links = ltb-true x.item (length d.links) (and_left _ _ (and_left _ _ h)) in
    let same : x ≡ link_def x.item = def_ext is refl (eqb-true x.vdu 65535 (and_right _ _ (and_left _ _ h)))
    (eqb-true x.serial 0 (and_right _ _ h)) in
    let link : IsIn (link_def x.item) (links d) = in_map link_def x.item (range_with_len 0 (length d.links))
    (vdu_in x.item (length d.links) item) in
    in_back x (flat_map (λ v. flat_map (all_defs d v) (range_with_len 1 (top v))) (vdu_numbers d)) (links d)
    (subst (λ (y : Def). IsIn y (links d)) (sym same) link)

kind_up_to : (d : Vnfd) (top : ℕ → ℕ) (kind : DefKind) (x : Def) → x.kind ≡ kind → x.serial ≤ top x.vdu → is_def_in d kind x ≡ true
    → IsIn x (defs_up_to d top)
kind_up_to d top Link x is low h = link_up_to d top x is h
kind_up_to d top Storage x is low h = machine_up_to d top Storage x is low h
kind_up_to d top Compute x is low h = machine_up_to d top Compute x is low h
kind_up_to d top Port x is low h = machine_up_to d top Port x is low h

-- what is planned but not to be made stands, with a serial up to the greatest
abbrev Stands : Case → Def → Type 0
Stands p y = (p.held.stands y ≡ true) × (y.serial ≤ p.held.top y.vdu)

there_low : (p : Case) (v s : ℕ) → IsIn s (there p.vnfd p.held v) → s ≤ p.held.top v
there_low p v s h =
    let range = (of_range s 1 (p.held.top v) (of_filter (is_there p.vnfd p.held v) s (range_with_len 1 (p.held.top v)) h).0).1 in
    omega (arith, range)

link_low : (p : Case) (y : Def) → IsLink p y → y.serial ≤ p.held.top y.vdu
link_low p y h = let none : y.serial ≡ 0 = ap (λ (x : Def). x.serial) h.2 in omega (arith, none)

planned_stands : (p : Case) (v : Verb) (y : Def) → ((x : Def) → p.held.runs x ≡ true → p.held.stands x ≡ true) → (v ≡ Create → ⊥)
    → IsPlannedBy p v y → Stands p y
planned_stands p Create y f no_create h = absurd (no_create refl)
planned_stands p Remove y f no_create h = (
  h.0,
  elim h.1 [
    | inl g ↦ there_low p y.vdu y.serial (leaving_there p y.vdu y.serial g.1)
    | inr g ↦ link_low p y g.1
  ],
)
planned_stands p Start y f no_create h = (h.3, there_low p y.vdu y.serial (stay_there p y.vdu y.serial h.2.1))
planned_stands p Stop y f no_create h = (f y h.3, there_low p y.vdu y.serial h.2.1)

-- the changes with a verb
abbrev with_verb : Verb → List Change → List Change
with_verb v xs = filter (λ c. same_verb c.verb v) xs

one_verb : (v : Verb) (x : Change) (a b c d : List Change)
    → length (cond (same_verb v Create) (x ∷ a) a) + length (cond (same_verb v Remove) (x ∷ b) b)
    + length (cond (same_verb v Start) (x ∷ c) c) + length (cond (same_verb v Stop) (x ∷ d) d)
    ≡ suc (length a + length b + length c + length d)
one_verb Create x a b c d = omega arith
one_verb Remove x a b c d = omega arith
one_verb Start x a b c d = omega arith
one_verb Stop x a b c d = omega arith

by_verbs : (xs : List Change) → length (with_verb Create xs) + length (with_verb Remove xs) + length (with_verb Start xs)
    + length (with_verb Stop xs) ≡ length xs
by_verbs [] = refl
by_verbs (x ∷ xs) =
    one_verb x.verb x (with_verb Create xs) (with_verb Remove xs) (with_verb Start xs) (with_verb Stop xs) ∙ ap suc (by_verbs xs)

def_differs : (p : Case) (v : Verb) (x y : Change) → IsIn x (with_verb v (plan p)) → IsIn y (with_verb v (plan p)) → Before x y
    → Differ x.def y.def
def_differs p v x y hx hy before e =
    let from_x = of_filter (λ c. same_verb c.verb v) x (plan p) hx in
    let from_y = of_filter (λ c. same_verb c.verb v) y (plan p) hy in
    let verbs : x.verb ≡ y.verb = same_verb-true x.verb v from_x.1 ∙ sym (same_verb-true y.verb v from_y.1) in
    let phase_x : x.phase ≡ phase x.verb x.def.kind = (in_plan-planned p x from_x.0).0 in
    let phase_y : y.phase ≡ phase y.verb y.def.kind = (in_plan-planned p y from_y.0).0 in
    let phases : x.phase ≡ y.phase = phase_x ∙ (ap (λ (w : Verb). phase w x.def.kind) verbs
    ∙ (ap (λ (z : Def). phase y.verb z.kind) e ∙ sym phase_y)) in
    let same : x ≡ y = change_ext phases verbs e in
    not_before (key x) (subst (λ (z : Change). Before x z) (sym same) before)

defs_differ : (p : Case) (v : Verb) → IsValid p.vnfd → Rises Differ (map (λ c. c.def) (with_verb v (plan p)))
defs_differ p v valid =
    rises_map Before Differ (λ c. c.def) (with_verb v (plan p)) (λ x y hx hy before. def_differs p v x y hx hy before)
    (rises_filter Before (λ c. same_verb c.verb v) (plan p) (plan_rises p valid))

-- what a case's instance holds
abbrev held_defs : Case → List Def
held_defs p = filter p.held.stands (defs_up_to p.vnfd p.held.top)

-- a change that makes nothing is of what stands
in_held : (p : Case) (v : Verb) (c : Change) → ((x : Def) → p.held.runs x ≡ true → p.held.stands x ≡ true) → (v ≡ Create → ⊥)
    → IsIn c (plan p) → c.verb ≡ v
    → IsIn c.def (held_defs p)
in_held p v c f no_create h is =
    let planned = in_plan-planned p c h in
    let stand : Stands p c.def = planned_stands p v c.def f no_create (subst (λ (w : Verb). IsPlannedBy p w c.def) is planned.1) in
    in_filter p.held.stands c.def (defs_up_to p.vnfd p.held.top)
    (kind_up_to p.vnfd p.held.top c.def.kind c.def refl stand.1 (in_plan-def p c h)) stand.0

few_of : (p : Case) (v : Verb) → IsValid p.vnfd → ((x : Def) → p.held.runs x ≡ true → p.held.stands x ≡ true) → (v ≡ Create → ⊥)
    → length (with_verb v (plan p)) ≤ length (held_defs p)
few_of p v valid f no_create =
    let count : length (map (λ c. c.def) (with_verb v (plan p))) ≤ length (held_defs p) =
    few (map (λ c. c.def) (with_verb v (plan p))) (held_defs p) (defs_differ p v valid) (λ x h.
    let from = of_map (λ c. c.def) x (with_verb v (plan p)) h in
    let passed = of_filter (λ c. same_verb c.verb v) from.0 (plan p) from.1 in
    subst (λ (y : Def). IsIn y (held_defs p)) from.2 (in_held p v from.0 f no_create passed.0 (same_verb-true from.0.verb v passed.1))) in
    let same = length-map (with_verb v (plan p)) (λ c. c.def) in
    omega (arith, count, same)

nothing_in : (xs : List Change) → ((x : Change) → IsIn x xs → ⊥) → length xs ≡ 0
nothing_in [] f = refl
nothing_in (x ∷ xs) f = absurd (f x (inl refl))

starts_asked : (p : Case) (c : Change) → IsIn c (with_verb Start (plan p)) → starts p.ask ≡ true
starts_asked p c h =
    let from = of_filter (λ c. same_verb c.verb Start) c (plan p) h in
    (subst (λ (w : Verb). IsPlannedBy p w c.def) (same_verb-true c.verb Start from.1) (in_plan-planned p c from.0).1).0

stops_asked : (p : Case) (c : Change) → IsIn c (with_verb Stop (plan p)) → stops p.ask ≡ true
stops_asked p c h =
    let from = of_filter (λ c. same_verb c.verb Stop) c (plan p) h in
    (subst (λ (w : Verb). IsPlannedBy p w c.def) (same_verb-true c.verb Stop from.1) (in_plan-planned p c from.0).1).0

one_of_both : (p : Case) → (length (with_verb Start (plan p)) ≡ 0) ⊎ (length (with_verb Stop (plan p)) ≡ 0)
one_of_both p = by_test (starts p.ask)
    (λ start. inr (nothing_in (with_verb Stop (plan p)) (λ c h. let clash : true ≡ false = sym (stops_asked p c h) ∙ one_way p.ask start in
    cc)))
    (λ still. inl (nothing_in (with_verb Start (plan p)) (λ c h. let clash : true ≡ false = sym (starts_asked p c h) ∙ still in cc)))

-- a plan has at most what it makes, and twice what stands
plan_bound : (p : Case) → IsValid p.vnfd → ((x : Def) → p.held.runs x ≡ true → p.held.stands x ≡ true)
    → length (plan p) ≤ created (plan p) + (length (held_defs p) + length (held_defs p))
plan_bound p valid f =
    let all = by_verbs (plan p) in
    let removes = few_of p Remove valid f (λ e. cc) in
    let starting = few_of p Start valid f (λ e. cc) in
    let stopping = few_of p Stop valid f (λ e. cc) in
    elim (one_of_both p) [ inl none ↦ omega (arith, all, removes, stopping, none) | inr none ↦ omega (arith, all, removes, starting, none) ]

-- what an instance holds, and what its ongoing operation touches, is among at most 2,500 definitions
record IsFramed (H : List Event) (i : ℕ) : Type 0 where
  frame : List Def
  small : length frame ≤ 2500
  stand : (x : Def) → stands H i x ≡ true → IsIn x frame
  touched : (o : ℕ) (a : Operation) → operation H o ≡ Some a → a.instance ≡ i → is_final (state H o) ≡ false → (k : Change)
      → IsIn k a.changes → IsIn k.def frame

framed_settled : (width m : ℕ) (H : List Event) (time : ℕ) (u : Tag) (out : Outcome) (i : ℕ) (x : Def) → IsLegalWithin width m H
    → is_open H u ≡ true → (h : IsFramed H i)
    → stands (event time (Settled u out) ∷ H) i x ≡ true → IsIn x h.frame
framed_settled width m H time u out i x legal opened h s =
    let mine = open_operation width m H u legal opened in
    by_test (mine.0.instance == i)
    (λ ours. elim (what_is_done H time u out mine.0 mine.1) [
      | inl nothing ↦ h.stand x (sym (stands-nothing H time u out i x nothing.0) ∙ s)
      | inr change ↦
          by_test (same_def change.1.def x)
          (λ same.
          subst (λ (y : Def). IsIn y h.frame) (same_def-true change.1.def x same)
          (h.touched u.occ mine.0 mine.1 (eqb-true mine.0.instance i ours) mine.2 change.1
          (get_in change.1 mine.0.changes u.change change.3)))
          (λ differ.
          let eff : effect_in H (Settled u (Done change.0)) ≡ Some (effect u change.0 mine.0 change.1) =
          subst (λ (q : Outcome). effect_in H (Settled u q) ≡ Some (effect u change.0 mine.0 change.1)) change.2 change.4 in
          let after : stands (event time (Settled u (Done change.0)) ∷ H) i x ≡ true =
          subst (λ (q : Outcome). stands (event time (Settled u q) ∷ H) i x ≡ true) change.2 s in
          h.stand x (sym (after_other H time u change.0 i x mine.0 change.1 eff differ) ∙ after))
    ])
    (λ not_ours. h.stand x (sym (stands_elsewhere H time u out i x mine.0 mine.1 not_ours) ∙ s))

pub moved_touched : (H : List Event) (time occ : ℕ) (to : OpState) (o : ℕ) → is_final (state H occ) ≡ false
    → is_final (state (event time (Moved occ to) ∷ H) o) ≡ false
    → is_final (state H o) ≡ false
moved_touched H time occ to o before after = by_test (occ == o)
    (λ same. subst (λ (n : ℕ). is_final (state H n) ≡ false) (eqb-true occ o same) before)
    (λ other. subst (λ (s : OpState). is_final s ≡ false) (state-moved H time o occ to false other) after)

-- how many definitions stand when an operation is asked for
few_standing : (H : List Event) (i : ℕ) (d : Vnfd) (p : Case) → p.vnfd ≡ d → IsValid d → (h : IsFramed H i) → p.held.stands ≡ stands H i
    → length (held_defs p) ≤ 2500
few_standing H i d p is valid h same =
    let differ : Rises Differ (held_defs p) =
    rises_filter Differ p.held.stands (defs_up_to p.vnfd p.held.top)
    (up_to_differ p.vnfd p.held.top (subst (λ (x : Vnfd). IsValid x) (sym is) valid)) in
    let count : length (held_defs p) ≤ length h.frame = few (held_defs p) h.frame differ (λ x g.
    let stand : p.held.stands x ≡ true = (of_filter p.held.stands x (defs_up_to p.vnfd p.held.top) g).1 in
    h.stand x (ap (λ (f : Def → Bool). f x) (sym same) ∙ stand)) in
    let size = h.small in
    omega (arith, count, size)

room : (c s : ℕ) → s ≤ 2500 → (ltb 0 c && ltb 2500 (s + c)) ≡ false → s + c ≤ 2500
room c s few_now h = by_test (ltb 0 c)
    (λ some.
    let rest : ltb 2500 (s + c) ≡ false = subst (λ (b : Bool). (b && ltb 2500 (s + c)) ≡ false) some h in
    ltb-false 2500 (s + c) rest)
    (λ none. let zero_made = ltb-false 0 c none in omega (arith, few_now, zero_made))

-- an operation that may be asked for
record IsFit (H : List Event) (a : Operation) : Type 0 where
  p : Case
  stand : p.held.stands ≡ stands H a.instance
  runs_stand : (x : Def) → p.held.runs x ≡ true → p.held.stands x ≡ true
  valid : IsValid p.vnfd
  planned : a.changes ≡ plan p
  few_held : length (held_defs p) ≤ 2500
  sum : length (held_defs p) + created (plan p) ≤ 2500
  among : (x : Def) → stands H a.instance x ≡ true → IsIn x (held_defs p)

not_too_large : (d : Vnfd) (now : Situation) (ask : Ask) → plan_refusal d now ask ≡ None
    → is_too_large d now.held (plan (case_in d now ask)) ≡ false
not_too_large d now ask e =
    let large = when (is_too_large d now.held (plan (case_in d now ask))) refusals.TooManyResources in
    let above = when (not (is_terminate ask) && is_above_profile d (target d now.levels ask)) refusals.AboveProfile in
    let nothing = when (has_nothing_to_do d now ask) refusals.NothingToDo in
    when-none (is_too_large d now.held (plan (case_in d now ask))) refusals.TooManyResources
    (none_of-front large [] (none_of-rest above (large ∷ []) (none_of-rest nothing (above ∷ large ∷ [])
    (none_of-rest (naming_refusal d now ask) (nothing ∷ above ∷ large ∷ []) e))))

fit_of : (width m : ℕ) (H : List Event) (a : Operation) (d : Option Vnfd) → IsLegalWithin width m H → descriptor H a.instance ≡ d
    → IsPlanOf H a d → IsFramed H a.instance → IsFit H a
fit_of width m H a None legal described h framed = absurd h
fit_of width m H a (Some d) legal described h framed =
    let p = case_in d (situation d H a.instance) a.ask in
    let valid : IsValid d = descriptor_valid width m H a.instance d legal described in
    let few_held : length (held_defs p) ≤ 2500 = few_standing H a.instance d p refl valid framed refl in
    let refused : plan_refusal d (situation d H a.instance) a.ask ≡ None =
    none_of-front _ _ (none_of-rest (state_refusal d (situation d H a.instance) a.ask) _ (none_of-rest (content_refusal d a.ask) _ h.0)) in
    let fits_in : is_too_large d p.held (plan p) ≡ false =
    not_too_large d (situation d H a.instance) a.ask refused in
    record {
      p = p;
      stand = refl;
      runs_stand = λ x r. runs-stands H a.instance x r;
      valid = valid;
      planned = h.1;
      few_held = few_held;
      sum = room (created (plan p)) (length (held_defs p)) few_held fits_in;
      among = λ x s.
          (let of : IsOfInstance H a.instance x = stands_of width m H legal a.instance x s in
          let both : Some of.0 ≡ Some d = sym of.1 ∙ described in
          let same : of.0 ≡ d = cc in
          in_filter p.held.stands x (defs_up_to d p.held.top)
          (kind_up_to d p.held.top x.kind x refl of.3 (subst (λ (y : Vnfd). is_def_of y x ≡ true) same of.2)) s);
    }

fit : (width m : ℕ) (H : List Event) (a : Operation) → IsLegalWithin width m H → IsAllowedWithin width m H (Asked a) → IsFramed H a.instance
    → IsFit H a
fit width m H a legal allowed framed = fit_of width m H a (descriptor H a.instance) legal refl allowed.planned framed

-- the definitions that stand or are made
abbrev new_frame : Case → List Def
new_frame p = held_defs p ++ map (λ c. c.def) (with_verb Create (plan p))

new_frame_small : (p : Case) → length (held_defs p) + created (plan p) ≤ 2500 → length (new_frame p) ≤ 2500
new_frame_small p h =
    let joined = length-append (held_defs p) (map (λ c. c.def) (with_verb Create (plan p))) in
    let mapped = length-map (with_verb Create (plan p)) (λ c. c.def) in
    omega (arith, h, joined, mapped)

change_in_frame : (p : Case) (k : Change) (v : Verb) → k.verb ≡ v → ((x : Def) → p.held.runs x ≡ true → p.held.stands x ≡ true)
    → IsIn k (plan p) → IsIn k.def (new_frame p)
change_in_frame p k Create is f h =
    in_back k.def (held_defs p) (map (λ c. c.def) (with_verb Create (plan p)))
    (in_map (λ c. c.def) k (with_verb Create (plan p))
    (in_filter (λ c. same_verb c.verb Create) k (plan p) h (subst (λ (w : Verb). same_verb w Create ≡ true) (sym is)
    (same_verb-refl Create))))
change_in_frame p k Remove is f h = in_front k.def (held_defs p) (map (λ c. c.def) (with_verb Create (plan p)))
    (in_held p Remove k f (λ e. cc) h is)
change_in_frame p k Start is f h = in_front k.def (held_defs p) (map (λ c. c.def) (with_verb Create (plan p)))
    (in_held p Start k f (λ e. cc) h is)
change_in_frame p k Stop is f h = in_front k.def (held_defs p) (map (λ c. c.def) (with_verb Create (plan p)))
    (in_held p Stop k f (λ e. cc) h is)

pub found_asked : (H : List Event) (b a : Operation) (o : ℕ) → cond (b.occ == o) (Some b) (operation H o) ≡ Some a
    → (b ≡ a) ⊎ (operation H o ≡ Some a)
found_asked H b a o e = by_test (b.occ == o)
    (λ same. let is : Some b ≡ Some a = subst (λ (t : Bool). cond t (Some b) (operation H o) ≡ Some a) same e in inl cc)
    (λ other. inr (subst (λ (t : Bool). cond t (Some b) (operation H o) ≡ Some a) other e))

framed_ours : (width m : ℕ) (H : List Event) (time : ℕ) (b : Operation) → IsLegalWithin width m H → IsAllowedWithin width m H (Asked b)
    → IsFramed H b.instance
    → IsFramed (event time (Asked b) ∷ H) b.instance
unfolding effect_in
framed_ours width m H time b legal allowed framed =
    let f = fit width m H b legal allowed framed in
    record {
      frame = new_frame f.p;
      small = new_frame_small f.p f.sum;
      stand = λ x s. in_front x (held_defs f.p) (map (λ c. c.def) (with_verb Create (plan f.p))) (f.among x s);
      touched = λ o a found at goes k has. (elim (found_asked H b a o found) [
        | inl same ↦
            change_in_frame f.p k k.verb refl f.runs_stand
            (subst (λ (ks : List Change). IsIn k ks) f.planned (subst (λ (z : Operation). IsIn k z.changes) (sym same) has))
        | inr before ↦ absurd (idle_none H b.instance o a (asked_idle width m H b allowed) before at goes)
      ]);
    }

framed_others : (H : List Event) (time : ℕ) (b : Operation) (i : ℕ) → (b.instance == i) ≡ false → IsFramed H i
    → IsFramed (event time (Asked b) ∷ H) i
unfolding effect_in
framed_others H time b i other h = record {
  frame = h.frame;
  small = h.small;
  stand = h.stand;
  touched = λ o a found at goes k has. (elim (found_asked H b a o found) [
    | inl same ↦
        (let is : b.instance ≡ i = ap (λ (z : Operation). z.instance) same ∙ at in
        let clash : (b.instance == i) ≡ true = eq-eqb b.instance i is in cc)
    | inr before ↦ h.touched o a before at goes k has
  ]);
}

framed_step : (width m : ℕ) (H : List Event) (time : ℕ) (k : EventKind) (i : ℕ) → IsLegalWithin width m H → IsAllowedWithin width m H k
    → IsFramed H i → IsFramed (event time k ∷ H) i
unfolding effect_in
framed_step width m H time (Asked b) i legal allowed h = by_test (b.instance == i)
    (λ ours.
    let is : b.instance ≡ i = eqb-true b.instance i ours in
    let here : IsFramed H b.instance = subst (λ (n : ℕ). IsFramed H n) (sym is) h in
    subst (λ (n : ℕ). IsFramed (event time (Asked b) ∷ H) n) is (framed_ours width m H time b legal allowed here))
    (λ other. framed_others H time b i other h)
framed_step width m H time (Settled u out) i legal allowed h = record {
  frame = h.frame;
  small = h.small;
  stand = λ x s. framed_settled width m H time u out i x legal allowed h s;
  touched = h.touched;
}
framed_step width m H time (Moved occ to) i legal allowed h = record {
  frame = h.frame;
  small = h.small;
  stand = λ x s. h.stand x (sym (stands_moved H time occ to i x) ∙ s);
  touched = λ o a found at goes k has. h.touched o a found at (moved_touched H time occ to o (moved_from H occ to allowed.1) goes) k has;
}
framed_step width m H time k i legal allowed h = record { frame = h.frame; small = h.small; stand = h.stand; touched = h.touched }

framed : (width m : ℕ) (H : List Event) → IsLegalWithin width m H → (i : ℕ) → IsFramed H i
framed width m H legal i =
    legal_induction width m (λ H. IsFramed H i) (record {
      frame = [];
      small = omega arith;
      stand = λ x s. cc;
      touched =
          λ o a found at goes k has. cc;
    })
    (λ H time k legal allowed h. framed_step width m H time k i legal allowed h) H legal

pub few_changes : (width m : ℕ) (H : List Event) (a : Operation) → IsLegalWithin width m H → IsAllowedWithin width m H (Asked a)
    → length a.changes ≤ 5000
few_changes width m H a legal allowed =
    let f = fit width m H a legal allowed (framed width m H legal a.instance) in
    let bound = plan_bound f.p f.valid f.runs_stand in
    let size : length a.changes ≡ length (plan f.p) = ap length f.planned in
    let held = f.few_held in
    let sum = f.sum in
    omega (arith, bound, size, held, sum)

-- no operation has more than 5,000 changes
abbrev AllFew : List Event → Type 0
AllFew H = (a : Operation) → IsIn a (operations H) → length a.changes ≤ 5000

few_step : (width m : ℕ) (H : List Event) (time : ℕ) (k : EventKind) → IsLegalWithin width m H → IsAllowedWithin width m H k → AllFew H
    → AllFew (event time k ∷ H)
few_step width m H time (Asked b) legal allowed h a (inl e) = subst (λ (z : Operation). length z.changes ≤ 5000) e
    (few_changes width m H b legal allowed)
few_step width m H time (Asked b) legal allowed h a (inr g) = h a g
few_step width m H time _ legal allowed h a g = h a g

pub plans_small : (width m : ℕ) (H : List Event) → IsLegalWithin width m H → (a : Operation) → IsIn a (operations H)
    → length a.changes ≤ 5000
plans_small width m H legal = legal_induction width m AllFew (λ a h. absurd h)
    (λ H time k legal allowed h. few_step width m H time k legal allowed h) H legal

-- at most 2,500 definitions of an instance stand
pub standing_few : (width m : ℕ) (H : List Event) → IsLegalWithin width m H → (i : ℕ) (d : Vnfd) → descriptor H i ≡ Some d
    → length (filter (stands H i) (defs_up_to d (top H i))) ≤ 2500
standing_few width m H legal i d described =
    few_standing H i d (case_in d (situation d H i) (Heal None [])) refl (descriptor_valid width m H i d legal described)
    (framed width m H legal i) refl

-- what stands is among the definitions up to the greatest serials
pub stands_up_to : (width m : ℕ) (H : List Event) → IsLegalWithin width m H → (i : ℕ) (d : Vnfd) (x : Def) → descriptor H i ≡ Some d
    → stands H i x ≡ true
    → IsIn x (defs_up_to d (top H i))
stands_up_to width m H legal i d x described s =
    let of : IsOfInstance H i x = stands_of width m H legal i x s in
    let both : Some of.0 ≡ Some d = sym of.1 ∙ described in
    let same : of.0 ≡ d = cc in
    kind_up_to d (top H i) x.kind x refl of.3 (subst (λ (y : Vnfd). is_def_of y x ≡ true) same of.2)
