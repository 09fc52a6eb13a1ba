-- No serial is greater than the number of changes that were asked for.
use Rattle.std.proofs.Common.{◌≡◌, ◌≤◌, ◌<◌, ◌+◌, ℕ, List, [], ◌∷◌, Bool, true, false, if◌then◌else◌, Option, None, Some, refl, ap, sym}
use Rattle.std.proofs.Common.{subst, length, map, filter, arith, inl, inr, zero, suc, eqb-true}
use Rattle.std.proofs.lemmas.List.{length-map}
use Rattle.std.specs.List.{range_with_len}
use Rattle.lcm_events.specs.declared.asks.Ask.{Ask}
use Rattle.lcm_events.specs.declared.asks.Ask.TheVariants.{Operate, Terminate}
use Rattle.lcm_events.specs.declared.changes.Change.{Change}
use Rattle.lcm_events.specs.declared.changes.Def.{Def}
use Rattle.lcm_events.specs.declared.changes.DefKind.TheVariants.{Compute}
use Rattle.lcm_events.specs.declared.changes.Verb.{Verb}
use Rattle.lcm_events.specs.declared.changes.Verb.TheVariants.{Create, Remove, Start, Stop}
use Rattle.lcm_events.specs.declared.descriptor.Vnfd.{Vnfd}
use Rattle.lcm_events.specs.declared.events.Event.{Event}
use Rattle.lcm_events.specs.declared.events.EventKind.{EventKind}
use Rattle.lcm_events.specs.declared.events.EventKind.TheVariants.{Asked}
use Rattle.lcm_events.specs.declared.events.Operation.{Operation}
use Rattle.lcm_model.specs.Words.{IsIn, greatest}
use Rattle.lcm_model.specs.Operations.{operations}
use Rattle.lcm_model.specs.Holding.{is_of_instance, is_of_vdu, serial_of, top, top_in, top_of}
use Rattle.lcm_model.specs.Lives.{descriptor}
use Rattle.lcm_model.specs.Vnfcs.{compute_def, is_there, there}
use Rattle.lcm_model.specs.Plans.{Case, change, new, new_by, plan}
use Rattle.lcm_model.specs.Planned.{IsLink, IsPlannedBy}
use Rattle.lcm_model.specs.Refusals.{case_in, situation}
use Rattle.lcm_model.specs.Allowed.{IsAllowedWithin, IsLegalWithin, IsPlanOf}
use Rattle.lcm_laws.specs.Serials.{changes_asked}
use Rattle.lcm_laws.proofs.BoundLaws.{Differ, few}
use Rattle.lcm_laws.proofs.Histories.{event, legal_induction}
use Rattle.lcm_laws.proofs.Members.{Less, Rises, of_filter, of_map, of_range, rises_map, rises_range}
use Rattle.lcm_laws.proofs.PlanMembers.{in_all, in_plan-planned, planned-in_plan}
use Rattle.lcm_laws.proofs.StandLaws.{leaving_there, stay_there}

pub range_length : (a n : ℕ) → length (range_with_len a n) ≡ n
range_length a zero = refl
range_length a (suc n) = let rest = range_length (a + 1) n in omega (arith, rest)

range_within : (a s n : ℕ) → IsIn s (range_with_len (a + 1) n) → s ≤ a + length (range_with_len (a + 1) n)
range_within a s n h = let high = (of_range s (a + 1) n h).1 in let size = range_length (a + 1) n in omega (arith, high, size)

-- the serials that a plan makes follow the greatest, without a gap
new_within : (p : Case) (ask : Ask) (v s : ℕ) → IsIn s (new_by ask p v) → s ≤ p.held.top v + length (new_by ask p v)
new_within p (Operate started stop) v s h = absurd h
new_within p (Terminate mode timeout) v s h = absurd h
new_within p _ v s h = range_within (p.held.top v) s _ h

new_rises : (p : Case) (ask : Ask) (v : ℕ) → Rises Less (new_by ask p v)
new_rises p (Operate started stop) v = tt
new_rises p (Terminate mode timeout) v = tt
new_rises p _ v = rises_range (p.held.top v + 1) _

-- the change that makes the compute of a machine
abbrev made_at : ℕ → ℕ → Change
made_at v s = change Create (compute_def v s)

-- each serial that a plan makes has a change of its own
new_few : (p : Case) (v : ℕ) → v < length p.vnfd.vdus → length (new p v) ≤ length (plan p)
new_few p v within =
    let differ : Rises Differ (map (made_at v) (new p v)) =
    rises_map Less Differ (made_at v) (new p v) (λ a b ha hb less e.
    let same : a ≡ b = ap (λ (x : Change). x.def.serial) e in absurd (omega (arith, less, same))) (new_rises p p.ask v) in
    let count : length (map (made_at v) (new p v)) ≤ length (plan p) = few (map (made_at v) (new p v)) (plan p) differ (λ x h.
    let from = of_map (made_at v) x (new p v) h in
    subst (λ (z : Change). IsIn z (plan p)) from.2
    (planned-in_plan p (made_at v from.0) (refl, inl (within, from.1, in_all p.vnfd Compute v from.0 (compute_def v from.0) (inl refl)))))
    in
    let same = length-map (new p v) (made_at v) in
    omega (arith, count, same)

there_within : (p : Case) (v s : ℕ) → IsIn s (there p.vnfd p.held v) → s ≤ p.held.top v + length (plan p)
there_within p v s h =
    let high = (of_range s 1 (p.held.top v) (of_filter (is_there p.vnfd p.held v) s (range_with_len 1 (p.held.top v)) h).0).1 in
    omega (arith, high)

link_within : (p : Case) (y : Def) → IsLink p y → y.serial ≤ p.held.top y.vdu + length (plan p)
link_within p y h = let none : y.serial ≡ 0 = ap (λ (x : Def). x.serial) h.2 in omega (arith, none)

-- a planned serial is past the greatest by no more than the plan has changes
planned_within : (p : Case) (v : Verb) (y : Def) → IsPlannedBy p v y → y.serial ≤ p.held.top y.vdu + length (plan p)
planned_within p Create y (inl h) =
    let serial = new_within p p.ask y.vdu y.serial h.1 in
    let count = new_few p y.vdu h.0 in
    omega (arith, serial, count)
planned_within p Create y (inr h) = link_within p y h.1
planned_within p Remove y h = elim h.1 [
  | inl g ↦ there_within p y.vdu y.serial (leaving_there p y.vdu y.serial g.1)
  | inr g ↦ link_within p y g.1
]
planned_within p Start y h = there_within p y.vdu y.serial (stay_there p y.vdu y.serial h.2.1)
planned_within p Stop y h = there_within p y.vdu y.serial h.2.1

greatest_within : (b : ℕ) (ns : List ℕ) → ((n : ℕ) → IsIn n ns → n ≤ b) → greatest ns ≤ b
greatest_within b [] f = omega arith
greatest_within b (n ∷ ns) f =
    let here = f n (inl refl) in
    let rest = greatest_within b ns (λ k h. f k (inr h)) in
    omega (arith, here, rest)

plan_within : (p : Case) (v : ℕ) → top_of v (plan p) ≤ p.held.top v + length (plan p)
plan_within p v = greatest_within (p.held.top v + length (plan p)) (map serial_of (filter (is_of_vdu v) (plan p))) (λ n h.
    let from = of_map serial_of n (filter (is_of_vdu v) (plan p)) h in
    let passed = of_filter (is_of_vdu v) from.0 (plan p) from.1 in
    let at : from.0.def.vdu ≡ v = eqb-true from.0.def.vdu v passed.1 in
    let serial : from.0.def.serial ≤ p.held.top from.0.def.vdu + length (plan p) =
    planned_within p from.0.verb from.0.def (in_plan-planned p from.0 passed.0).1 in
    subst (λ (k : ℕ). k ≤ p.held.top v + length (plan p)) from.2
    (subst (λ (w : ℕ). from.0.def.serial ≤ p.held.top w + length (plan p)) at serial))

asked_within : (H : List Event) (a : Operation) (o : Option Vnfd) → IsPlanOf H a o → (v : ℕ)
    → top_of v a.changes ≤ top H a.instance v + length a.changes
asked_within H a None h v = absurd h
asked_within H a (Some d) h v =
    subst (λ (xs : List Change). top_of v xs ≤ top H a.instance v + length xs) (sym h.1)
    (plan_within (case_in d (situation d H a.instance) a.ask) v)

grown : (b : Bool) (v : ℕ) (a : Operation) (xs : List Operation) (n : ℕ) → top_in v a ≤ length a.changes + n
    → greatest (map (top_in v) xs) ≤ n → greatest (map (top_in v) (if b then a ∷ xs else xs)) ≤ length a.changes + n
grown true v a xs n own h = omega (arith, own, h)
grown false v a xs n own h = omega (arith, h)

-- no serial is greater than the number of changes
abbrev AreCounted : List Event → Type 0
AreCounted H = (i v : ℕ) → top H i v ≤ changes_asked H

own_within : (width m : ℕ) (H : List Event) (b : Operation) → IsAllowedWithin width m H (Asked b) → AreCounted H → (v : ℕ)
    → top_in v b ≤ length b.changes + changes_asked H
unfolding top_in
own_within width m H b allowed h v =
    let own = asked_within H b (descriptor H b.instance) allowed.planned v in
    let before = h b.instance v in
    omega (arith, own, before)

counted_step : (width m : ℕ) (H : List Event) (time : ℕ) (k : EventKind) → IsAllowedWithin width m H k → AreCounted H
    → AreCounted (event time k ∷ H)
counted_step width m H time (Asked b) allowed h i v =
    grown (is_of_instance i b) v b (filter (is_of_instance i) (operations H)) (changes_asked H) (own_within width m H b allowed h v) (h i v)
counted_step width m H time _ allowed h i v = h i v

-- in a legal history no serial is greater than the number of changes
pub serials_counted : (width m : ℕ) (H : List Event) → IsLegalWithin width m H → (i v : ℕ) → top H i v ≤ changes_asked H
serials_counted width m H legal =
    legal_induction width m AreCounted (λ i v. omega arith) (λ H time k legal allowed h. counted_step width m H time k allowed h) H legal
