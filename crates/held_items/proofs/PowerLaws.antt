-- What an open attempt is to start or stop stands.
use Rattle.std.proofs.Common.{◌≡◌, ◌&&◌, ◌==◌, ◌∙◌, ◌⊎◌, ℕ, List, ◌∷◌, Bool, true, false, cond, Option, None, Some, inl, inr, refl, ap, sym}
use Rattle.std.proofs.Common.{subst, arith, eqb-true, slice_get}
use Rattle.lcm_events.specs.Same.{same_def, same_tag}
use Rattle.lcm_events.proofs.SameLaws.{same_def-true, same_tag-true}
use Rattle.lcm_events.specs.declared.attempts.Outcome.{Outcome}
use Rattle.lcm_events.specs.declared.attempts.Tag.{Tag}
use Rattle.lcm_events.specs.declared.attempts.Way.{Way}
use Rattle.lcm_events.specs.declared.attempts.Way.TheVariants.{Forward, Undo}
use Rattle.lcm_events.specs.declared.changes.Change.{Change}
use Rattle.lcm_events.specs.declared.changes.DefKind.TheVariants.{Compute}
use Rattle.lcm_events.specs.declared.changes.Verb.{Verb}
use Rattle.lcm_events.specs.declared.changes.Verb.TheVariants.{Create, Remove, Start, Stop}
use Rattle.lcm_events.specs.declared.descriptor.Vnfd.{Vnfd}
use Rattle.lcm_events.specs.declared.events.Event.{Event}
use Rattle.lcm_events.specs.declared.events.EventKind.{EventKind}
use Rattle.lcm_events.specs.declared.events.EventKind.TheVariants.{Asked, Intent, Settled}
use Rattle.lcm_events.specs.declared.events.Operation.{Operation}
use Rattle.lcm_model.specs.Moves.{state}
use Rattle.lcm_model.specs.Words.{IsIn}
use Rattle.lcm_model.specs.Attempts.{is_open, is_unsettled, net, open_tags}
use Rattle.lcm_model.specs.Allowed.{IsAllowedWithin, IsLegalWithin, IsPlanOf}
use Rattle.lcm_model.specs.Holding.{effect, effect_in, leaves_it, stands}
use Rattle.lcm_model.specs.Lives.{descriptor}
use Rattle.lcm_model.specs.Operations.{operation, operations, verb_done}
use Rattle.lcm_model.specs.Planned.{IsPlannedBy}
use Rattle.lcm_model.specs.Plans.{Case, phase, plan}
use Rattle.lcm_model.specs.Refusals.{case_in, situation}
use Rattle.lcm_model.specs.Work.{net_before, works_in}
use Rattle.lcm_laws.proofs.BeginLaws.{work_fits}
use Rattle.lcm_laws.proofs.EndLaws.{begun_open, open_state}
use Rattle.lcm_laws.proofs.Histories.{event, legal_induction}
use Rattle.lcm_laws.proofs.HoldLaws.{one_value}
use Rattle.lcm_laws.proofs.Lists.{and_left, and_right, any_of_filter, by_test}
use Rattle.lcm_laws.proofs.MakerLaws.{asked_stands}
use Rattle.lcm_laws.proofs.Members.{get_in}
use Rattle.lcm_laws.proofs.NetLaws.{another, open_fits, open_tags-settled}
use Rattle.lcm_laws.proofs.NumberLaws.{operation-next}
use Rattle.lcm_laws.proofs.OrderLaws.{ordered}
use Rattle.lcm_laws.proofs.PlanHistory.{found_in}
use Rattle.lcm_laws.proofs.PlanMembers.{in_plan-planned}
use Rattle.lcm_laws.proofs.PlannedLaws.{asked_absent}
use Rattle.lcm_laws.proofs.SettledLaws.{one_going, open_operation, stands-done, stands-nothing, what_is_done}
use Rattle.std.specs.List.{list_any}

-- an operation with its plan, over what stood when it was asked for
pub record HasCase (a : Operation) : Type 0 where
  pub p : Case
  pub planned : a.changes ≡ plan p
  pub makes : (k : Change) → IsIn k a.changes → k.verb ≡ Create → p.held.stands k.def ≡ false
  pub others : (k : Change) → IsIn k a.changes → (k.verb ≡ Create → ⊥) → p.held.stands k.def ≡ true

abbrev AllHaveCases : List Event → Type 0
AllHaveCases H = (a : Operation) → IsIn a (operations H) → HasCase a

case_of : (width m : ℕ) (H : List Event) (b : Operation) (d : Option Vnfd) → IsLegalWithin width m H → IsAllowedWithin width m H (Asked b)
    → IsPlanOf H b d → HasCase b
case_of width m H b None legal allowed h = absurd h
case_of width m H b (Some d) legal allowed h = record {
  p = case_in d (situation d H b.instance) b.ask;
  planned = h.1;
  makes = λ k has is. asked_absent width m H b legal allowed k has is;
  others = λ k has other. asked_stands width m H b allowed k has other;
}

cases_step : (width m : ℕ) (H : List Event) (time : ℕ) (k : EventKind) → IsLegalWithin width m H → IsAllowedWithin width m H k
    → AllHaveCases H → AllHaveCases (event time k ∷ H)
cases_step width m H time (Asked b) legal allowed h a (inl e) =
    subst (λ (z : Operation). HasCase z) e (case_of width m H b (descriptor H b.instance) legal allowed allowed.planned)
cases_step width m H time (Asked b) legal allowed h a (inr g) = h a g
cases_step width m H time k legal allowed h a g = h a g

all_have_cases : (width m : ℕ) (H : List Event) → IsLegalWithin width m H → AllHaveCases H
all_have_cases width m H legal = legal_induction width m AllHaveCases (λ a g. absurd g)
    (λ H time k legal allowed h. cases_step width m H time k legal allowed h) H legal

-- an operation's plan, over what stood when it was asked for
pub case_at : (width m : ℕ) (H : List Event) (o : ℕ) (a : Operation) → IsLegalWithin width m H → operation H o ≡ Some a → HasCase a
case_at width m H o a legal found = all_have_cases width m H legal a (found_in (λ b. b.occ == o) (operations H) a found)

planned_in : (a : Operation) (c : ℕ) (k : Change) (v : Verb) → HasCase a → slice_get a.changes c ≡ Some k → k.verb ≡ v
    → (p : Case) × (k.phase ≡ phase v k.def.kind) × IsPlannedBy p v k.def
planned_in a c k v h is verb =
    let by = in_plan-planned h.p k (subst (λ (ks : List Change). IsIn k ks) h.planned (get_in k a.changes c is)) in
    (h.p, subst (λ (w : Verb). k.phase ≡ phase w k.def.kind) verb by.0, subst (λ (w : Verb). IsPlannedBy h.p w k.def) verb by.1)

-- a start or a stop
abbrev pub IsPower : Verb → Type 0
IsPower v = (v ≡ Start) ⊎ (v ≡ Stop)

power_by : (a : Operation) (c : ℕ) (k : Change) → HasCase a → slice_get a.changes c ≡ Some k → IsPower k.verb
    → (k.def.kind ≡ Compute) × (k.phase ≡ 4)
power_by a c k h is (inl start) = let by = planned_in a c k Start h is start in (by.2.1, by.1)
power_by a c k h is (inr stop) = let by = planned_in a c k Stop h is stop in (by.2.1, by.1)

-- a start or a stop is of a compute
pub power_compute : (width m : ℕ) (H : List Event) (o c : ℕ) (a : Operation) (k : Change) → IsLegalWithin width m H → operation H o ≡ Some a
    → slice_get a.changes c ≡ Some k → IsPower k.verb
    → k.def.kind ≡ Compute
power_compute width m H o c a k legal found is power = (power_by a c k (case_at width m H o a legal found) is power).0

not_create : (v : Verb) → IsPower v → v ≡ Create → ⊥
not_create v (inl e) is = let clash : Start ≡ Create = sym e ∙ is in cc
not_create v (inr e) is = let clash : Stop ≡ Create = sym e ∙ is in cc

not_made : (w : Way) (v u : Verb) → IsPower v → v ≡ u → verb_done w u ≡ Create → ⊥
not_made w v Create h e is = not_create v h e
not_made Forward v Remove h e is = cc
not_made Undo v Remove (inl s) e is = let clash : Start ≡ Remove = sym s ∙ e in cc
not_made Undo v Remove (inr s) e is = let clash : Stop ≡ Remove = sym s ∙ e in cc
not_made Forward v Start h e is = cc
not_made Undo v Start h e is = cc
not_made Forward v Stop h e is = cc
not_made Undo v Stop h e is = cc

-- what open attempts are to start or stop stands
abbrev PowerStands : List Event → Type 0
PowerStands H = (t : Tag) (a : Operation) (k : Change) → is_open H t ≡ true → operation H t.occ ≡ Some a
    → slice_get a.changes t.change ≡ Some k → IsPower k.verb
    → stands H a.instance k.def ≡ true

begun_stands : (width m : ℕ) (H : List Event) (time : ℕ) (u t : Tag) (a : Operation) (k : Change) → IsLegalWithin width m H
    → IsAllowedWithin width m H (Intent u) → PowerStands H
    → is_open (event time (Intent u) ∷ H) t ≡ true → operation H t.occ ≡ Some a → slice_get a.changes t.change ≡ Some k → IsPower k.verb
    → stands H a.instance k.def ≡ true
unfolding is_unsettled
begun_stands width m H time u t a k legal allowed h opened found is power = by_test (same_tag t u)
    (λ same.
    let one : t ≡ u = same_tag-true t u same in
    (work_fits width m H u legal allowed a k (subst (λ (z : Tag). operation H z.occ ≡ Some a) one found)
    (subst (λ (z : Tag). slice_get a.changes z.change ≡ Some k) one is)).others
    (not_made u.way k.verb k.verb power refl))
    (λ other. h t a k (begun_open u t (is_unsettled H u) (open_tags H) opened other) found is power)

-- what is open once another attempt has ended was open before
pub still_open : (H : List Event) (time : ℕ) (u t : Tag) (out : Outcome) → is_open (event time (Settled u out) ∷ H) t ≡ true
    → is_open H t ≡ true
still_open H time u t out opened =
    any_of_filter (same_tag t) (another u) (open_tags H) (subst (λ (ts : List Tag). list_any (same_tag t) ts ≡ true)
    (open_tags-settled H time u out) opened)

same_ways : (v w : Way) → works_in v ≡ works_in w → v ≡ w
same_ways Forward Forward e = refl
same_ways Undo Undo e = refl
same_ways Forward Undo e = cc
same_ways Undo Forward e = cc

-- two open attempts of one instance are of one operation, in one way
record AreTogether (H : List Event) (t u : Tag) : Type 0 where
  occ : u.occ ≡ t.occ
  way : u.way ≡ t.way

together : (width m : ℕ) (H : List Event) (t u : Tag) (a b : Operation) → IsLegalWithin width m H → is_open H t ≡ true → is_open H u ≡ true
    → operation H t.occ ≡ Some a
    → operation H u.occ ≡ Some b → b.instance ≡ a.instance → AreTogether H t u
together width m H t u a b legal ot ou fa fb at =
    let mine = open_operation width m H t legal ot in
    let other = open_operation width m H u legal ou in
    let one : u.occ ≡ t.occ = one_going width m H a.instance t.occ u.occ a b legal fa refl mine.2 fb at other.2 in
    let works : works_in u.way ≡ works_in t.way =
    sym (open_state width m H legal u ou) ∙ (ap (state H) one ∙ open_state width m H legal t ot) in
    record { occ = one; way = same_ways u.way t.way works }

-- nothing that is to be started or stopped is removed meanwhile
never_removed : (width m : ℕ) (H : List Event) (t u : Tag) (a : Operation) (j k : Change) (w : Way) (v : Verb) → IsLegalWithin width m H
    → is_open H t ≡ true → is_open H u ≡ true
    → operation H t.occ ≡ Some a → slice_get a.changes t.change ≡ Some k → IsPower k.verb → AreTogether H t u
    → slice_get a.changes u.change ≡ Some j → j.def ≡ k.def
    → u.way ≡ w → j.verb ≡ v → leaves_it (verb_done w v) ≡ false → ⊥
never_removed width m H t u a j k Forward Remove legal ot ou found ek power with ej def way verb gone =
    let h : HasCase a = case_at width m H t.occ a legal found in
    let low = (power_by a t.change k h ek power).1 in
    let kind : j.def.kind ≡ Compute = ap (λ z. z.kind) def ∙ (power_by a t.change k h ek power).0 in
    let high : j.phase ≡ 6 = (planned_in a u.change j Remove h ej verb).1 ∙ ap (phase Remove) kind in
    let made : net H t.occ t.change ≡ 1 =
    (ordered width m H legal t.occ a found).making u t.change k j ou with.occ way ek ej (omega (arith, low, high)) in
    let none : net H t.occ t.change ≡ 0 = open_fits width m H legal t ot ∙ ap net_before (sym with.way ∙ way) in
    absurd (omega (arith, made, none))
never_removed width m H t u a j k Undo Create legal ot ou found ek power with ej def way verb gone =
    let h : HasCase a = case_at width m H t.occ a legal found in
    let absent : h.p.held.stands j.def ≡ false = h.makes j (get_in j a.changes u.change ej) verb in
    let there : h.p.held.stands k.def ≡ true = h.others k (get_in k a.changes t.change ek) (not_create k.verb power) in
    let clash : true ≡ false = sym there ∙ (ap h.p.held.stands (sym def) ∙ absent) in cc
never_removed width m H t u a j k Forward Create legal ot ou found ek power with ej def way verb gone = cc
never_removed width m H t u a j k Forward Start legal ot ou found ek power with ej def way verb gone = cc
never_removed width m H t u a j k Forward Stop legal ot ou found ek power with ej def way verb gone = cc
never_removed width m H t u a j k Undo Remove legal ot ou found ek power with ej def way verb gone = cc
never_removed width m H t u a j k Undo Start legal ot ou found ek power with ej def way verb gone = cc
never_removed width m H t u a j k Undo Stop legal ot ou found ek power with ej def way verb gone = cc

after_stands : (b l s : Bool) → s ≡ true → (b ≡ true → l ≡ false → ⊥) → cond b l s ≡ true
after_stands true true s e f = refl
after_stands true false s e f = absurd (f refl refl)
after_stands false l s e f = e

ended_stands : (width m : ℕ) (H : List Event) (time : ℕ) (u t : Tag) (out : Outcome) (a : Operation) (k : Change) → IsLegalWithin width m H
    → is_open H u ≡ true → PowerStands H
    → is_open H t ≡ true → operation H t.occ ≡ Some a → slice_get a.changes t.change ≡ Some k → IsPower k.verb
    → stands (event time (Settled u out) ∷ H) a.instance k.def ≡ true
ended_stands width m H time u t out a k legal ou h ot found is power =
    let other = open_operation width m H u legal ou in
    let before : stands H a.instance k.def ≡ true = h t a k ot found is power in
    elim (what_is_done H time u out other.0 other.1) [
      | inl nothing ↦ stands-nothing H time u out a.instance k.def nothing.0 ∙ before
      | inr change ↦
          (let j : Change = change.1 in
          stands-done H time u out a.instance k.def (effect u change.0 other.0 j) change.4
          ∙ after_stands ((other.0.instance == a.instance) && same_def j.def k.def) (leaves_it (verb_done u.way j.verb))
          (stands H a.instance k.def) before
          (λ on gone.
          let at : other.0.instance ≡ a.instance = eqb-true other.0.instance a.instance
          (and_left (other.0.instance == a.instance) (same_def j.def k.def) on) in
          let def : j.def ≡ k.def = same_def-true j.def k.def (and_right (other.0.instance == a.instance) (same_def j.def k.def) on) in
          let with : AreTogether H t u = together width m H t u a other.0 legal ot ou found other.1 at in
          let here : operation H t.occ ≡ Some other.0 = subst (λ (n : ℕ). operation H n ≡ Some other.0) with.occ other.1 in
          let one : other.0 ≡ a = one_value (operation H t.occ) other.0 a here found in
          let ej : slice_get a.changes u.change ≡ Some j = subst (λ (z : Operation). slice_get z.changes u.change ≡ Some j) one change.3 in
          never_removed width m H t u a j k u.way j.verb legal ot ou found is power with ej def refl refl gone))
    ]

-- the operation of an attempt that was open before
found_before : (width m : ℕ) (H : List Event) (time : ℕ) (k : EventKind) (t : Tag) (a : Operation) → IsLegalWithin width m H
    → IsAllowedWithin width m H k → is_open H t ≡ true
    → operation (event time k ∷ H) t.occ ≡ Some a → operation H t.occ ≡ Some a
found_before width m H time k t a legal allowed opened found =
    let mine = open_operation width m H t legal opened in
    let later : operation (event time k ∷ H) t.occ ≡ Some mine.0 = operation-next width m H time k t.occ mine.0 legal allowed mine.1 in
    mine.1 ∙ ap Some (one_value (operation (event time k ∷ H) t.occ) mine.0 a later found)

power_step : (width m : ℕ) (H : List Event) (time : ℕ) (k : EventKind) → IsLegalWithin width m H → IsAllowedWithin width m H k
    → PowerStands H → PowerStands (event time k ∷ H)
unfolding is_unsettled effect_in
power_step width m H time (Intent u) legal allowed h t a k opened found is power =
    begun_stands width m H time u t a k legal allowed h opened found is power
power_step width m H time (Settled u out) legal allowed h t a k opened found is power =
    ended_stands width m H time u t out a k legal allowed h (still_open H time u t out opened) found is power
power_step width m H time (Asked b) legal allowed h t a k opened found is power =
    h t a k opened (found_before width m H time (Asked b) t a legal allowed opened found) is power
power_step width m H time other legal allowed h t a k opened found is power = h t a k opened found is power

-- what an open attempt is to start or stop stands
pub power_stands : (width m : ℕ) (H : List Event) → IsLegalWithin width m H → PowerStands H
power_stands width m H legal =
    legal_induction width m PowerStands (λ t a k opened found. cc)
    (λ H time k legal allowed h. power_step width m H time k legal allowed h) H legal
