-- What work needs stands, and what stands is on what stands.
use Rattle.std.proofs.Common.{◌≡◌, ◌≤◌, ◌<◌, ◌-◌, ◌==◌, ◌∙◌, ◌≢◌, ℕ, List, ◌∷◌, Bool, true, false, Some, refl, ap, sym, subst, arith, inl}
use Rattle.std.proofs.Common.{inr, ◌⊎◌, ltb, ltb-true, ltb-false, eqb-true, false-eqb, slice_get}
use Rattle.lcm_events.specs.Same.{kind_number, same_def}
use Rattle.lcm_events.proofs.SameLaws.{change_ext, same_def-refl, same_def-true}
use Rattle.lcm_events.specs.declared.attempts.Outcome.TheVariants.{Done}
use Rattle.lcm_events.specs.declared.attempts.Tag.{Tag}
use Rattle.lcm_events.specs.declared.attempts.Way.{Way}
use Rattle.lcm_events.specs.declared.attempts.Way.TheVariants.{Forward, Undo}
use Rattle.lcm_events.specs.declared.changes.Change.{Change}
use Rattle.lcm_events.specs.declared.changes.Def.{Def}
use Rattle.lcm_events.specs.declared.changes.DefKind.{DefKind}
use Rattle.lcm_events.specs.declared.changes.DefKind.TheVariants.{Compute}
use Rattle.lcm_events.specs.declared.changes.Verb.{Verb}
use Rattle.lcm_events.specs.declared.changes.Verb.TheVariants.{Create, Remove, Start, Stop}
use Rattle.lcm_events.specs.declared.descriptor.Vnfd.{Vnfd}
use Rattle.lcm_events.specs.declared.events.Event.{Event}
use Rattle.lcm_events.specs.declared.events.EventKind.TheVariants.{Settled}
use Rattle.lcm_events.specs.declared.events.Operation.{Operation}
use Rattle.lcm_model.specs.Words.{IsIn}
use Rattle.lcm_model.specs.Attempts.{is_open, net}
use Rattle.lcm_model.specs.Operations.{verb_done}
use Rattle.lcm_model.specs.Holding.{effect, effect_in, leaves_it, stands}
use Rattle.lcm_model.specs.Vnfcs.{is_def_of, links}
use Rattle.lcm_model.specs.Needs.{needs}
use Rattle.lcm_model.specs.Plans.{Case, makes_links, new, phase, plan}
use Rattle.lcm_model.specs.Planned.{IsPlannedBy, is_before, key}
use Rattle.lcm_model.specs.Descriptors.{IsValid}
use Rattle.lcm_model.specs.Work.{net_after, net_before}
use Rattle.lcm_laws.proofs.Lists.{by_test}
use Rattle.lcm_laws.proofs.Members.{Rises, get_in}
use Rattle.lcm_laws.proofs.AskLaws.{HasChange}
use Rattle.lcm_laws.proofs.HoldLaws.{after_other, after_same, keep_has}
use Rattle.lcm_laws.proofs.Histories.{event}
use Rattle.lcm_laws.proofs.NextLaws.{rises_get}
use Rattle.lcm_laws.proofs.OrderLaws.{Ordered}
use Rattle.lcm_laws.proofs.PlanMembers.{in_plan-planned}
use Rattle.lcm_laws.proofs.PlanOrder.{Before, not_before, plan_rises}
use Rattle.lcm_laws.proofs.SettledLaws.{net-other_change}

-- what stands is on what stands, and a compute has all links beside it
pub record Rooted (d : Vnfd) (S : Def → Bool) : Type 0 where
  pub on : (x : Def) → S x ≡ true → (y : Def) → IsIn y (needs d Create x) → S y ≡ true
  pub linked : (x : Def) → x.kind ≡ Compute → S x ≡ true → (y : Def) → IsIn y (links d) → S y ≡ true

-- an operation with its plan, over what stood when it was asked for
pub record IsPlannedOver (p : Case) (a : Operation) : Type 0 where
  pub planned : a.changes ≡ plan p
  pub valid : IsValid p.vnfd
  pub makes : (k : Change) → IsIn k a.changes → k.verb ≡ Create → p.held.stands k.def ≡ false
  pub others : (k : Change) → IsIn k a.changes → (k.verb ≡ Create → ⊥) → p.held.stands k.def ≡ true
  pub rooted : Rooted p.vnfd p.held.stands
  pub linked : (v s : ℕ) → IsIn s (new p v) → makes_links p.ask ≡ false → (y : Def) → IsIn y (links p.vnfd) → p.held.stands y ≡ true
  pub own : (x : Def) → p.held.stands x ≡ true → is_def_of p.vnfd x ≡ true
  pub low : (x : Def) → p.held.stands x ≡ true → x.serial ≤ p.held.top x.vdu

-- what stands, by what stood and by the changes that are made
pub record Tracks (H : List Event) (i o : ℕ) (a : Operation) (S : Def → Bool) : Type 0 where
  pub came : (x : Def) → stands H i x ≡ true → (S x ≡ true) ⊎ HasChange H o a Create 1 x
  pub kept : (x : Def) → stands H i x ≡ true → (c : ℕ) (k : Change) → slice_get a.changes c ≡ Some k → k.def ≡ x → k.verb ≡ Remove
      → net H o c ≡ 0
  pub stay : (x : Def) → S x ≡ true → ((c : ℕ) (k : Change) → slice_get a.changes c ≡ Some k → k.def ≡ x → k.verb ≡ Remove → net H o c ≡ 0)
      → stands H i x ≡ true
  pub made : (x : Def) → HasChange H o a Create 1 x → stands H i x ≡ true

-- a change of the plan is planned
in_planned : (p : Case) (a : Operation) (c : ℕ) (k : Change) → IsPlannedOver p a → slice_get a.changes c ≡ Some k
    → (k.phase ≡ phase k.verb k.def.kind) × IsPlannedBy p k.verb k.def
in_planned p a c k h is = in_plan-planned p k (subst (λ (ks : List Change). IsIn k ks) h.planned (get_in k a.changes c is))

pub by_verb : (p : Case) (a : Operation) (c : ℕ) (k : Change) (v : Verb) → IsPlannedOver p a → slice_get a.changes c ≡ Some k → k.verb ≡ v
    → (k.phase ≡ phase v k.def.kind) × IsPlannedBy p v k.def
by_verb p a c k v h is verb = subst (λ (w : Verb). (k.phase ≡ phase w k.def.kind) × IsPlannedBy p w k.def) verb (in_planned p a c k h is)

same_change : (p : Case) (a : Operation) (b c : ℕ) (j k : Change) → IsPlannedOver p a → slice_get a.changes b ≡ Some j
    → slice_get a.changes c ≡ Some k → j.def ≡ k.def
    → j.verb ≡ k.verb → j ≡ k
same_change p a b c j k h eb ec def verb =
    let jp : j.phase ≡ phase k.verb j.def.kind = (by_verb p a b j k.verb h eb verb).0 in
    let kp : k.phase ≡ phase k.verb k.def.kind = (in_planned p a c k h ec).0 in
    let one : phase k.verb j.def.kind ≡ phase k.verb k.def.kind = ap (λ (x : Def). phase k.verb x.kind) def in
    change_ext (jp ∙ (one ∙ sym kp)) verb def

-- a plan has no two changes with one verb at one definition
pub one_number : (p : Case) (a : Operation) (b c : ℕ) (j k : Change) → IsPlannedOver p a → slice_get a.changes b ≡ Some j
    → slice_get a.changes c ≡ Some k → j.def ≡ k.def
    → j.verb ≡ k.verb → b ≡ c
one_number p a b c j k h eb ec def verb =
    let rises : Rises Before a.changes = subst (λ (ks : List Change). Rises Before ks) (sym h.planned) (plan_rises p h.valid) in
    let same : j ≡ k = same_change p a b c j k h eb ec def verb in
    by_test (b == c)
    (λ e. eqb-true b c e)
    (λ other.
    let differ : b ≢ c = false-eqb b c (sym other) in
    by_test (ltb b c)
    (λ less.
    let before : Before j k = rises_get Before a.changes b c j k rises eb ec (ltb-true b c less) in
    absurd (not_before (key k) (subst (λ (z : Change). is_before (key z) (key k) ≡ true) same before)))
    (λ more.
    let high = ltb-false b c more in
    let before : Before k j = rises_get Before a.changes c b k j rises ec eb (omega (arith, high, differ)) in
    absurd (not_before (key k) (subst (λ (z : Change). is_before (key k) (key z) ≡ true) same before))))

-- what a change makes didn't stand, so no other change is about it
no_both : (p : Case) (a : Operation) (b c : ℕ) (j k : Change) → IsPlannedOver p a → slice_get a.changes b ≡ Some j
    → slice_get a.changes c ≡ Some k → j.def ≡ k.def
    → j.verb ≡ Create → (k.verb ≡ Create → ⊥) → ⊥
no_both p a b c j k h eb ec def make other =
    let no : p.held.stands k.def ≡ false = subst (λ (x : Def). p.held.stands x ≡ false) def (h.makes j (get_in j a.changes b eb) make) in
    let yes : p.held.stands k.def ≡ true = h.others k (get_in k a.changes c ec) other in
    let clash : true ≡ false = sym yes ∙ no in cc

-- a start or a stop is of a compute, in phase 4
power : (p : Case) (a : Operation) (c : ℕ) (k : Change) → IsPlannedOver p a → slice_get a.changes c ≡ Some k
    → (k.verb ≡ Start) ⊎ (k.verb ≡ Stop)
    → (k.def.kind ≡ Compute) × (k.phase ≡ 4)
power p a c k h is (inl start) = let by = by_verb p a c k Start h is start in (by.1.1, by.0)
power p a c k h is (inr stop) = let by = by_verb p a c k Stop h is stop in (by.1.1, by.0)

pub removal_phase : (p : Case) (a : Operation) (c : ℕ) (k : Change) (kind : DefKind) → IsPlannedOver p a → slice_get a.changes c ≡ Some k
    → k.verb ≡ Remove → k.def.kind ≡ kind
    → k.phase ≡ 8 - kind_number kind
removal_phase p a c k kind h is verb at = (by_verb p a c k Remove h is verb).0 ∙ ap (λ (w : DefKind). 8 - kind_number w) at

pub making_phase : (p : Case) (a : Operation) (c : ℕ) (k : Change) (kind : DefKind) → IsPlannedOver p a → slice_get a.changes c ≡ Some k
    → k.verb ≡ Create → k.def.kind ≡ kind
    → k.phase ≡ kind_number kind
making_phase p a c k kind h is verb at = (by_verb p a c k Create h is verb).0 ∙ ap kind_number at

-- a start or a stop comes before the removal of its compute
pub power_first : (p : Case) (a : Operation) (b c : ℕ) (j k : Change) → IsPlannedOver p a → slice_get a.changes b ≡ Some j
    → slice_get a.changes c ≡ Some k → k.def ≡ j.def
    → (j.verb ≡ Start) ⊎ (j.verb ≡ Stop) → k.verb ≡ Remove → j.phase < k.phase
power_first p a b c j k h eb ec def v remove =
    let first = power p a b j h eb v in
    let at : k.def.kind ≡ Compute = ap (λ (x : Def). x.kind) def ∙ first.0 in
    let low = first.1 in
    let high = removal_phase p a c k Compute h ec remove at in
    omega (arith, low, high)

-- the change that an attempt has done
pub record IsDone (H : List Event) (time : ℕ) (u : Tag) (name : List ℕ) (i : ℕ) (a : Operation) (k : Change) : Type 0 where
  pub opened : is_open H u ≡ true
  pub at : a.instance ≡ i
  pub is : slice_get a.changes u.change ≡ Some k
  pub eff : effect_in H (Settled u (Done name)) ≡ Some (effect u name a k)
  pub after : net (event time (Settled u (Done name)) ∷ H) u.occ u.change ≡ net_after u.way
  pub before : net H u.occ u.change ≡ net_before u.way

-- the history once the attempt is done
abbrev pub with_done : List Event → ℕ → Tag → List ℕ → List Event
with_done H time u name = event time (Settled u (Done name)) ∷ H

off_number : (u : Tag) (a : Operation) (c : ℕ) (j k : Change) → slice_get a.changes u.change ≡ Some j → slice_get a.changes c ≡ Some k
    → (j ≡ k → ⊥)
    → (u.change == c) ≡ false
off_number u a c j k ej ec differ = by_test (u.change == c)
    (λ same.
    let at : slice_get a.changes u.change ≡ Some k = subst (λ (n : ℕ). slice_get a.changes n ≡ Some k)
    (sym (eqb-true u.change c same)) ec in
    let both : Some j ≡ Some k = sym ej ∙ at in
    let one : j ≡ k = cc in absurd (differ one))
    (λ other. other)

other_def : (j k : Change) (x : Def) → k.def ≡ x → same_def j.def x ≡ false → j ≡ k → ⊥
other_def j k x def differ one =
    let here : j.def ≡ x = ap (λ (z : Change). z.def) one ∙ def in
    let own : same_def j.def x ≡ true = subst (λ (y : Def). same_def j.def y ≡ true) here (same_def-refl j.def) in
    let clash : true ≡ false = sym own ∙ differ in cc

-- another definition stands as it did
elsewhere_net : (H : List Event) (time : ℕ) (u : Tag) (name : List ℕ) (a : Operation) (k j : Change) (x : Def) (c : ℕ)
    → slice_get a.changes u.change ≡ Some k
    → slice_get a.changes c ≡ Some j → j.def ≡ x → same_def k.def x ≡ false → net (with_done H time u name) u.occ c ≡ net H u.occ c
elsewhere_net H time u name a k j x c is ec def differ =
    net-other_change H time u (Done name) u.occ c (off_number u a c k j is ec (other_def k j x def differ))

back_has : (H : List Event) (time : ℕ) (u : Tag) (name : List ℕ) (a : Operation) (k : Change) (x : Def)
    → slice_get a.changes u.change ≡ Some k → same_def k.def x ≡ false
    → HasChange (with_done H time u name) u.occ a Create 1 x → HasChange H u.occ a Create 1 x
back_has H time u name a k x is differ h =
    (h.0, h.1, h.2, h.3, h.4, sym (elsewhere_net H time u name a k h.1 x h.0 is h.2 h.3 differ) ∙ h.5)

-- what the attempt leaves
left_standing : (H : List Event) (time : ℕ) (u : Tag) (name : List ℕ) (i : ℕ) (a : Operation) (k : Change) (x : Def) (w : Way) (v : Verb)
    → IsDone H time u name i a k
    → same_def k.def x ≡ true → u.way ≡ w → k.verb ≡ v → stands (with_done H time u name) i x ≡ leaves_it (verb_done w v)
left_standing H time u name i a k x w v d same way verb =
    after_same H time u name i x a k d.eff d.at same ∙ (ap (λ (y : Way). leaves_it (verb_done y k.verb)) way
    ∙ ap (λ (y : Verb). leaves_it (verb_done w y)) verb)

pub one_zero : {P : Type 0} → (n : ℕ) → n ≡ 1 → n ≡ 0 → P
one_zero n e f = absurd (omega (arith, e, f))

clash_of : {P : Type 0} → (b : Bool) → b ≡ true → b ≡ false → P
clash_of b e f = let no_way : true ≡ false = sym e ∙ f in cc

came_same : (H : List Event) (time : ℕ) (u : Tag) (name : List ℕ) (i : ℕ) (a : Operation) (k : Change) (x : Def) (p : Case) (w : Way)
    (v : Verb) → IsDone H time u name i a k
    → IsPlannedOver p a → same_def k.def x ≡ true → u.way ≡ w → k.verb ≡ v → stands (with_done H time u name) i x ≡ true
    → (p.held.stands x ≡ true) ⊎ HasChange (with_done H time u name) u.occ a Create 1 x
came_same H time u name i a k x p Forward Create d h same way verb s =
    inr (u.change, k, d.is, same_def-true k.def x same, verb, d.after ∙ ap net_after way)
came_same H time u name i a k x p Undo Create d h same way verb s =
    clash_of (stands (with_done H time u name) i x) s (left_standing H time u name i a k x Undo Create d same way verb)
came_same H time u name i a k x p w Remove d h same way verb s =
    inl (subst (λ (y : Def). p.held.stands y ≡ true) (same_def-true k.def x same)
    (h.others k (get_in k a.changes u.change d.is) (λ e. let no_way : Remove ≡ Create = sym verb ∙ e in cc)))
came_same H time u name i a k x p w Start d h same way verb s =
    inl (subst (λ (y : Def). p.held.stands y ≡ true) (same_def-true k.def x same)
    (h.others k (get_in k a.changes u.change d.is) (λ e. let no_way : Start ≡ Create = sym verb ∙ e in cc)))
came_same H time u name i a k x p w Stop d h same way verb s =
    inl (subst (λ (y : Def). p.held.stands y ≡ true) (same_def-true k.def x same)
    (h.others k (get_in k a.changes u.change d.is) (λ e. let no_way : Stop ≡ Create = sym verb ∙ e in cc)))

-- at a start or a stop its compute isn't removed, and isn't being removed
power_kept : (H : List Event) (time : ℕ) (u : Tag) (name : List ℕ) (i : ℕ) (a : Operation) (k : Change) (p : Case) (w : Way) (c : ℕ)
    (r : Change) → IsDone H time u name i a k
    → IsPlannedOver p a → Ordered H u.occ a → u.way ≡ w → (k.verb ≡ Start) ⊎ (k.verb ≡ Stop) → slice_get a.changes c ≡ Some r
    → r.def ≡ k.def → r.verb ≡ Remove → net H u.occ c ≡ 0
power_kept H time u name i a k p Forward c r d h ord way v ec def remove =
    ord.unmade u.change c k r d.is ec (power_first p a u.change c k r h d.is ec def v remove) (d.before ∙ ap net_before way)
power_kept H time u name i a k p Undo c r d h ord way v ec def remove =
    ord.undoing u c k r d.opened refl way d.is ec (power_first p a u.change c k r h d.is ec def v remove)

other_verb : (k r : Change) → (k.verb ≡ Start) ⊎ (k.verb ≡ Stop) → r.verb ≡ Remove → k ≡ r → ⊥
other_verb k r (inl e) f one = let no_way : Start ≡ Remove = sym e ∙ (ap (λ (z : Change). z.verb) one ∙ f) in cc
other_verb k r (inr e) f one = let no_way : Stop ≡ Remove = sym e ∙ (ap (λ (z : Change). z.verb) one ∙ f) in cc

kept_power : (H : List Event) (time : ℕ) (u : Tag) (name : List ℕ) (i : ℕ) (a : Operation) (k : Change) (x : Def) (p : Case) (c : ℕ)
    (r : Change) → IsDone H time u name i a k
    → IsPlannedOver p a → Ordered H u.occ a → same_def k.def x ≡ true → (k.verb ≡ Start) ⊎ (k.verb ≡ Stop) → slice_get a.changes c ≡ Some r
    → r.def ≡ x → r.verb ≡ Remove
    → net (with_done H time u name) u.occ c ≡ 0
kept_power H time u name i a k x p c r d h ord same v ec def remove =
    net-other_change H time u (Done name) u.occ c (off_number u a c k r d.is ec (other_verb k r v remove))
    ∙ power_kept H time u name i a k p u.way c r d h ord refl v ec (def ∙ sym (same_def-true k.def x same)) remove

kept_same : (H : List Event) (time : ℕ) (u : Tag) (name : List ℕ) (i : ℕ) (a : Operation) (k : Change) (x : Def) (p : Case) (w : Way)
    (v : Verb) → IsDone H time u name i a k
    → IsPlannedOver p a → Ordered H u.occ a → same_def k.def x ≡ true → u.way ≡ w → k.verb ≡ v → stands (with_done H time u name) i x ≡ true
    → (c : ℕ) (r : Change) → slice_get a.changes c ≡ Some r → r.def ≡ x → r.verb ≡ Remove → net (with_done H time u name) u.occ c ≡ 0
kept_same H time u name i a k x p w Create d h ord same way verb s c r ec def remove =
    absurd (no_both p a u.change c k r h d.is ec (same_def-true k.def x same ∙ sym def) verb
    (λ e. let no_way : Remove ≡ Create = sym remove ∙ e in cc))
kept_same H time u name i a k x p Forward Remove d h ord same way verb s c r ec def remove =
    clash_of (stands (with_done H time u name) i x) s (left_standing H time u name i a k x Forward Remove d same way verb)
kept_same H time u name i a k x p Undo Remove d h ord same way verb s c r ec def remove =
    let one : u.change ≡ c = one_number p a u.change c k r h d.is ec (same_def-true k.def x same ∙ sym def) (verb ∙ sym remove) in
    subst (λ (n : ℕ). net (with_done H time u name) u.occ n ≡ 0) one (d.after ∙ ap net_after way)
kept_same H time u name i a k x p w Start d h ord same way verb s c r ec def remove =
    kept_power H time u name i a k x p c r d h ord same (inl verb) ec def remove
kept_same H time u name i a k x p w Stop d h ord same way verb s c r ec def remove =
    kept_power H time u name i a k x p c r d h ord same (inr verb) ec def remove

stay_same : (H : List Event) (time : ℕ) (u : Tag) (name : List ℕ) (i : ℕ) (a : Operation) (k : Change) (x : Def) (p : Case) (w : Way)
    (v : Verb) → IsDone H time u name i a k
    → IsPlannedOver p a → same_def k.def x ≡ true → u.way ≡ w → k.verb ≡ v → p.held.stands x ≡ true
    → ((c : ℕ) (r : Change) → slice_get a.changes c ≡ Some r → r.def ≡ x → r.verb ≡ Remove → net (with_done H time u name) u.occ c ≡ 0)
    → stands (with_done H time u name) i x ≡ true
stay_same H time u name i a k x p w Create d h same way verb s f =
    let no : p.held.stands x ≡ false = subst (λ (y : Def). p.held.stands y ≡ false) (same_def-true k.def x same)
    (h.makes k (get_in k a.changes u.change d.is) verb) in
    clash_of (p.held.stands x) s no
stay_same H time u name i a k x p Forward Remove d h same way verb s f =
    let gone : net (with_done H time u name) u.occ u.change ≡ 0 = f u.change k d.is (same_def-true k.def x same) verb in
    one_zero (net (with_done H time u name) u.occ u.change) (d.after ∙ ap net_after way) gone
stay_same H time u name i a k x p Undo Remove d h same way verb s f = left_standing H time u name i a k x Undo Remove d same way verb
stay_same H time u name i a k x p Forward Start d h same way verb s f = left_standing H time u name i a k x Forward Start d same way verb
stay_same H time u name i a k x p Undo Start d h same way verb s f = left_standing H time u name i a k x Undo Start d same way verb
stay_same H time u name i a k x p Forward Stop d h same way verb s f = left_standing H time u name i a k x Forward Stop d same way verb
stay_same H time u name i a k x p Undo Stop d h same way verb s f = left_standing H time u name i a k x Undo Stop d same way verb

made_other : (p : Case) (a : Operation) (b c : ℕ) (j k : Change) (x : Def) (v : Verb) → IsPlannedOver p a → slice_get a.changes b ≡ Some j
    → slice_get a.changes c ≡ Some k
    → j.def ≡ x → k.def ≡ x → j.verb ≡ Create → k.verb ≡ v → (v ≡ Create → ⊥) → ⊥
made_other p a b c j k x v h eb ec dj dk make verb differ = no_both p a b c j k h eb ec (dj ∙ sym dk) make (λ e. differ (sym verb ∙ e))

made_same : (H : List Event) (time : ℕ) (u : Tag) (name : List ℕ) (i : ℕ) (a : Operation) (k : Change) (x : Def) (p : Case) (w : Way)
    (v : Verb) → IsDone H time u name i a k
    → IsPlannedOver p a → same_def k.def x ≡ true → u.way ≡ w → k.verb ≡ v → HasChange (with_done H time u name) u.occ a Create 1 x
    → stands (with_done H time u name) i x ≡ true
made_same H time u name i a k x p Forward Create d h same way verb m = left_standing H time u name i a k x Forward Create d same way verb
made_same H time u name i a k x p Undo Create d h same way verb m =
    let one : u.change ≡ m.0 = one_number p a u.change m.0 k m.1 h d.is m.2 (same_def-true k.def x same ∙ sym m.3) (verb ∙ sym m.4) in
    let gone : net (with_done H time u name) u.occ m.0 ≡ 0 = subst (λ (n : ℕ). net (with_done H time u name) u.occ n ≡ 0) one
    (d.after ∙ ap net_after way) in
    one_zero (net (with_done H time u name) u.occ m.0) m.5 gone
made_same H time u name i a k x p w Remove d h same way verb m =
    absurd (made_other p a m.0 u.change m.1 k x Remove h m.2 d.is m.3 (same_def-true k.def x same) m.4 verb (λ e. cc))
made_same H time u name i a k x p w Start d h same way verb m =
    absurd (made_other p a m.0 u.change m.1 k x Start h m.2 d.is m.3 (same_def-true k.def x same) m.4 verb (λ e. cc))
made_same H time u name i a k x p w Stop d h same way verb m = absurd
    (made_other p a m.0 u.change m.1 k x Stop h m.2 d.is m.3 (same_def-true k.def x same) m.4 verb (λ e. cc))

-- what stands is still told by the changes once one of them is done
pub tracks_done : (H : List Event) (time : ℕ) (u : Tag) (name : List ℕ) (i : ℕ) (a : Operation) (k : Change) (p : Case)
    → IsDone H time u name i a k → IsPlannedOver p a
    → Ordered H u.occ a → Tracks H i u.occ a p.held.stands → Tracks (with_done H time u name) i u.occ a p.held.stands
tracks_done H time u name i a k p d h ord t = record {
  came = λ x s. by_test (same_def k.def x)
      (λ same. came_same H time u name i a k x p u.way k.verb d h same refl refl s)
      (λ differ. elim (t.came x (sym (after_other H time u name i x a k d.eff differ) ∙ s)) [
        | inl before ↦ inl before
        | inr has ↦ inr (keep_has H time u (Done name) a k Create 1 x d.is differ has)
      ]);
  kept = λ x s c r ec def remove. by_test (same_def k.def x)
      (λ same. kept_same H time u name i a k x p u.way k.verb d h ord same refl refl s c r ec def remove)
      (λ differ.
      elsewhere_net H time u name a k r x c d.is ec def differ ∙ t.kept x
      (sym (after_other H time u name i x a k d.eff differ) ∙ s) c r ec def remove);
  stay = λ x s f. by_test (same_def k.def x)
      (λ same. stay_same H time u name i a k x p u.way k.verb d h same refl refl s f)
      (λ differ.
      after_other H time u name i x a k d.eff differ
      ∙ t.stay x s (λ c r ec def remove. sym (elsewhere_net H time u name a k r x c d.is ec def differ) ∙ f c r ec def remove));
  made = λ x m. by_test (same_def k.def x)
      (λ same. made_same H time u name i a k x p u.way k.verb d h same refl refl m)
      (λ differ. after_other H time u name i x a k d.eff differ ∙ t.made x (back_has H time u name a k x d.is differ m));
}
