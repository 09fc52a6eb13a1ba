-- What stands of an instance among the jobs is what the history says, but for the work of the one attempt that is open at it.
use Rattle.lcm_laws.proofs.HoldLaws.{idle_holds_nothing}
use Rattle.std.proofs.Common.{◌≡◌, ◌==◌, ◌&&◌, ◌∙◌, ◌⊎◌, ℕ, List, [], ◌∷◌, Bool, true, false, cond, Option, None, Some, is_some, refl, ap}
use Rattle.std.proofs.Common.{sym, subst, map, filter, filter_map, inl, inr, eq-eqb, slice_get, option_and_then, if◌then◌else◌}
use Rattle.std.specs.List.{cons_option}
use Rattle.std.specs.Option.{option_map_or}
use Rattle.lcm_events.specs.Same.{same_def, same_tag}
use Rattle.lcm_events.proofs.SameLaws.{same_def-refl, same_tag-refl, same_tag-true}
use Rattle.lcm_events.specs.declared.attempts.Outcome.{Outcome}
use Rattle.lcm_events.specs.declared.attempts.Outcome.TheVariants as outcome
use Rattle.lcm_events.specs.declared.attempts.Tag.{Tag}
use Rattle.lcm_events.specs.declared.changes.Change.{Change}
use Rattle.lcm_events.specs.declared.changes.Def.{Def}
use Rattle.lcm_events.specs.declared.changes.Verb.{Verb}
use Rattle.lcm_events.specs.declared.events.Event.{Event}
use Rattle.lcm_events.specs.declared.events.EventKind.{EventKind}
use Rattle.lcm_events.specs.declared.events.EventKind.TheVariants.{Intent, Settled}
use Rattle.lcm_events.specs.declared.events.Operation.{Operation}
use Rattle.lcm_events.specs.declared.states.OpState.{OpState}
use Rattle.lcm_model.specs.Allowed.{IsAllowedWithin, IsLegalWithin}
use Rattle.lcm_model.specs.Attempts.{intents, is_open, is_unsettled, open_tags}
use Rattle.lcm_model.specs.Holding.{effect, effect_in, leaves_it, stands}
use Rattle.lcm_model.specs.Instances.{is_instantiated}
use Rattle.lcm_model.specs.Moves.{is_final, state}
use Rattle.lcm_model.specs.Operations.{ongoing, operation, verb_done}
use Rattle.lcm_model.specs.Words.{IsIn, first, when}
use Rattle.lcm_laws.proofs.AboutLaws.{about_asked}
use Rattle.lcm_laws.proofs.EndLaws.{open_state}
use Rattle.lcm_laws.proofs.FreshLaws.{Known, fresh_unsettled}
use Rattle.lcm_laws.proofs.Histories.{event, legal_induction}
use Rattle.lcm_laws.proofs.Lists.{by_test, filter_same, filter_swap, not-false}
use Rattle.lcm_laws.proofs.Members.{in_filter, of_filter}
use Rattle.lcm_laws.proofs.NetLaws.{another, open_tags-settled}
use Rattle.lcm_laws.proofs.SettledLaws.{idle_none, stands-done, stands-nothing, what_is_done, works_on}
use Rattle.site_traits.specs.declared.jobs.Phase.{Phase}
use Rattle.site_traits.specs.declared.jobs.Phase.TheVariants.{Aborted, Broken, Done, Running}
use Rattle.site_traits.specs.Jobs.{Job, phase_of}
use Rattle.lcm_jobs.specs.Alternating.{did_it}
use Rattle.lcm_jobs.specs.Idle.{stands_among, verb_for, verb_in, verb_of_job, verb_on}
use Rattle.lcm_jobs.specs.Sound.{Agrees, FitsJobs, IsNoneOrBroken, IsSoundWithin}
use Rattle.lcm_jobs.specs.Standing.{is_job_done}
use Rattle.lcm_jobs.proofs.Endings.{jobs_known}
use Rattle.lcm_jobs.proofs.KeepLemmas.{fresh_job}
use Rattle.lcm_jobs.proofs.OnLemmas.{is_on, known_operation, none_on, on_verb, open_on, verb_at, verb_next}
use Rattle.lcm_jobs.proofs.Parts.{any_in, in_any, phase_back, phase_front}
use Rattle.lcm_jobs.proofs.SoundLemmas.{sound_induction}

-- what an attempt leaves of the definition
pub leaves : List Event → ℕ → Def → Tag → Bool
leaves H i x t = option_map_or leaves_it (verb_on H i x t) false

-- what is to stand among the jobs: what the history says, or what the open attempt left whose job was done
abbrev pub expected : Bool → List Job → (Tag → Bool) → List Tag → Bool
expected s js left [] = s
expected s js left (t ∷ ts) = if is_job_done js t then left t else s

expected_same : (s r : Bool) (js : List Job) (f g : Tag → Bool) (ts us : List Tag) → s ≡ r → ts ≡ us → ((t : Tag) → IsIn t us → f t ≡ g t)
    → expected s js f ts ≡ expected r js g us
expected_same s r js f g ts [] e is same = subst (λ (v : List Tag). expected s js f v ≡ r) (sym is) e
expected_same s r js f g ts (u ∷ us) e is same =
    subst (λ (v : List Tag). expected s js f v ≡ (if is_job_done js u then g u else r)) (sym is)
    (choose (is_job_done js u) (f u) (g u) s r (same u (inl refl)) e) where
      choose : (b c d s r : Bool) → c ≡ d → s ≡ r → (if b then c else s) ≡ (if b then d else r)
      choose true c d s r e f = e
      choose false c d s r e f = f

-- what is known stays what it was
on_next : (width m : ℕ) (H : List Event) (time : ℕ) (k : EventKind) (i : ℕ) (x : Def) (t : Tag) → IsLegalWithin width m H
    → IsAllowedWithin width m H k → Known H t
    → is_on (event time k ∷ H) i x t ≡ is_on H i x t
unfolding is_on
on_next width m H time k i x t legal allowed known =
    let a = known_operation width m H t legal known in
    ap is_some (verb_next width m H time k i x t a.0 legal allowed a.1)

leaves_next : (width m : ℕ) (H : List Event) (time : ℕ) (k : EventKind) (i : ℕ) (x : Def) (t : Tag) → IsLegalWithin width m H
    → IsAllowedWithin width m H k → Known H t
    → leaves (event time k ∷ H) i x t ≡ leaves H i x t
unfolding leaves
leaves_next width m H time k i x t legal allowed known =
    let a = known_operation width m H t legal known in
    ap (λ (o : Option Verb). option_map_or leaves_it o false) (verb_next width m H time k i x t a.0 legal allowed a.1)

open_known : (H : List Event) (t : Tag) → IsIn t (open_tags H) → Known H t
open_known H t h = in_any t (intents H) (of_filter (is_unsettled H) t (intents H) h).0

filter_as : (p q : Tag → Bool) (ts : List Tag) → ((t : Tag) → IsIn t ts → p t ≡ q t) → filter p ts ≡ filter q ts
filter_as p q [] h = refl
filter_as p q (t ∷ ts) h = by_test (q t)
    (λ holds. let also : p t ≡ true = h t (inl refl) ∙ holds in rw (also, holds)
    (ap (λ (v : List Tag). t ∷ v) (filter_as p q ts (λ u g. h u (inr g)))))
    (λ fails. let also : p t ≡ false = h t (inl refl) ∙ fails in rw (also, fails) (filter_as p q ts (λ u g. h u (inr g))))

-- the attempts at it, among those that were open
on_as : (width m : ℕ) (H : List Event) (time : ℕ) (k : EventKind) (i : ℕ) (x : Def) (ts : List Tag) → IsLegalWithin width m H
    → IsAllowedWithin width m H k
    → ((t : Tag) → IsIn t ts → Known H t) → filter (is_on (event time k ∷ H) i x) ts ≡ filter (is_on H i x) ts
on_as width m H time k i x ts legal allowed known =
    filter_as (is_on (event time k ∷ H) i x) (is_on H i x) ts (λ t h. on_next width m H time k i x t legal allowed (known t h))

on_known : (H : List Event) (i : ℕ) (x : Def) (t : Tag) → IsIn t (open_on H i x) → Known H t
on_known H i x t h = open_known H t (of_filter (is_on H i x) t (open_tags H) h).0

-- what jobs did stays what it was
work_next : (width m : ℕ) (H : List Event) (time : ℕ) (k : EventKind) (i : ℕ) (x : Def) (j : Job) → IsLegalWithin width m H
    → IsAllowedWithin width m H k → Known H j.tag
    → verb_of_job (event time k ∷ H) i x j ≡ verb_of_job H i x j
unfolding verb_of_job
work_next width m H time k i x j legal allowed known =
    let a = known_operation width m H j.tag legal known in
    ap (λ (o : Option Verb). if did_it j.phase then o else None) (verb_next width m H time k i x j.tag a.0 legal allowed a.1)

work_all : (f g : Job → Option Verb) (js : List Job) → ((j : Job) → IsIn j js → f j ≡ g j) → filter_map f js ≡ filter_map g js
work_all f g [] h = refl
work_all f g (j ∷ js) h = two (f j) (g j) (filter_map f js) (filter_map g js) (h j (inl refl))
    (work_all f g js (λ k among. h k (inr among))) where
      two : (a b : Option Verb) (vs ws : List Verb) → a ≡ b → vs ≡ ws → cons_option a vs ≡ cons_option b ws
      two a b vs ws e f = cc

tag_in : (j : Job) (js : List Job) → IsIn j js → IsIn j.tag (map (λ x. x.tag) js)
tag_in j [] h = absurd h
tag_in j (k ∷ js) (inl e) = inl (ap (λ (x : Job). x.tag) e)
tag_in j (k ∷ js) (inr h) = inr (tag_in j js h)

pub among_next : (width m : ℕ) (H : List Event) (time : ℕ) (k : EventKind) (i : ℕ) (x : Def) (js : List Job) → IsSoundWithin width m H js
    → IsAllowedWithin width m H k
    → stands_among (event time k ∷ H) i x js ≡ stands_among H i x js
among_next width m H time k i x js sound allowed =
    ap (λ (vs : List Verb). option_map_or leaves_it (first vs) false)
    (work_all (verb_of_job (event time k ∷ H) i x) (verb_of_job H i x) js
    (λ j h. work_next width m H time k i x j sound.legal allowed (jobs_known H js j.tag sound.begun (tag_in j js h))))

-- what stands among the jobs is what is expected
abbrev pub Expects : ℕ → Def → List Event → List Job → Type 0
Expects i x H js = stands_among H i x js ≡ expected (stands H i x) js (leaves H i x) (open_on H i x)

-- an event that leaves what stands and what is open
expects_other : (width m : ℕ) (H : List Event) (time : ℕ) (k : EventKind) (i : ℕ) (x : Def) (js : List Job) → IsSoundWithin width m H js
    → IsAllowedWithin width m H k
    → open_on (event time k ∷ H) i x ≡ open_on H i x → stands (event time k ∷ H) i x ≡ stands H i x → Expects i x H js
    → Expects i x (event time k ∷ H) js
expects_other width m H time k i x js sound allowed opens same h =
    among_next width m H time k i x js sound allowed ∙ h
    ∙ sym (expected_same (stands (event time k ∷ H) i x) (stands H i x) js (leaves (event time k ∷ H) i x) (leaves H i x)
    (open_on (event time k ∷ H) i x) (open_on H i x) same opens
    (λ t g. leaves_next width m H time k i x t sound.legal allowed (on_known H i x t g)))

some_of : {A : Type 0} → (o : Option A) → is_some o ≡ true → (a : A) × (o ≡ Some a)
some_of None e = cc
some_of (Some a) e = (a, refl)

-- an attempt that begins is of an operation
new_operation : (width m : ℕ) (H : List Event) (u : Tag) → IsLegalWithin width m H → IsAllowedWithin width m H (Intent u)
    → (a : Operation) × (operation H u.occ ≡ Some a)
new_operation width m H u legal allowed = some_of (operation H u.occ) (about_asked width m H (Intent u) legal allowed u.occ refl)

new_verb : (width m : ℕ) (H : List Event) (time : ℕ) (u : Tag) (i : ℕ) (x : Def) → IsLegalWithin width m H
    → IsAllowedWithin width m H (Intent u)
    → verb_on (event time (Intent u) ∷ H) i x u ≡ verb_on H i x u
new_verb width m H time u i x legal allowed =
    let a = new_operation width m H u legal allowed in verb_next width m H time (Intent u) i x u a.0 legal allowed a.1

new_on : (width m : ℕ) (H : List Event) (time : ℕ) (u : Tag) (i : ℕ) (x : Def) → IsLegalWithin width m H
    → IsAllowedWithin width m H (Intent u)
    → is_on (event time (Intent u) ∷ H) i x u ≡ is_on H i x u
unfolding is_on
new_on width m H time u i x legal allowed = ap is_some (new_verb width m H time u i x legal allowed)

-- the open attempts at it, once one more has begun
on_begun : (width m : ℕ) (H : List Event) (time : ℕ) (u : Tag) (i : ℕ) (x : Def) → IsLegalWithin width m H
    → IsAllowedWithin width m H (Intent u)
    → open_on (event time (Intent u) ∷ H) i x ≡ cond (is_on H i x u) (u ∷ open_on H i x) (open_on H i x)
unfolding is_unsettled
on_begun width m H time u i x legal allowed =
    let fresh : is_unsettled H u ≡ true = fresh_unsettled width m H legal u allowed.number in
    opened (is_unsettled H u) fresh ∙ here where
      opened : (b : Bool) → b ≡ true
          → filter (is_on (event time (Intent u) ∷ H) i x) (cond b (u ∷ open_tags H) (open_tags H))
          ≡ filter (is_on (event time (Intent u) ∷ H) i x) (u ∷ open_tags H)
      opened true e = refl
      opened false e = cc

      here : filter (is_on (event time (Intent u) ∷ H) i x) (u ∷ open_tags H) ≡ cond (is_on H i x u) (u ∷ open_on H i x) (open_on H i x)
      here =
          let rest = on_as width m H time (Intent u) i x (open_tags H) legal allowed (λ t h. open_known H t h) in
          let own = new_on width m H time u i x legal allowed in
          rw (own, rest) refl

-- an attempt that begins has no job yet
expects_intent : (width m : ℕ) (H : List Event) (time : ℕ) (u : Tag) (i : ℕ) (x : Def) (js : List Job) → IsSoundWithin width m H js
    → IsAllowedWithin width m H (Intent u)
    → Expects i x H js → Expects i x (event time (Intent u) ∷ H) js
unfolding effect_in
expects_intent width m H time u i x js sound allowed h =
    let begun = on_begun width m H time u i x sound.legal allowed in
    by_test (is_on H i x u)
    (λ here.
    let none : open_on H i x ≡ [] = none_on width m H i x u sound.legal allowed here in
    let opens : open_on (event time (Intent u) ∷ H) i x ≡ u ∷ [] =
    begun ∙ (ap (λ (b : Bool). cond b (u ∷ open_on H i x) (open_on H i x)) here ∙ ap (λ (ts : List Tag). u ∷ ts) none) in
    let undone : is_job_done js u ≡ false = ap (λ (p : Option Phase). option_map_or did_it p false)
    (fresh_job width m H u js sound allowed) in
    let before : stands_among H i x js ≡ stands H i x = subst (λ (ts : List Tag). stands_among H i x js
    ≡ expected (stands H i x) js (leaves H i x) ts) none h in
    subst (λ (ts : List Tag). stands_among (event time (Intent u) ∷ H) i x js
    ≡ expected (stands H i x) js (leaves (event time (Intent u) ∷ H) i x) ts) (sym opens)
    (among_next width m H time (Intent u) i x js sound allowed ∙ before
    ∙ ap (λ (b : Bool). if b then leaves (event time (Intent u) ∷ H) i x u else stands H i x) (sym undone)))
    (λ elsewhere.
    expects_other width m H time (Intent u) i x js sound allowed
    (begun ∙ ap (λ (b : Bool). cond b (u ∷ open_on H i x) (open_on H i x)) elsewhere) refl h)

-- at most one attempt is open at it
abbrev OneOrNone : List Tag → Type 0
OneOrNone ts = (ts ≡ []) ⊎ ((t : Tag) × (ts ≡ t ∷ []))

on_ended : (width m : ℕ) (H : List Event) (time : ℕ) (t : Tag) (out : Outcome) (i : ℕ) (x : Def) → IsLegalWithin width m H
    → IsAllowedWithin width m H (Settled t out)
    → open_on (event time (Settled t out) ∷ H) i x ≡ filter (another t) (open_on H i x)
on_ended width m H time t out i x legal allowed =
    ap (λ (ts : List Tag). filter (is_on (event time (Settled t out) ∷ H) i x) ts) (open_tags-settled H time t out)
    ∙ (on_as width m H time (Settled t out) i x (filter (another t) (open_tags H)) legal allowed
    (λ u h. open_known H u (of_filter (another t) u (open_tags H) h).0)
    ∙ filter_swap (is_on H i x) (another t) (open_tags H))

sole_ended : (t : Tag) (ts us : List Tag) → us ≡ filter (another t) ts → OneOrNone ts → OneOrNone us
sole_ended t ts us is (inl none) = inl (is ∙ ap (λ (v : List Tag). filter (another t) v) none)
sole_ended t ts us is (inr one) = by_test (another t one.0)
    (λ stays. inr (one.0, is ∙ (ap (λ (v : List Tag). filter (another t) v) one.1 ∙ rw stays refl)))
    (λ goes. inl (is ∙ (ap (λ (v : List Tag). filter (another t) v) one.1 ∙ rw goes refl)))

sole_step : (width m : ℕ) (H : List Event) (time : ℕ) (k : EventKind) (i : ℕ) (x : Def) → IsLegalWithin width m H
    → IsAllowedWithin width m H k → OneOrNone (open_on H i x)
    → OneOrNone (open_on (event time k ∷ H) i x)
unfolding is_unsettled
sole_step width m H time (Intent u) i x legal allowed h = by_test (is_on H i x u)
    (λ here. inr (
      u,
      on_begun width m H time u i x legal allowed ∙ (ap (λ (b : Bool). cond b (u ∷ open_on H i x) (open_on H i x)) here
          ∙ ap (λ (ts : List Tag). u ∷ ts) (none_on width m H i x u legal allowed here)),
    ))
    (λ elsewhere. subst (λ (ts : List Tag). OneOrNone ts)
    (sym (on_begun width m H time u i x legal allowed ∙ ap (λ (b : Bool). cond b (u ∷ open_on H i x) (open_on H i x)) elsewhere)) h)
sole_step width m H time (Settled t out) i x legal allowed h = sole_ended t (open_on H i x) _
    (on_ended width m H time t out i x legal allowed) h
sole_step width m H time k i x legal allowed h =
    subst (λ (ts : List Tag). OneOrNone ts) (sym (on_as width m H time k i x (open_tags H) legal allowed (λ t g. open_known H t g))) h

sole_on : (width m : ℕ) (H : List Event) → IsLegalWithin width m H → (i : ℕ) (x : Def) → OneOrNone (open_on H i x)
sole_on width m H legal i x =
    legal_induction width m (λ H. OneOrNone (open_on H i x)) (inl refl)
    (λ H time k legal allowed h. sole_step width m H time k i x legal allowed h) H legal

-- the open attempt at it is this one
its_own : (t : Tag) (ts : List Tag) → OneOrNone ts → IsIn t ts → ts ≡ t ∷ []
its_own t ts (inl none) h = absurd (subst (λ (v : List Tag). IsIn t v) none h)
its_own t ts (inr one) h = same (subst (λ (v : List Tag). IsIn t v) one.1 h) where
  same : IsIn t (one.0 ∷ []) → ts ≡ t ∷ []
  same (inl e) = one.1 ∙ ap (λ (u : Tag). u ∷ []) e
  same (inr g) = absurd g

-- what a test of an effect says of the attempt
on_test : (H : List Event) (i : ℕ) (x : Def) (t : Tag) (a : Operation) (k : Change) → operation H t.occ ≡ Some a
    → slice_get a.changes t.change ≡ Some k
    → is_on H i x t ≡ ((a.instance == i) && same_def k.def x)
unfolding is_on verb_on
on_test H i x t a k found is =
    ap (λ (o : Option Operation). is_some (option_and_then (verb_in i x t) o)) found ∙ by_instance (a.instance == i) where
      whether : (b : Bool) (v : Verb) → is_some (when b v) ≡ b
      whether true v = refl
      whether false v = refl

      by_instance : (b : Bool) → is_some (option_and_then (verb_for t x) (if b then slice_get a.changes t.change else None))
          ≡ (b && same_def k.def x)
      by_instance true = ap (λ (o : Option Change). is_some (option_and_then (verb_for t x) o)) is
          ∙ whether (same_def k.def x) (verb_done t.way k.verb)
      by_instance false = refl

-- an attempt elsewhere that ends leaves what stands of it
stands_elsewhere : (width m : ℕ) (H : List Event) (time : ℕ) (t : Tag) (out : Outcome) (i : ℕ) (x : Def) → IsLegalWithin width m H
    → is_open H t ≡ true → is_on H i x t ≡ false
    → stands (event time (Settled t out) ∷ H) i x ≡ stands H i x
stands_elsewhere width m H time t out i x legal opened elsewhere =
    let a = known_operation width m H t legal (open_known H t (any_in t (open_tags H) opened)) in
    elim (what_is_done H time t out a.0 a.1) [
      | inl nothing ↦ stands-nothing H time t out i x nothing.0
      | inr change ↦
          (let test = on_test H i x t a.0 change.1 a.1 change.3 in
          let fails : ((a.0.instance == i) && same_def change.1.def x) ≡ false = sym test ∙ elsewhere in
          stands-done H time t out i x (effect t change.0 a.0 change.1) change.4
          ∙ ap (λ (b : Bool). cond b (leaves_it (verb_done t.way change.1.verb)) (stands H i x)) fails)
    ]

-- an attempt at it that is done leaves it as its work does
stands_done_at : (H : List Event) (time : ℕ) (t : Tag) (name : List ℕ) (i : ℕ) (x : Def) (v : Verb) → verb_on H i x t ≡ Some v
    → stands (event time (Settled t (outcome.Done name)) ∷ H) i x ≡ leaves_it v
unfolding effect_in
stands_done_at H time t name i x v is =
    let at = verb_at H i x t v is in
    let a = at.operation_of in
    let k = at.change_at in
    let effect_is : effect_in H (Settled t (outcome.Done name)) ≡ Some (effect t name a k) = rw (at.found, at.is) refl in
    let both : ((a.instance == i) && same_def k.def x) ≡ true = two (a.instance == i) (same_def k.def x) (eq-eqb a.instance i at.instance)
    (subst (λ (y : Def). same_def k.def y ≡ true) at.def (same_def-refl k.def)) in
    stands-done H time t (outcome.Done name) i x (effect t name a k) effect_is
    ∙ (ap (λ (b : Bool). cond b (leaves_it (verb_done t.way k.verb)) (stands H i x)) both ∙ ap leaves_it (sym at.verb)) where
      two : (a b : Bool) → a ≡ true → b ≡ true → (a && b) ≡ true
      two true b e f = f
      two false b e f = cc

leaves_verb : (H : List Event) (i : ℕ) (x : Def) (t : Tag) (v : Verb) → verb_on H i x t ≡ Some v → leaves H i x t ≡ leaves_it v
unfolding leaves
leaves_verb H i x t v is = ap (λ (o : Option Verb). option_map_or leaves_it o false) is

-- the open attempt at it ends as its job has ended
ended_here : (H : List Event) (time : ℕ) (t : Tag) (out : Outcome) (i : ℕ) (x : Def) (js : List Job) (v : Verb) → verb_on H i x t ≡ Some v
    → Agrees out (phase_of t js)
    → (if is_job_done js t then leaves H i x t else stands H i x) ≡ stands (event time (Settled t out) ∷ H) i x
unfolding effect_in
ended_here H time t (outcome.Done name) i x js v is agreed =
    ap (λ (p : Option Phase). if option_map_or did_it p false then leaves H i x t else stands H i x) agreed
    ∙ (leaves_verb H i x t v is ∙ sym (stands_done_at H time t name i x v is))
ended_here H time t (outcome.Broken code) i x js v is agreed =
    broken (phase_of t js) agreed ∙ sym (stands-nothing H time t (outcome.Broken code) i x refl) where
      broken : (p : Option Phase) → IsNoneOrBroken p → (if option_map_or did_it p false then leaves H i x t else stands H i x)
          ≡ stands H i x
      broken None h = refl
      broken (Some (Broken code)) h = refl
      broken (Some Running) h = absurd h
      broken (Some (Done name)) h = absurd h
      broken (Some Aborted) h = absurd h
ended_here H time t outcome.Aborted i x js v is agreed =
    ap (λ (p : Option Phase). if option_map_or did_it p false then leaves H i x t else stands H i x) agreed
    ∙ sym (stands-nothing H time t outcome.Aborted i x refl)
ended_here H time t outcome.NotBegun i x js v is agreed =
    ap (λ (p : Option Phase). if option_map_or did_it p false then leaves H i x t else stands H i x) agreed
    ∙ sym (stands-nothing H time t outcome.NotBegun i x refl)

expects_settled : (width m : ℕ) (H : List Event) (time : ℕ) (t : Tag) (out : Outcome) (i : ℕ) (x : Def) (js : List Job)
    → IsSoundWithin width m H js
    → IsAllowedWithin width m H (Settled t out) → Agrees out (phase_of t js) → Expects i x H js
    → Expects i x (event time (Settled t out) ∷ H) js
expects_settled width m H time t out i x js sound allowed agreed h =
    let ends = on_ended width m H time t out i x sound.legal allowed in
    by_test (is_on H i x t)
    (λ here.
    let v = on_verb H i x t here in
    let among : IsIn t (open_on H i x) = in_filter (is_on H i x) t (open_tags H) (any_in t (open_tags H) allowed) here in
    let own : open_on H i x ≡ t ∷ [] = its_own t (open_on H i x) (sole_on width m H sound.legal i x) among in
    let none : open_on (event time (Settled t out) ∷ H) i x ≡ [] = ends ∙ (ap (λ (ts : List Tag). filter (another t) ts) own ∙ itself t) in
    let before : stands_among H i x js ≡ (if is_job_done js t then leaves H i x t else stands H i x) =
    subst (λ (ts : List Tag). stands_among H i x js ≡ expected (stands H i x) js (leaves H i x) ts) own h in
    subst (λ (ts : List Tag). stands_among (event time (Settled t out) ∷ H) i x js
    ≡ expected (stands (event time (Settled t out) ∷ H) i x) js (leaves (event time (Settled t out) ∷ H) i x) ts) (sym none)
    (among_next width m H time (Settled t out) i x js sound allowed ∙ before ∙ ended_here H time t out i x js v.0 v.1 agreed))
    (λ elsewhere.
    expects_other width m H time (Settled t out) i x js sound allowed
    (ends ∙ filter_same (is_on H i x) (another t) (open_tags H) (λ u on. apart t u elsewhere on))
    (stands_elsewhere width m H time t out i x sound.legal allowed elsewhere) h) where
      itself : (t : Tag) → filter (another t) (t ∷ []) ≡ []
      itself t = let own : same_tag t t ≡ true = same_tag-refl t in rw own refl

      apart : (t u : Tag) → is_on H i x t ≡ false → is_on H i x u ≡ true → another t u ≡ true
      apart t u off on = not-false (same_tag u t) (by_test (same_tag u t)
          (λ same. let is : u ≡ t = same_tag-true u t same in let both : is_on H i x t ≡ true =
          subst (λ (y : Tag). is_on H i x y ≡ true) is on in cc)
          (λ other. other))

expects_event : (width m : ℕ) (H : List Event) (time : ℕ) (k : EventKind) (i : ℕ) (x : Def) (js : List Job) → IsSoundWithin width m H js
    → IsAllowedWithin width m H k
    → FitsJobs k js → Expects i x H js → Expects i x (event time k ∷ H) js
unfolding is_unsettled effect_in
expects_event width m H time (Settled t out) i x js sound allowed agreed h =
    expects_settled width m H time t out i x js sound allowed agreed h
expects_event width m H time (Intent u) i x js sound allowed agreed h = expects_intent width m H time u i x js sound allowed h
expects_event width m H time k i x js sound allowed agreed h =
    expects_other width m H time k i x js sound allowed (on_as width m H time k i x (open_tags H) sound.legal allowed
    (λ t g. open_known H t g)) refl h

-- a job more in front
among_front : (H : List Event) (i : ℕ) (x : Def) (j : Job) (js : List Job)
    → stands_among H i x (j ∷ js) ≡ option_map_or leaves_it (if did_it j.phase then verb_on H i x j.tag else None) (stands_among H i x js)
unfolding verb_of_job
among_front H i x j js = by_verb (if did_it j.phase then verb_on H i x j.tag else None) where
  by_verb : (o : Option Verb) → option_map_or leaves_it (first (cons_option o (filter_map (verb_of_job H i x) js))) false
      ≡ option_map_or leaves_it o (stands_among H i x js)
  by_verb (Some v) = refl
  by_verb None = refl

front_elsewhere : (H : List Event) (i : ℕ) (x : Def) (j : Job) (js : List Job) → verb_on H i x j.tag ≡ None
    → stands_among H i x (j ∷ js) ≡ stands_among H i x js
front_elsewhere H i x j js none = among_front H i x j js ∙ either (did_it j.phase) (verb_on H i x j.tag) none where
  either : (b : Bool) (o : Option Verb) → o ≡ None → option_map_or leaves_it (if b then o else None) (stands_among H i x js)
      ≡ stands_among H i x js
  either true o e = ap (λ (p : Option Verb). option_map_or leaves_it p (stands_among H i x js)) e
  either false o e = refl

off_none : (H : List Event) (i : ℕ) (x : Def) (t : Tag) → is_on H i x t ≡ false → verb_on H i x t ≡ None
unfolding is_on
off_none H i x t e = by_verb (verb_on H i x t) refl e where
  by_verb : (o : Option Verb) → verb_on H i x t ≡ o → is_some o ≡ false → verb_on H i x t ≡ None
  by_verb None is h = is
  by_verb (Some v) is h = cc

-- a job of an attempt elsewhere changes nothing of what is expected
expected_jobs : (s : Bool) (j : Job) (js : List Job) (f : Tag → Bool) (ts : List Tag) → ((t : Tag) → IsIn t ts → same_tag t j.tag ≡ false)
    → expected s (j ∷ js) f ts ≡ expected s js f ts
expected_jobs s j js f [] h = refl
expected_jobs s j js f (t ∷ ts) h =
    ap (λ (p : Option Phase). if option_map_or did_it p false then f t else s) (phase_back t j js (h t (inl refl)))

expects_job : (width m : ℕ) (H : List Event) (time : ℕ) (j : Job) (i : ℕ) (x : Def) (js : List Job) → IsSoundWithin width m H js
    → IsAllowedWithin width m H (Intent j.tag)
    → Expects i x H js → Expects i x (event time (Intent j.tag) ∷ H) (j ∷ js)
unfolding effect_in
expects_job width m H time j i x js sound allowed h =
    let now : List Event = event time (Intent j.tag) ∷ H in
    let begun = on_begun width m H time j.tag i x sound.legal allowed in
    let verb = new_verb width m H time j.tag i x sound.legal allowed in
    by_test (is_on H i x j.tag)
    (λ here.
    let v = on_verb H i x j.tag here in
    let none : open_on H i x ≡ [] = none_on width m H i x j.tag sound.legal allowed here in
    let opens : open_on now i x ≡ j.tag ∷ [] = begun ∙ (ap (λ (b : Bool). cond b (j.tag ∷ open_on H i x) (open_on H i x)) here
    ∙ ap (λ (ts : List Tag). j.tag ∷ ts) none) in
    let before : stands_among H i x js ≡ stands H i x = subst (λ (ts : List Tag). stands_among H i x js
    ≡ expected (stands H i x) js (leaves H i x) ts) none h in
    let its : is_job_done (j ∷ js) j.tag ≡ did_it j.phase = ap (λ (p : Option Phase). option_map_or did_it p false)
    (phase_front j.tag j js (same_tag-refl j.tag)) in
    subst (λ (ts : List Tag). stands_among now i x (j ∷ js) ≡ expected (stands H i x) (j ∷ js) (leaves now i x) ts) (sym opens)
    (among_front now i x j js
    ∙ (whether (did_it j.phase) (verb_on now i x j.tag) v.0 (stands_among now i x js) (stands H i x) (leaves now i x j.tag) (verb ∙ v.1)
    (among_next width m H time (Intent j.tag) i x js sound allowed ∙ before) (leaves_verb now i x j.tag v.0 (verb ∙ v.1))
    ∙ ap (λ (b : Bool). if b then leaves now i x j.tag else stands H i x) (sym its))))
    (λ elsewhere.
    let none : verb_on now i x j.tag ≡ None = verb ∙ off_none H i x j.tag elsewhere in
    let opens : open_on now i x ≡ open_on H i x = begun ∙ ap (λ (b : Bool). cond b (j.tag ∷ open_on H i x) (open_on H i x)) elsewhere in
    front_elsewhere now i x j js none ∙ (expects_other width m H time (Intent j.tag) i x js sound allowed opens refl h
    ∙ sym (expected_jobs (stands H i x) j js (leaves now i x) (open_on now i x)
    (λ t among. apart t (of_filter (is_on H i x) t (open_tags H) (subst (λ (ts : List Tag). IsIn t ts) opens among)).1 elsewhere)))) where
      whether : (b : Bool) (o : Option Verb) (v : Verb) (r s l : Bool) → o ≡ Some v → r ≡ s → l ≡ leaves_it v
          → option_map_or leaves_it (if b then o else None) r ≡ (if b then l else s)
      whether true o v r s l is same left = ap (λ (p : Option Verb). option_map_or leaves_it p r) is ∙ sym left
      whether false o v r s l is same left = same

      apart : (t : Tag) → is_on H i x t ≡ true → is_on H i x j.tag ≡ false → same_tag t j.tag ≡ false
      apart t on off = by_test (same_tag t j.tag)
          (λ same. let is : t ≡ j.tag = same_tag-true t j.tag same in let both : is_on H i x j.tag ≡ true =
          subst (λ (y : Tag). is_on H i x y ≡ true) is on in cc)
          (λ other. other)

pub expects : (width m : ℕ) (H : List Event) (js : List Job) → IsSoundWithin width m H js → (i : ℕ) (x : Def) → Expects i x H js
expects width m H js sound i x =
    sound_induction width m (Expects i x) refl
    (λ H time k js sound allowed agreed h. expects_event width m H time k i x js sound allowed agreed h)
    (λ H time j js sound allowed work none h. expects_job width m H time j i x js sound allowed h) H js sound

-- no attempt is open at a definition of an instance without an operation that goes on
idle_open : (width m : ℕ) (H : List Event) → IsLegalWithin width m H → (i : ℕ) (x : Def) → ongoing H i ≡ [] → open_on H i x ≡ []
idle_open width m H legal i x idle = by_open (open_on H i x) refl where
  by_open : (ts : List Tag) → open_on H i x ≡ ts → ts ≡ []
  by_open [] is = refl
  by_open (u ∷ ts) is =
      let among : IsIn u (open_on H i x) = subst (λ (v : List Tag). IsIn u v) (sym is) (inl refl) in
      let from = of_filter (is_on H i x) u (open_tags H) among in
      let v = on_verb H i x u from.1 in
      let at = verb_at H i x u v.0 v.1 in
      let goes : is_final (state H u.occ) ≡ false = subst (λ (s : OpState). is_final s ≡ false)
      (sym (open_state width m H legal u (in_any u (open_tags H) from.0))) (works_on u.way) in
      absurd (idle_none H i u.occ at.operation_of idle at.found at.instance goes)

-- so nothing of it stands among the jobs
pub idle_stands : (width m : ℕ) (H : List Event) (js : List Job) → IsSoundWithin width m H js → (i : ℕ) → is_instantiated H i ≡ false
    → ongoing H i ≡ []
    → (x : Def) → stands_among H i x js ≡ false
idle_stands width m H js sound i not idle x =
    subst (λ (ts : List Tag). stands_among H i x js ≡ expected (stands H i x) js (leaves H i x) ts)
    (idle_open width m H sound.legal i x idle) (expects width m H js sound i x)
    ∙ idle_holds_nothing width m H sound.legal i not idle x
