-- What is needed, event by event, and that what an attempt is on is.
use Rattle.std.proofs.Common.{◌≡◌, ◌||◌, ◌==◌, ◌-◌, ◌∙◌, ◌⊎◌, ℕ, List, ◌∷◌, Bool, true, false, cond, not, Option, None, Some, refl, ap, sym}
use Rattle.std.proofs.Common.{subst, arith, inl, inr, slice_get, eqb-true, eq-eqb}
use Rattle.std.specs.Option.{option_map_or}
use Rattle.std.specs.Prelude.{option_and_then, option_map}
use Rattle.lcm_events.specs.Same.{same_def}
use Rattle.lcm_events.proofs.SameLaws.{same_def-true}
use Rattle.lcm_events.specs.declared.attempts.Outcome.{Outcome}
use Rattle.lcm_events.specs.declared.attempts.Outcome.TheVariants.{Done}
use Rattle.lcm_events.specs.declared.attempts.Tag.{Tag}
use Rattle.lcm_events.specs.declared.attempts.Way.{Way}
use Rattle.lcm_events.specs.declared.attempts.Way.TheVariants.{Forward, Undo}
use Rattle.lcm_events.specs.declared.changes.Change.{Change}
use Rattle.lcm_events.specs.declared.changes.Def.{Def}
use Rattle.lcm_events.specs.declared.changes.Verb.TheVariants.{Create}
use Rattle.lcm_events.specs.declared.events.Event.{Event}
use Rattle.lcm_events.specs.declared.events.EventKind.{EventKind}
use Rattle.lcm_events.specs.declared.events.EventKind.TheVariants.{Asked, Intent, Moved, Settled}
use Rattle.lcm_events.specs.declared.events.Operation.{Operation}
use Rattle.lcm_events.specs.declared.states.OpState.{OpState}
use Rattle.lcm_model.specs.declared.holding.Effect.{Effect}
use Rattle.lcm_model.specs.Allowed.{IsAllowedWithin, IsLegalWithin}
use Rattle.lcm_model.specs.Attempts.{done_count, is_open, net}
use Rattle.lcm_model.specs.Holding.{effect, effect_done, effect_in, effects, is_effect_on, leaves_it, stands}
use Rattle.lcm_model.specs.Moves.{is_final, state}
use Rattle.lcm_model.specs.Operations.{operation, verb_done}
use Rattle.lcm_model.specs.Words.{IsIn, first, told}
use Rattle.lcm_model.specs.Work.{net_before}
use Rattle.lcm_laws.proofs.AboutLaws.{unasked_untouched}
use Rattle.lcm_laws.proofs.BoundLaws.{moved_touched}
use Rattle.lcm_laws.proofs.Histories.{event, legal_induction}
use Rattle.lcm_laws.proofs.HoldLaws.{moved_from, one_value}
use Rattle.lcm_laws.proofs.Lists.{and_left, and_right, by_test, not-false}
use Rattle.lcm_laws.proofs.MakerLaws.{asked_stands}
use Rattle.lcm_laws.proofs.Members.{get_in, of_filter}
use Rattle.lcm_laws.proofs.NetLaws.{open_fits}
use Rattle.lcm_laws.proofs.NumberLaws.{found_exactly, operation-next}
use Rattle.lcm_laws.proofs.OngoingLaws.{state-moved}
use Rattle.lcm_laws.proofs.OrderLaws.{turn_at}
use Rattle.lcm_laws.proofs.SettledLaws.{net-other_change, net-other_occ, one_going, open_operation, what_is_done, works_on}
use Rattle.lcm_laws.proofs.StandLaws.{of_cons}
use Rattle.occ_table.proofs.KnownSteps.{first_of, on_own}
use Rattle.occ_table.proofs.RowsSteps.{none_there}
use Rattle.occ_table.specs.Needed.{is_going_on, is_needed}

-- where an effect comes from: a change of an operation
pub record Source (H : List Event) (y : Effect) : Type 0 where
  pub a : Operation
  pub c : Change
  pub found : operation H y.tag.occ ≡ Some a
  pub at : slice_get a.changes y.tag.change ≡ Some c
  pub instance : a.instance ≡ y.instance
  pub def : c.def ≡ y.def
  pub verb : y.verb ≡ verb_done y.tag.way c.verb

of_change : (H : List Event) (t : Tag) (name : List ℕ) (y : Effect) (a : Operation) (c : Option Change) → operation H t.occ ≡ Some a
    → slice_get a.changes t.change ≡ c → option_map (effect t name a) c ≡ Some y → Source H y
of_change H t name y a None found is e = cc
of_change H t name y a (Some c) found is e =
    let same : effect t name a c ≡ y = cc in
    subst (λ (z : Effect). Source H z) same (record { a = a; c = c; found = found; at = is; instance = refl; def = refl; verb = refl })

of_operation : (H : List Event) (t : Tag) (name : List ℕ) (y : Effect) (a : Option Operation) → operation H t.occ ≡ a
    → option_and_then (λ a. option_map (effect t name a) (slice_get a.changes t.change)) a ≡ Some y → Source H y
of_operation H t name y None found e = cc
of_operation H t name y (Some a) found e = of_change H t name y a (slice_get a.changes t.change) found refl e

-- where the effect of an attempt that ends comes from
pub of_outcome : (H : List Event) (t : Tag) (out : Outcome) (y : Effect) → effect_done H t out ≡ Some y → Source H y
of_outcome H t (Done name) y e = of_operation H t name y (operation H t.occ) refl e
of_outcome H t _ y e = cc

of_kind : (H : List Event) (k : EventKind) (y : Effect) → effect_in H k ≡ Some y → Source H y
unfolding effect_in
of_kind H (Settled t out) y e = of_outcome H t out y e
of_kind H _ y e = cc

source-next : (width m : ℕ) (H : List Event) (time : ℕ) (k : EventKind) (y : Effect) → IsLegalWithin width m H → IsAllowedWithin width m H k
    → Source H y
    → Source (event time k ∷ H) y
source-next width m H time k y legal allowed h =
    record {
      a = h.a;
      c = h.c;
      found = operation-next width m H time k y.tag.occ h.a legal allowed h.found;
      at = h.at;
      instance = h.instance;
      def = h.def;
      verb = h.verb;
    }

-- every effect comes from a change of an operation
source : (width m : ℕ) (H : List Event) → IsLegalWithin width m H → (y : Effect) → IsIn y (told effect_in H) → Source H y
source width m H legal =
    legal_induction width m (λ H. (y : Effect) → IsIn y (told effect_in H) → Source H y) (λ y among. absurd among)
    (λ H time k legal allowed h y among. source-next width m H time k y legal allowed
    (elim (of_cons y (effect_in H k) (told effect_in H) among) [
      | inl is ↦ of_kind H k y is
      | inr before ↦ h y before
    ])) H legal

-- where the last effect on a definition of an instance comes from
pub last_source : (width m : ℕ) (H : List Event) (i : ℕ) (x : Def) (y : Effect) → IsLegalWithin width m H → first (effects H i x) ≡ Some y
    → Source H y × (y.instance ≡ i) × (y.def ≡ x)
last_source width m H i x y legal is =
    let passed = of_filter (is_effect_on i x) y (told effect_in H) (first_of y (effects H i x) is) in (
      source width m H legal y passed.0,
      eqb-true y.instance i (and_left (y.instance == i) (same_def y.def x) passed.1),
      same_def-true y.def x (and_right (y.instance == i) (same_def y.def x) passed.1),
    )

-- whether a definition is needed, by its last effect
pub by_last : (H : List Event) (i : ℕ) (x : Def) (y : Effect) → first (effects H i x) ≡ Some y
    → is_needed H i x ≡ (leaves_it y.verb || is_going_on H y)
by_last H i x y e = rw e refl

pub by_none : (H : List Event) (i : ℕ) (x : Def) → first (effects H i x) ≡ None → is_needed H i x ≡ false
by_none H i x e = rw e refl

or_right : (a b : Bool) → b ≡ true → (a || b) ≡ true
or_right true b e = refl
or_right false b e = e

or_left : (a b : Bool) → a ≡ true → (a || b) ≡ true
or_left true b e = refl
or_left false b e = cc

-- whether something is needed that had these effects
abbrev needed_by : List Event → List Effect → Bool
needed_by H ys = option_map_or leaves_it (option_map (λ y. y.verb) (first ys)) false || option_map_or (is_going_on H) (first ys) false

-- an attempt that ends does nothing
effects-nothing : (H : List Event) (time : ℕ) (u : Tag) (out : Outcome) (i : ℕ) (x : Def) → effect_in H (Settled u out) ≡ None
    → effects (event time (Settled u out) ∷ H) i x ≡ effects H i x
effects-nothing H time u out i x e = rw e refl

pub needed-nothing : (H : List Event) (time : ℕ) (u : Tag) (out : Outcome) (i : ℕ) (x : Def) → effect_in H (Settled u out) ≡ None
    → is_needed (event time (Settled u out) ∷ H) i x ≡ is_needed H i x
needed-nothing H time u out i x e = ap (needed_by H) (effects-nothing H time u out i x e)

-- an attempt that ends did something
effects-done : (H : List Event) (time : ℕ) (u : Tag) (out : Outcome) (i : ℕ) (x : Def) (y : Effect) → effect_in H (Settled u out) ≡ Some y
    → effects (event time (Settled u out) ∷ H) i x ≡ cond (is_effect_on i x y) (y ∷ effects H i x) (effects H i x)
effects-done H time u out i x y e = rw e refl

pub needed-done : (H : List Event) (time : ℕ) (u : Tag) (out : Outcome) (i : ℕ) (x : Def) (y : Effect)
    → effect_in H (Settled u out) ≡ Some y
    → is_going_on H y ≡ true → is_needed (event time (Settled u out) ∷ H) i x ≡ cond (is_effect_on i x y) true (is_needed H i x)
needed-done H time u out i x y e goes =
    ap (needed_by H) (effects-done H time u out i x y e) ∙ by_test (is_effect_on i x y)
    (λ on. rw on (or_right (leaves_it y.verb) (is_going_on H y) goes))
    (λ off. rw off refl)

-- whether the occurrence of an effect goes on after a move
pub going-moved : (H : List Event) (time o : ℕ) (to : OpState) (y : Effect) → (o == y.tag.occ) ≡ true
    → is_going_on (event time (Moved o to) ∷ H) y ≡ not (is_final to)
going-moved H time o to y same = ap (λ (s : OpState). not (is_final s)) (state-moved H time y.tag.occ o to true same)

pub going-away : (H : List Event) (time o : ℕ) (to : OpState) (y : Effect) → (o == y.tag.occ) ≡ false
    → is_going_on (event time (Moved o to) ∷ H) y ≡ is_going_on H y
going-away H time o to y other = ap (λ (s : OpState). not (is_final s)) (state-moved H time y.tag.occ o to false other)

going_before : (H : List Event) (o : ℕ) (y : Effect) → (o == y.tag.occ) ≡ true → is_final (state H o) ≡ false → is_going_on H y ≡ true
going_before H o y same goes =
    not-false (is_final (state H y.tag.occ)) (subst (λ (n : ℕ). is_final (state H n) ≡ false) (eqb-true o y.tag.occ same) goes)

-- what an occurrence that moves had an effect on last is needed before
pub needed_before : (H : List Event) (o : ℕ) (i : ℕ) (x : Def) (y : Effect) → first (effects H i x) ≡ Some y → (o == y.tag.occ) ≡ true
    → is_final (state H o) ≡ false
    → is_needed H i x ≡ true
needed_before H o i x y is same goes = by_last H i x y is ∙ or_right (leaves_it y.verb) (is_going_on H y) (going_before H o y same goes)

-- two occurrences of one instance that go on are one
pub sole_going : (width m : ℕ) (H : List Event) (i o : ℕ) (a : Operation) (x : Def) (y : Effect) → IsLegalWithin width m H
    → operation H o ≡ Some a → a.instance ≡ i
    → is_final (state H o) ≡ false → first (effects H i x) ≡ Some y → is_final (state H y.tag.occ) ≡ false → (o == y.tag.occ) ≡ true
sole_going width m H i o a x y legal found at goes is still =
    let from = last_source width m H i x y legal is in
    let one : y.tag.occ ≡ o = one_going width m H i o y.tag.occ a from.0.a legal found at goes from.0.found
    (from.0.instance ∙ from.1) still in
    eq-eqb o y.tag.occ (sym one)

-- a move leaves needed what is needed of an instance with an operation that goes on after it
moved_needed : (width m : ℕ) (H : List Event) (time occ : ℕ) (to : OpState) (i o : ℕ) (a : Operation) (x : Def) (last : Option Effect)
    → IsLegalWithin width m H
    → IsAllowedWithin width m H (Moved occ to) → operation H o ≡ Some a → a.instance ≡ i
    → is_final (state (event time (Moved occ to) ∷ H) o) ≡ false
    → first (effects H i x) ≡ last → is_needed H i x ≡ true → is_needed (event time (Moved occ to) ∷ H) i x ≡ true
unfolding effect_in
moved_needed width m H time occ to i o a x None legal allowed found at goes is need =
    let clash : true ≡ false = sym need ∙ by_none H i x is in cc
moved_needed width m H time occ to i o a x (Some y) legal allowed found at goes is need =
    by_last (event time (Moved occ to) ∷ H) i x y is ∙ by_test (occ == y.tag.occ)
    (λ same.
    let moves : is_final (state H occ) ≡ false = moved_from H occ to allowed.1 in
    let before : is_final (state H o) ≡ false = moved_touched H time occ to o moves goes in
    let its : is_final (state H y.tag.occ) ≡ false = subst (λ (n : ℕ). is_final (state H n) ≡ false) (eqb-true occ y.tag.occ same) moves in
    let one : o ≡ y.tag.occ = eqb-true o y.tag.occ (sole_going width m H i o a x y legal found at before is its) in
    let own : is_final (state (event time (Moved occ to) ∷ H) y.tag.occ) ≡ false =
    subst (λ (n : ℕ). is_final (state (event time (Moved occ to) ∷ H) n) ≡ false) one goes in
    or_right (leaves_it y.verb) _ (not-false (is_final (state (event time (Moved occ to) ∷ H) y.tag.occ)) own))
    (λ other. ap (λ (b : Bool). leaves_it y.verb || b) (going-away H time occ to y other) ∙ (sym (by_last H i x y is) ∙ need))

-- of an operation that goes on what it is to remove, start or stop is needed, and what it did and hasn't undone
abbrev IsOnNeeded : List Event → Type 0
IsOnNeeded H =
    (o : ℕ) (a : Operation) → operation H o ≡ Some a → is_final (state H o) ≡ false → (c : ℕ) (k : Change) → slice_get a.changes c ≡ Some k
    → (k.verb ≡ Create → ⊥) ⊎ (net H o c ≡ 1) → is_needed H a.instance k.def ≡ true

why_before : (H : List Event) (o c n : ℕ) (k : Change) → n ≡ net H o c → (k.verb ≡ Create → ⊥) ⊎ (n ≡ 1)
    → (k.verb ≡ Create → ⊥) ⊎ (net H o c ≡ 1)
why_before H o c n k same (inl other) = inl other
why_before H o c n k same (inr made) = inr (sym same ∙ made)

-- a change of the operation of an attempt, where the attempt did something to it
own_effect : (u : Tag) (name : List ℕ) (a b : Operation) (j k : Change) → a ≡ b → j ≡ k
    → is_effect_on a.instance k.def (effect u name b j) ≡ true
own_effect u name a b j k one same =
    subst (λ (z : Operation). is_effect_on z.instance k.def (effect u name b j) ≡ true) (sym one)
    (subst (λ (z : Change). is_effect_on b.instance z.def (effect u name b j) ≡ true) same (on_own (effect u name b j)))

settled_on : (width m : ℕ) (H : List Event) (time : ℕ) (u : Tag) (out : Outcome) → IsLegalWithin width m H → is_open H u ≡ true
    → IsOnNeeded H
    → IsOnNeeded (event time (Settled u out) ∷ H)
settled_on width m H time u out legal opened h o a found goes c k at why =
    let mine = open_operation width m H u legal opened in
    let own : (u.occ == o) ≡ true → mine.0 ≡ a =
    λ same. one_value (operation H u.occ) mine.0 a mine.1 (subst (λ (n : ℕ). operation H n ≡ Some a) (sym (eqb-true u.occ o same)) found) in
    elim (what_is_done H time u out mine.0 mine.1) [
      | inl nothing ↦
          (let nets : net (event time (Settled u out) ∷ H) o c ≡ net H o c = by_test (u.occ == o)
          (λ same.
          let there : slice_get mine.0.changes c ≡ Some k = subst (λ (z : Operation). slice_get z.changes c ≡ Some k) (sym (own same)) at in
          subst (λ (n : ℕ). net (event time (Settled u out) ∷ H) n c ≡ net H n c) (eqb-true u.occ o same) (nothing.1 c k there))
          (λ other. net-other_occ H time u out o c other) in
          needed-nothing H time u out a.instance k.def nothing.0
          ∙ h o a found goes c k at (why_before H o c (net (event time (Settled u out) ∷ H) o c) k nets why))
      | inr change ↦
          (let y : Effect = effect u change.0 mine.0 change.1 in
          needed-done H time u out a.instance k.def y change.4 (not-false (is_final (state H u.occ)) mine.2)
          ∙ by_test (is_effect_on a.instance k.def y)
          (λ on. rw on refl)
          (λ off.
          let nets : net (event time (Settled u out) ∷ H) o c ≡ net H o c = by_test (u.occ == o)
          (λ same. by_test (u.change == c)
          (λ one.
          let there : slice_get mine.0.changes u.change ≡ Some k =
          subst (λ (z : Operation). slice_get z.changes u.change ≡ Some k) (sym (own same))
          (subst (λ (n : ℕ). slice_get a.changes n ≡ Some k) (sym (eqb-true u.change c one)) at) in
          let on : is_effect_on a.instance k.def y ≡ true =
          own_effect u change.0 a mine.0 change.1 k (sym (own same)) (one_value
          (slice_get mine.0.changes u.change) change.1 k change.3 there) in
          let clash : true ≡ false = sym on ∙ off in cc)
          (λ other. net-other_change H time u out o c other))
          (λ other. net-other_occ H time u out o c other) in
          rw off (h o a found goes c k at (why_before H o c (net (event time (Settled u out) ∷ H) o c) k nets why))))
    ]

asked_on : (width m : ℕ) (H : List Event) (time : ℕ) (b : Operation) → IsLegalWithin width m H → IsAllowedWithin width m H (Asked b)
    → IsOnNeeded H
    → IsOnNeeded (event time (Asked b) ∷ H)
unfolding effect_in
asked_on width m H time b legal allowed h o a found goes c k at why = by_test (b.occ == o)
    (λ same.
    let is : Some b ≡ Some a = subst (λ (t : Bool). cond t (Some b) (operation H o) ≡ Some a) same found in
    let one : b ≡ a = cc in
    let number : b.occ ≡ o = eqb-true b.occ o same in
    elim why [
      | inl other ↦
          (let has : slice_get b.changes c ≡ Some k = subst (λ (z : Operation). slice_get z.changes c ≡ Some k) (sym one) at in
          let there : stands H b.instance k.def ≡ true = asked_stands width m H b allowed k (get_in k b.changes c has) other in
          or_left (stands H a.instance k.def) _ (subst (λ (z : Operation). stands H z.instance k.def ≡ true) one there))
      | inr made ↦
          (let none : operation H o ≡ None = none_there (operation H o) (λ there.
          let high = ((found_exactly width m H legal o).0 there).1 in omega (arith, high, allowed.number, number)) in
          let still = unasked_untouched width m H legal o none in
          let never : done_count Forward H o c ≡ 0 = still.none_done Forward c in
          let nothing : done_count Forward H o c - done_count Undo H o c ≡ 1 = made in
          absurd (omega (arith, never, nothing)))
    ])
    (λ other.
    let before : operation H o ≡ Some a = subst (λ (t : Bool). cond t (Some b) (operation H o) ≡ Some a) other found in
    h o a before goes c k at why)

moved_on : (width m : ℕ) (H : List Event) (time occ : ℕ) (to : OpState) → IsLegalWithin width m H → IsAllowedWithin width m H (Moved occ to)
    → IsOnNeeded H
    → IsOnNeeded (event time (Moved occ to) ∷ H)
moved_on width m H time occ to legal allowed h o a found goes c k at why =
    moved_needed width m H time occ to a.instance o a k.def (first (effects H a.instance k.def)) legal allowed found refl goes refl
    (h o a found (moved_touched H time occ to o (moved_from H occ to allowed.1) goes) c k at why)

on_step : (width m : ℕ) (H : List Event) (time : ℕ) (k : EventKind) → IsLegalWithin width m H → IsAllowedWithin width m H k → IsOnNeeded H
    → IsOnNeeded (event time k ∷ H)
unfolding effect_in
on_step width m H time (Settled u out) legal allowed h = settled_on width m H time u out legal allowed h
on_step width m H time (Asked b) legal allowed h = asked_on width m H time b legal allowed h
on_step width m H time (Moved occ to) legal allowed h = moved_on width m H time occ to legal allowed h
on_step width m H time _ legal allowed h = h

on_needed : (width m : ℕ) (H : List Event) → IsLegalWithin width m H → IsOnNeeded H
on_needed width m H legal =
    legal_induction width m IsOnNeeded (λ o a found. cc) (λ H time k legal allowed h. on_step width m H time k legal allowed h) H legal

-- why the change of an attempt is on what is needed
why_on : (H : List Event) (t : Tag) (k : Change) (way : Way) → t.way ≡ way → net H t.occ t.change ≡ net_before t.way
    → (t.way ≡ Forward → k.verb ≡ Create → ⊥)
    → (k.verb ≡ Create → ⊥) ⊎ (net H t.occ t.change ≡ 1)
why_on H t k Forward is net other = inl (other is)
why_on H t k Undo is net other = inr (net ∙ ap net_before is)

-- what an open attempt is on is needed, unless it is to be made
pub open_on_needed : (width m : ℕ) (H : List Event) (t : Tag) → IsLegalWithin width m H → is_open H t ≡ true → (a : Operation) (k : Change)
    → operation H t.occ ≡ Some a
    → slice_get a.changes t.change ≡ Some k → (t.way ≡ Forward → k.verb ≡ Create → ⊥) → is_needed H a.instance k.def ≡ true
open_on_needed width m H t legal opened a k found at other =
    on_needed width m H legal t.occ a found (open_operation width m H t legal opened).2 t.change k at
    (why_on H t k t.way refl (open_fits width m H legal t opened) other)

-- and so is what an attempt is on that may begin
pub work_on_needed : (width m : ℕ) (H : List Event) (t : Tag) → IsLegalWithin width m H → IsAllowedWithin width m H (Intent t)
    → (a : Operation) (k : Change)
    → operation H t.occ ≡ Some a → slice_get a.changes t.change ≡ Some k → (t.way ≡ Forward → k.verb ≡ Create → ⊥)
    → is_needed H a.instance k.def ≡ true
work_on_needed width m H t legal allowed a k found at other =
    on_needed width m H legal t.occ a found (subst (λ (s : OpState). is_final s ≡ false) (sym allowed.works) (works_on t.way)) t.change k at
    (why_on H t k t.way refl (turn_at width m H t a k allowed found at).0 other)
