-- The events of the next action are allowed.
use Rattle.std.proofs.Common.{◌≡◌, ◌≤◌, ◌<◌, ◌+◌, ◌&&◌, ◌||◌, ◌==◌, ◌∙◌, ℕ, List, [], ◌∷◌, Bool, true, false, not, Option, None, Some}
use Rattle.std.proofs.Common.{is_some, refl, ap, sym, subst, length, arith, zero, suc, inl, inr, ◌⊎◌, filter, ltb, ltb-true, eqb-true}
use Rattle.std.proofs.Common.{eq-eqb, false-eqb, slice_get, unwrap_or, ◌≢◌}
use Rattle.std.specs.List.{enumerate_from, list_all, range_with_len}
use Rattle.std.specs.Option.{option_map_or}
use Rattle.std.specs.Prelude.{option_and_then, option_map}
use Rattle.lcm_events.specs.Same.{same_tag}
use Rattle.lcm_events.proofs.SameLaws.{same_tag-refl}
use Rattle.lcm_events.specs.declared.attempts.Tag.{Tag}
use Rattle.lcm_events.specs.declared.attempts.Way.{Way}
use Rattle.lcm_events.specs.declared.attempts.Way.TheVariants.{Forward, Undo}
use Rattle.lcm_events.specs.declared.changes.Change.{Change}
use Rattle.lcm_events.specs.declared.descriptor.Vnfd.{Vnfd}
use Rattle.lcm_events.specs.declared.events.Event.{Event}
use Rattle.lcm_events.specs.declared.events.EventKind.{EventKind}
use Rattle.lcm_events.specs.declared.events.EventKind.TheVariants.{Asked}
use Rattle.lcm_events.specs.declared.events.Operation.{Operation}
use Rattle.lcm_events.specs.declared.states.OpState.{OpState}
use Rattle.lcm_events.specs.declared.states.OpState.TheVariants.{Completed, FailedTemp, Processing, RolledBack, RollingBack, Starting}
use Rattle.lcm_model.specs.declared.actions.Action.{Action}
use Rattle.lcm_model.specs.declared.actions.Action.TheVariants.{AbortAndLook, AskForGrant, Look, MoveTo, Poll}
use Rattle.lcm_model.specs.Words.{IsIn, first, first_some, last, when}
use Rattle.lcm_model.specs.Moves.{is_active, state}
use Rattle.lcm_model.specs.Attempts.{is_of, is_of_occurrence, is_open, net, open_attempts, open_of, open_tags}
use Rattle.lcm_model.specs.Operations.{changes, operation, operations}
use Rattle.lcm_model.specs.Grants.{has_ended, is_granted, location}
use Rattle.lcm_model.specs.Since.{has_trouble, is_cancelled, is_forced}
use Rattle.lcm_model.specs.Planned.{is_before}
use Rattle.lcm_model.specs.Refusals.{case_in, situation}
use Rattle.lcm_model.specs.Work.{HasStopped, IsQuiet, IsTurnOf, MayBeginWithin, MayMove, all_have_net, all_through, gives_up, goes_before}
use Rattle.lcm_model.specs.Work.{has_net, is_through, net_after, net_before, window, works_in}
use Rattle.lcm_model.specs.Allowed.{IsAllowedWithin, IsAsking, IsLegalWithin, IsPlanOf}
use Rattle.lcm_model.specs.Lives.{descriptor}
use Rattle.lcm_model.specs.Next.{Answer, BeginFailed, BeginRefused, BeginTaken, GrantCame, GrantDenied, GrantLater, GrantMissesSome}
use Rattle.lcm_model.specs.Next.{GrantTrouble, LookedAborted, LookedAbsent, LookedBroken, LookedDone, appended, begin_of, beginning, chosen}
use Rattle.lcm_model.specs.Next.{end_of, first_open, free, goes_on, granting, is_at_net, is_free, is_none_open, looking, new_tag}
use Rattle.lcm_model.specs.Next.{next_action, next_at_work, next_in, next_while_asking, only_when, polling, with_net}
use Rattle.lcm_laws.specs.Acting.{IsAnswer, with_events}
use Rattle.lcm_laws.proofs.Histories.{event, legal_induction}
use Rattle.lcm_laws.proofs.Lists.{first-nil, and_left, and_right, and_true, by_test}
use Rattle.lcm_laws.proofs.Members.{any_in, get_in, get_within, Less, Rises, in_filter, in_map, in_range, of_filter, of_map, of_range}
use Rattle.lcm_laws.proofs.Members.{rises_filter, rises_range}
use Rattle.lcm_laws.proofs.FreshLaws.{fresh_open, fresh_unfailed}
use Rattle.lcm_laws.proofs.NetLaws.{made_at_most_once}
use Rattle.lcm_laws.proofs.PlanHistory.{descriptor_valid, found_in}
use Rattle.lcm_laws.proofs.PlanOrder.{Before, plan_rises}

-- the first line of a table that applies
pick_when : {A : Type 0} → (b : Bool) (x y : A) (lines : List (Option A)) → first_some (when b x ∷ lines) ≡ Some y
    → ((b ≡ true) × (x ≡ y)) ⊎ ((b ≡ false) × (first_some lines ≡ Some y))
pick_when true x y lines e = inl (refl, cc)
pick_when false x y lines e = inr (refl, e)

pick_map : {A B : Type 0} → (f : A → B) (o : Option A) (y : B) (lines : List (Option B)) → first_some (option_map f o ∷ lines) ≡ Some y
    → ((z : A) × (o ≡ Some z) × (f z ≡ y)) ⊎ ((o ≡ None) × (first_some lines ≡ Some y))
pick_map f (Some z) y lines e = inl (z, refl, cc)
pick_map f None y lines e = inr (refl, e)

or_left_false : (a b : Bool) → (a || b) ≡ false → a ≡ false
or_left_false true b e = e
or_left_false false b e = refl

or_right_false : (a b : Bool) → (a || b) ≡ false → b ≡ false
or_right_false true b e = cc
or_right_false false b e = e

not_both : (a b : Bool) → (a && b) ≡ false → b ≡ true → a ≡ false
not_both true b e h = cc
not_both false b e h = refl

not_both_second : (a b : Bool) → (a && b) ≡ false → a ≡ true → b ≡ false
not_both_second true b e h = e
not_both_second false b e h = cc

-- ask, and poll
is_asking : (H : List Event) (o : ℕ) → is_some (operation H o) ≡ true → state H o ≡ Starting → gives_up H o ≡ false → is_granted H o ≡ false
    → IsAsking H o
is_asking H o asked starting stays ungranted = record {
  asked = asked;
  starting = starting;
  goes_on =
      not_both (has_ended H o) (not (is_granted H o))
      (or_right_false (is_forced H o) (has_ended H o && not (is_granted H o))
      (or_left_false (is_forced H o || (has_ended H o && not (is_granted H o))) (is_granted H o && is_cancelled H o) stays))
      (rw ungranted refl);
  not_forced =
      or_left_false (is_forced H o) (has_ended H o && not (is_granted H o))
      (or_left_false (is_forced H o || (has_ended H o && not (is_granted H o))) (is_granted H o && is_cancelled H o) stays);
}

legal_granting : (width m : ℕ) (H : List Event) (o now : ℕ) (answer : Answer) → IsLegalWithin width m H → IsAsking H o → location H o ≡ None
    → IsAnswer H o answer
    → IsLegalWithin width m (with_events now (granting o answer) H)
legal_granting width m H o now (GrantCame grant places spots) legal asking none answer =
    (record { asking = asking; named = answer.0; placed = answer.1 }, legal)
legal_granting width m H o now GrantMissesSome legal asking none answer = ((asking, tt), legal)
legal_granting width m H o now GrantDenied legal asking none answer = (asking, legal)
legal_granting width m H o now GrantTrouble legal asking none answer = ((asking, tt), legal)
legal_granting width m H o now (GrantLater (Some at)) legal asking none answer = ((asking, none), legal)
legal_granting width m H o now (GrantLater None) legal asking none answer = ((asking, tt), legal)
legal_granting width m H o now _ legal asking none answer = legal

legal_polling : (width m : ℕ) (H : List Event) (o now : ℕ) (answer : Answer) → IsLegalWithin width m H → IsAsking H o → IsAnswer H o answer
    → IsLegalWithin width m (with_events now (polling o answer) H)
legal_polling width m H o now (GrantCame grant places spots) legal asking answer =
    (record { asking = asking; named = answer.0; placed = answer.1 }, legal)
legal_polling width m H o now GrantMissesSome legal asking answer = ((asking, tt), legal)
legal_polling width m H o now GrantDenied legal asking answer = (asking, legal)
legal_polling width m H o now GrantTrouble legal asking answer = ((asking, tt), legal)
legal_polling width m H o now _ legal asking answer = legal

-- what the law says of an action
abbrev IsFine : ℕ → ℕ → List Event → ℕ → ℕ → Answer → Action → Type 0
IsFine width m H o now answer action = IsLegalWithin width m (with_events now (appended o action answer) H)

may_move_in : (H : List Event) (o : ℕ) (from to : OpState) → state H o ≡ from → MayMove H o from to → MayMove H o (state H o) to
may_move_in H o from to is may = subst (λ (s : OpState). MayMove H o s to) (sym is) may

fine_move : (width m : ℕ) (H : List Event) (o now : ℕ) (answer : Answer) (from to : OpState) → IsLegalWithin width m H
    → is_some (operation H o) ≡ true
    → state H o ≡ from → MayMove H o from to → IsFine width m H o now answer (MoveTo to)
fine_move width m H o now answer from to legal asked is may = ((asked, may_move_in H o from to is may), legal)

none_known : {A : Type 0} → (o : Option A) → is_some o ≡ false → o ≡ None
none_known None e = refl
none_known (Some x) e = cc

fine_starting : (width m : ℕ) (H : List Event) (o now : ℕ) (answer : Answer) (action : Action) → IsLegalWithin width m H
    → is_some (operation H o) ≡ true
    → state H o ≡ Starting → IsAnswer H o answer → next_while_asking H o ≡ Some action → IsFine width m H o now answer action
fine_starting width m H o now answer action legal asked is good e = give_up (pick_when (gives_up H o) (MoveTo RolledBack) action _ e) where
  ask : gives_up H o ≡ false → is_granted H o ≡ false → ((is_some (location H o) ≡ true) × (Poll ≡ action))
      ⊎ ((is_some (location H o) ≡ false) × (first_some (Some AskForGrant ∷ []) ≡ Some action)) → IsFine width m H o now answer action
  ask stays ungranted (inl h) =
      subst (λ (a : Action). IsFine width m H o now answer a) h.1 (legal_polling width m H o now answer legal
      (is_asking H o asked is stays ungranted) good)
  ask stays ungranted (inr h) =
      let same : AskForGrant ≡ action = cc in
      subst (λ (a : Action). IsFine width m H o now answer a) same
      (legal_granting width m H o now answer legal (is_asking H o asked is stays ungranted) (none_known (location H o) h.0) good)

  grant : gives_up H o ≡ false → ((is_granted H o ≡ true) × (MoveTo Processing ≡ action))
      ⊎ ((is_granted H o ≡ false) × (first_some (when (is_some (location H o)) Poll ∷ Some AskForGrant ∷ []) ≡ Some action))
      → IsFine width m H o now answer action
  grant stays (inl h) =
      let uncancelled : is_cancelled H o ≡ false =
      not_both_second (is_granted H o) (is_cancelled H o)
      (or_right_false (is_forced H o || (has_ended H o && not (is_granted H o))) (is_granted H o && is_cancelled H o) stays) h.0 in
      subst (λ (a : Action). IsFine width m H o now answer a) h.1 (fine_move width m H o now answer Starting Processing legal asked is
      (h.0, uncancelled))
  grant stays (inr h) = ask stays h.0 (pick_when (is_some (location H o)) Poll action _ h.1)

  give_up : ((gives_up H o ≡ true) × (MoveTo RolledBack ≡ action))
      ⊎ ((gives_up H o ≡ false) × (first_some (when (is_granted H o) (MoveTo Processing) ∷ when (is_some (location H o)) Poll
      ∷ Some AskForGrant ∷ []) ≡ Some action))
      → IsFine width m H o now answer action
  give_up (inl h) = subst (λ (a : Action). IsFine width m H o now answer a) h.1
      (fine_move width m H o now answer Starting RolledBack legal asked is h.0)
  give_up (inr h) = grant h.0 (pick_when (is_granted H o) (MoveTo Processing) action _ h.1)

-- look
last_in : {A : Type 0} → (x : A) (xs : List A) → last xs ≡ Some x → IsIn x xs
last_in x [] e = cc
last_in x (y ∷ xs) e = onward (last xs) refl (λ h. last_in x xs h) e where
  onward : (o : Option _) → last xs ≡ o → (last xs ≡ Some x → IsIn x xs) → Some (unwrap_or o y) ≡ Some x → IsIn x (y ∷ xs)
  onward None is rest e = inl cc
  onward (Some z) is rest e = let same : z ≡ x = cc in inr (rest (is ∙ ap Some same))

last-none : {A : Type 0} → (xs : List A) → last xs ≡ None → xs ≡ []
last-none [] e = refl
last-none (x ∷ xs) e = cc

first_in : {A : Type 0} → (x : A) (xs : List A) → first xs ≡ Some x → IsIn x xs
first_in x [] e = cc
first_in x (y ∷ xs) e = inl cc

legal_looking : (width m : ℕ) (H : List Event) (now : ℕ) (t : Tag) (answer : Answer) → IsLegalWithin width m H → is_open H t ≡ true
    → IsLegalWithin width m (with_events now (looking t answer) H)
legal_looking width m H now t (LookedDone name) legal h = (h, legal)
legal_looking width m H now t (LookedBroken code) legal h = (h, legal)
legal_looking width m H now t LookedAborted legal h = (h, legal)
legal_looking width m H now t LookedAbsent legal h = (h, legal)
legal_looking width m H now t _ legal h = legal

first_open-open : (H : List Event) (o : ℕ) (t : Tag) → first_open H o ≡ Some t → is_open H t ≡ true
first_open-open H o t e =
    any_in (same_tag t) t (open_tags H) (of_filter (is_of_occurrence o) t (open_tags H) (last_in t (open_of H o) e)).0 (same_tag-refl t)

-- the changes of an operation are in order
abbrev Sorted : List Event → Type 0
Sorted H = (a : Operation) → IsIn a (operations H) → Rises Before a.changes

asked_sorted : (width m : ℕ) (H : List Event) (a : Operation) → IsLegalWithin width m H → (d : Option Vnfd) → descriptor H a.instance ≡ d
    → IsPlanOf H a d → Rises Before a.changes
asked_sorted width m H a legal None is h = absurd h
asked_sorted width m H a legal (Some d) is h =
    subst (λ (xs : List Change). Rises Before xs) (sym h.1)
    (plan_rises (case_in d (situation d H a.instance) a.ask) (descriptor_valid width m H a.instance d legal is))

sorted_step : (width m : ℕ) (H : List Event) (time : ℕ) (k : EventKind) → IsLegalWithin width m H → IsAllowedWithin width m H k → Sorted H
    → Sorted (event time k ∷ H)
sorted_step width m H time (Asked b) legal allowed h a (inl e) =
    subst (λ (z : Operation). Rises Before z.changes) e (asked_sorted width m H b legal (descriptor H b.instance) refl allowed.planned)
sorted_step width m H time (Asked b) legal allowed h a (inr g) = h a g
sorted_step width m H time _ legal allowed h a g = h a g

sorted : (width m : ℕ) (H : List Event) → IsLegalWithin width m H → Sorted H
sorted width m H legal = legal_induction width m Sorted (λ a h. absurd h)
    (λ H time k legal allowed h. sorted_step width m H time k legal allowed h) H legal

changes_rise : (width m : ℕ) (H : List Event) (o : ℕ) → IsLegalWithin width m H → Rises Before (changes H o)
changes_rise width m H o legal = rise (operation H o) refl where
  rise : (a : Option Operation) → operation H o ≡ a → Rises Before (option_map_or (λ a. a.changes) a [])
  rise None is = tt
  rise (Some a) is = sorted width m H legal a (found_in (λ b. b.occ == o) (operations H) a is)

-- of two entries the one further on comes later
pub rises_get : {A : Type 0} → (R : A → A → Type 0) (xs : List A) (i j : ℕ) (x y : A) → Rises R xs → slice_get xs i ≡ Some x
    → slice_get xs j ≡ Some y → i < j → R x y
rises_get R [] i j x y h ex ey less = cc
rises_get R (z ∷ xs) i zero x y h ex ey less = absurd (omega (arith, less))
rises_get {A} R (z ∷ xs) zero (suc j) x y h ex ey less =
    let is : z ≡ x = cc in subst (λ (w : A). R w y) is (h.0 y (get_in y xs j ey))
rises_get R (z ∷ xs) (suc i) (suc j) x y h ex ey less = rises_get R xs i j x y h.1 ex ey (omega (arith, less))

before_phase : (x y : Change) → Before x y → x.phase ≤ y.phase
before_phase x y h = by_test (ltb x.phase y.phase)
    (λ less. let n = ltb-true x.phase y.phase less in omega (arith, n))
    (λ other.
    let rest : ((x.phase == y.phase) && is_before (x.def.vdu ∷ x.def.serial ∷ x.def.item ∷ []) (y.def.vdu ∷ y.def.serial ∷ y.def.item ∷ []))
    ≡ true =
    subst (λ (b : Bool). (b || ((x.phase == y.phase) && is_before (x.def.vdu ∷ x.def.serial ∷ x.def.item ∷ [])
    (y.def.vdu ∷ y.def.serial ∷ y.def.item ∷ []))) ≡ true) other h in
    let same = eqb-true x.phase y.phase (and_left (x.phase == y.phase) _ rest) in omega (arith, same))

-- a test of entries with their places that each passes
all_placed : {A : Type 0} → (p : ℕ × A → Bool) (k : ℕ) (xs : List A) → ((j : ℕ) (y : A) → slice_get xs j ≡ Some y → p (k + j, y) ≡ true)
    → list_all p (enumerate_from k xs) ≡ true
all_placed p k [] f = refl
all_placed {A} p k (x ∷ xs) f =
    let here : p (k, x) ≡ true = (let same : k + 0 ≡ k = omega arith in subst (λ (n : ℕ). p (n, x) ≡ true) same (f 0 x refl)) in
    and_true (p (k, x)) (list_all p (enumerate_from (k + 1) xs)) here
    (all_placed p (k + 1) xs (λ j y e.
    let same : k + suc j ≡ (k + 1) + j = omega arith in subst (λ (n : ℕ). p (n, y) ≡ true) same (f (suc j) y e)))

get_missing : {A : Type 0} → (xs : List A) (n : ℕ) → n < length xs → slice_get xs n ≡ None → ⊥
get_missing [] n h e = absurd (omega (arith, h))
get_missing (y ∷ xs) zero h e = cc
get_missing (y ∷ xs) (suc n) h e = get_missing xs n (omega (arith, h)) e

-- the first of rising numbers is the least, the last one the greatest
first_least : (c : ℕ) (xs : List ℕ) → Rises Less xs → first xs ≡ Some c → (j : ℕ) → IsIn j xs → c ≤ j
first_least c [] h e j g = absurd g
first_least c (x ∷ xs) h e j (inl is) = let same : x ≡ c = cc in omega (arith, same, is)
first_least c (x ∷ xs) h e j (inr g) = let same : x ≡ c = cc in let less = h.0 j g in omega (arith, same, less)

last_greatest : (c : ℕ) (xs : List ℕ) → Rises Less xs → last xs ≡ Some c → (j : ℕ) → IsIn j xs → j ≤ c
last_greatest c [] h e j g = absurd g
last_greatest c (x ∷ xs) h e j (inl is) = onward (last_in c (x ∷ xs) e) where
  onward : IsIn c (x ∷ xs) → j ≤ c
  onward (inl same) = omega (arith, same, is)
  onward (inr there) = let less = h.0 c there in omega (arith, less, is)
last_greatest c (x ∷ xs) h e j (inr g) = onward (last xs) refl (λ f. last_greatest c xs h.1 f j g) e where
  onward : (o : Option ℕ) → last xs ≡ o → (last xs ≡ Some c → j ≤ c) → Some (unwrap_or o x) ≡ Some c → j ≤ c
  onward None is rest e =
      let empty : xs ≡ [] = last-none xs is in absurd (subst (λ (ys : List ℕ). IsIn j ys) empty g)
  onward (Some z) is rest e = let same : z ≡ c = cc in rest (is ∙ ap Some same)

with_net_rises : (H : List Event) (o n : ℕ) → Rises Less (with_net H o n)
with_net_rises H o n = rises_filter Less (is_at_net H o n) (range_with_len 0 (length (changes H o))) (rises_range 0 (length (changes H o)))

in_with_net : (H : List Event) (o n j : ℕ) → j < length (changes H o) → net H o j ≡ n → IsIn j (with_net H o n)
unfolding is_at_net
in_with_net H o n j within is =
    in_filter (is_at_net H o n) j (range_with_len 0 (length (changes H o)))
    (in_range j 0 (length (changes H o)) (omega arith) (omega (arith, within)))
    (eq-eqb (net H o j) n is)

of_with_net : (H : List Event) (o n j : ℕ) → IsIn j (with_net H o n) → (j < length (changes H o)) × (net H o j ≡ n)
unfolding is_at_net
of_with_net H o n j h =
    let from = of_filter (is_at_net H o n) j (range_with_len 0 (length (changes H o))) h in
    let range = of_range j 0 (length (changes H o)) from.0 in
    (omega (arith, range.1), eqb-true (net H o j) n from.1)

-- a net that isn't what it was before an attempt is what it is after it
other_net : (w : Way) (n : ℕ) → n ≤ 1 → (n ≡ net_before w → ⊥) → n ≡ net_after w
other_net Forward zero few not_before = absurd (not_before refl)
other_net Forward (suc n) few not_before = omega (arith, few)
other_net Undo n few not_before = by_test (n == 1)
    (λ same. absurd (not_before (eqb-true n 1 same)))
    (λ other. let differ : n ≢ 1 = false-eqb n 1 (sym other) in omega (arith, few, differ))

-- every change that goes before the chosen one stands on its right side of it
abbrev Chosen : Way → ℕ → ℕ → Type 0
Chosen Forward c j = c ≤ j
Chosen Undo c j = j ≤ c

before_chosen : (w : Way) (xs : List Change) (c j : ℕ) (x y : Change) → Rises Before xs → slice_get xs c ≡ Some x → slice_get xs j ≡ Some y
    → goes_before w x.phase y ≡ true → Chosen w c j → ⊥
before_chosen Forward xs c j x y h ex ey goes chosen = by_test (c == j)
    (λ same.
    let is : c ≡ j = eqb-true c j same in
    let one : Some x ≡ Some y = sym ex ∙ (ap (λ (n : ℕ). slice_get xs n) is ∙ ey) in
    let equal : x ≡ y = cc in
    let less = ltb-true y.phase x.phase goes in
    let phases : x.phase ≡ y.phase = ap (λ (z : Change). z.phase) equal in absurd (omega (arith, less, phases)))
    (λ other.
    let differ : c ≢ j = false-eqb c j (sym other) in
    let lower = before_phase x y (rises_get Before xs c j x y h ex ey (omega (arith, chosen, differ))) in
    let less = ltb-true y.phase x.phase goes in absurd (omega (arith, less, lower)))
before_chosen Undo xs c j x y h ex ey goes chosen = by_test (c == j)
    (λ same.
    let is : c ≡ j = eqb-true c j same in
    let one : Some x ≡ Some y = sym ex ∙ (ap (λ (n : ℕ). slice_get xs n) is ∙ ey) in
    let equal : x ≡ y = cc in
    let less = ltb-true x.phase y.phase goes in
    let phases : x.phase ≡ y.phase = ap (λ (z : Change). z.phase) equal in absurd (omega (arith, less, phases)))
    (λ other.
    let differ : c ≢ j = false-eqb c j (sym other) in
    let lower = before_phase y x (rises_get Before xs j c y x h ey ex (omega (arith, chosen, differ))) in
    let less = ltb-true x.phase y.phase goes in absurd (omega (arith, less, lower)))

-- the chosen change is the least, or the greatest, that waits
abbrev IsChosen : List Event → ℕ → Way → ℕ → Type 0
IsChosen H o w c = IsIn c (with_net H o (net_before w)) × ((j : ℕ) → IsIn j (with_net H o (net_before w)) → Chosen w c j)

or_true_right : (a b : Bool) → b ≡ true → (a || b) ≡ true
or_true_right true b e = refl
or_true_right false b e = e

through : (width m : ℕ) (H : List Event) (o : ℕ) (w : Way) (c : ℕ) (x : Change) → IsLegalWithin width m H → IsChosen H o w c
    → slice_get (changes H o) c ≡ Some x
    → all_through H o w x.phase ≡ true
unfolding is_through
through width m H o w c x legal chosen is =
    all_placed (is_through H o w x.phase) 0 (changes H o) (λ j y e. by_test (goes_before w x.phase y)
    (λ goes.
    let shift : 0 + j ≡ j = omega arith in
    let after : net H o j ≡ net_after w =
    other_net w (net H o j) (made_at_most_once width m H legal o j).net (λ waits.
    before_chosen w (changes H o) c j x y (changes_rise width m H o legal) is e goes
    (chosen.1 j (in_with_net H o (net_before w) j (get_within y (changes H o) j e) waits))) in
    rw shift (or_true_right (not (goes_before w x.phase y)) (net H o j == net_after w) (eq-eqb (net H o j) (net_after w) after)))
    (λ stays. rw stays refl))

none_of_change : (H : List Event) (o c : ℕ) → open_of H o ≡ [] → open_attempts H o c ≡ []
none_of_change H o c none = empty (open_attempts H o c) (λ t h.
    let from = of_filter (is_of o c) t (open_tags H) h in
    absurd (subst (λ (ts : List Tag). IsIn t ts) none
    (in_filter (is_of_occurrence o) t (open_tags H) from.0 (and_left (t.occ == o) (t.change == c) from.1)))) where
      empty : (ts : List Tag) → ((t : Tag) → IsIn t ts → ⊥) → ts ≡ []
      empty [] f = refl
      empty (t ∷ ts) f = absurd (f t (inl refl))

-- an entry with its number is at that place
of_placed : {A : Type 0} → (k c : ℕ) (x : A) (xs : List A) → IsIn (c, x) (enumerate_from k xs)
    → (j : ℕ) × (c ≡ k + j) × (slice_get xs j ≡ Some x)
of_placed k c x [] h = absurd h
of_placed k c x (y ∷ xs) (inl is) = let first : k ≡ c = ap (λ z. z.0) is in let same : y ≡ x = ap (λ z. z.1) is in
    (0, omega (arith, first), cc)
of_placed k c x (y ∷ xs) (inr h) = let rest = of_placed (k + 1) c x xs h in let at = rest.1 in (suc rest.0, omega (arith, at), rest.2)

in_placed : {A : Type 0} → (k j : ℕ) (x : A) (xs : List A) → slice_get xs j ≡ Some x → IsIn (k + j, x) (enumerate_from k xs)
in_placed k j x [] e = cc
in_placed k zero x (y ∷ xs) e = let same : y ≡ x = cc in let here : k ≡ k + 0 = omega arith in
    inl (ap (λ z. (z, y)) here ∙ ap (λ z. (k + 0, z)) same)
in_placed {A} k (suc j) x (y ∷ xs) e =
    let same : (k + 1) + j ≡ k + suc j = omega arith in
    inr (subst (λ (n : ℕ). IsIn (n, x) (enumerate_from (k + 1) xs)) same (in_placed (k + 1) j x xs e))

-- a change that may be attempted, with what makes it so
abbrev IsFree : List Event → ℕ → Way → ℕ → Change → Type 0
IsFree H o w c x = (net H o c ≡ net_before w) × (open_attempts H o c ≡ []) × (all_through H o w x.phase ≡ true)

nil_open : (ts : List Tag) → is_none_open ts ≡ true → ts ≡ []
nil_open [] e = refl
nil_open (t ∷ ts) e = cc

of_is_free : (H : List Event) (o : ℕ) (w : Way) (c : ℕ) (x : Change) → is_free H o w (c, x) ≡ true → IsFree H o w c x
unfolding is_free
of_is_free H o w c x e =
    let rest = and_right (net H o c == net_before w) (is_none_open (open_attempts H o c) && all_through H o w x.phase) e in (
      eqb-true (net H o c) (net_before w) (and_left (net H o c == net_before w) _ e),
      nil_open (open_attempts H o c) (and_left (is_none_open (open_attempts H o c)) (all_through H o w x.phase) rest),
      and_right (is_none_open (open_attempts H o c)) (all_through H o w x.phase) rest,
    )

in_is_free : (H : List Event) (o : ℕ) (w : Way) (c : ℕ) (x : Change) → IsFree H o w c x → is_free H o w (c, x) ≡ true
unfolding is_free
in_is_free H o w c x h =
    and_true (net H o c == net_before w) (is_none_open (open_attempts H o c) && all_through H o w x.phase)
    (eq-eqb (net H o c) (net_before w) h.0)
    (and_true (is_none_open (open_attempts H o c)) (all_through H o w x.phase) (ap is_none_open h.1) h.2)

of_free : (H : List Event) (o : ℕ) (w : Way) (c : ℕ) → IsIn c (free H o w)
    → (x : Change) × (slice_get (changes H o) c ≡ Some x) × IsFree H o w c x
of_free H o w c h =
    let from = of_map (λ (z : ℕ × Change). z.0) c (filter (is_free H o w) (enumerate_from 0 (changes H o))) h in
    let entry = of_filter (is_free H o w) from.0 (enumerate_from 0 (changes H o)) from.1 in
    let place = of_placed 0 from.0.0 from.0.1 (changes H o) entry.0 in
    let at = place.1 in
    let is = from.2 in
    let same : place.0 ≡ c = omega (arith, at, is) in (
      from.0.1,
      subst (λ (n : ℕ). slice_get (changes H o) n ≡ Some from.0.1) same place.2,
      subst (λ (n : ℕ). IsFree H o w n from.0.1) is (of_is_free H o w from.0.0 from.0.1 entry.1),
    )

in_free : (H : List Event) (o : ℕ) (w : Way) (c : ℕ) (x : Change) → slice_get (changes H o) c ≡ Some x → IsFree H o w c x
    → IsIn c (free H o w)
in_free H o w c x at h =
    let same : 0 + c ≡ c = omega arith in
    in_map (λ (z : ℕ × Change). z.0) (c, x) (filter (is_free H o w) (enumerate_from 0 (changes H o)))
    (in_filter (is_free H o w) (c, x) (enumerate_from 0 (changes H o))
    (subst (λ (n : ℕ). IsIn (n, x) (enumerate_from 0 (changes H o))) same (in_placed 0 c x (changes H o) at)) (in_is_free H o w c x h))

not_so : (b : Bool) → not b ≡ true → b ≡ false
not_so true e = cc
not_so false e = refl

may_begin : (width : ℕ) (H : List Event) (o : ℕ) (w : Way) (c : ℕ) → window ≤ width → state H o ≡ works_in w → goes_on H o ≡ true
    → IsIn c (free H o w)
    → MayBeginWithin width H (new_tag H o w c)
may_begin width H o w c wide works on h =
    let it = of_free H o w c h in
    let quiet = not_so (has_trouble H o || is_cancelled H o) (and_left (not (has_trouble H o || is_cancelled H o))
    (ltb (length (open_of H o)) window) on) in
    let fewer = ltb-true (length (open_of H o)) window (and_right (not (has_trouble H o || is_cancelled H o))
    (ltb (length (open_of H o)) window) on) in
    record {
      works = works;
      no_trouble = or_left_false (has_trouble H o) (is_cancelled H o) quiet;
      no_cancel = or_right_false (has_trouble H o) (is_cancelled H o) quiet;
      room = omega (arith, fewer, wide);
      none_open = it.2.1;
      number = refl;
      turn = subst (λ (y : Option Change). IsTurnOf H (new_tag H o w c) y) (sym it.1) (it.2.0, it.2.2);
    }

legal_beginning : (width m : ℕ) (H : List Event) (now : ℕ) (t : Tag) (answer : Answer) → IsLegalWithin width m H → MayBeginWithin width H t
    → IsLegalWithin width m (with_events now (beginning t answer) H)
legal_beginning width m H now t BeginTaken legal may = (may, legal)
legal_beginning width m H now t (BeginRefused code) legal may = (fresh_open width m H now legal t may.number, (may, legal))
legal_beginning width m H now t BeginFailed legal may = (
  (
    fresh_open width m H now legal t may.number,
    fresh_unfailed width m H legal t may.number,
  ),
  (may, legal),
)
legal_beginning width m H now t _ legal may = legal

quiet_now : (H : List Event) (o : ℕ) → open_of H o ≡ [] → (has_trouble H o || is_cancelled H o) ≡ false → IsQuiet H o
quiet_now H o none quiet = record {
  none_open = none;
  no_trouble = or_left_false (has_trouble H o) (is_cancelled H o) quiet;
  no_cancel = or_right_false (has_trouble H o) (is_cancelled H o) quiet;
}

all_after : (width m : ℕ) (H : List Event) (o : ℕ) (w : Way) → IsLegalWithin width m H → with_net H o (net_before w) ≡ []
    → all_have_net H o (net_after w) ≡ true
unfolding has_net
all_after width m H o w legal none =
    all_placed (has_net H o (net_after w)) 0 (changes H o) (λ j y e.
    let shift : 0 + j ≡ j = omega arith in
    let after : net H o j ≡ net_after w =
    other_net w (net H o j) (made_at_most_once width m H legal o j).net (λ waits.
    absurd (subst (λ (ns : List ℕ). IsIn j ns) none (in_with_net H o (net_before w) j (get_within y (changes H o) j e) waits))) in
    rw shift (eq-eqb (net H o j) (net_after w) after))

may_end : (width m : ℕ) (H : List Event) (o : ℕ) (w : Way) → IsLegalWithin width m H → open_of H o ≡ []
    → (has_trouble H o || is_cancelled H o) ≡ false
    → with_net H o (net_before w) ≡ [] → MayMove H o (works_in w) (end_of w)
may_end width m H o Forward legal none quiet done = (quiet_now H o none quiet, all_after width m H o Forward legal done)
may_end width m H o Undo legal none quiet done = (quiet_now H o none quiet, all_after width m H o Undo legal done)

may_stop : (H : List Event) (o : ℕ) (w : Way) → HasStopped H o → MayMove H o (works_in w) FailedTemp
may_stop H o Forward h = h
may_stop H o Undo h = h

chosen_is : (H : List Event) (o : ℕ) (w : Way) (c : ℕ) → chosen w (with_net H o (net_before w)) ≡ Some c → IsChosen H o w c
chosen_is H o Forward c e = (first_in c (with_net H o 0) e, λ j h. first_least c (with_net H o 0) (with_net_rises H o 0) e j h)
chosen_is H o Undo c e = (last_in c (with_net H o 1) e, λ j h. last_greatest c (with_net H o 1) (with_net_rises H o 1) e j h)

chosen_none : (w : Way) (ns : List ℕ) → chosen w ns ≡ None → ns ≡ []
chosen_none Forward ns e = first-nil ns e
chosen_none Undo ns e = last-none ns e

chosen_in : (w : Way) (ns : List ℕ) (c : ℕ) → chosen w ns ≡ Some c → IsIn c ns
chosen_in Forward ns c e = first_in c ns e
chosen_in Undo ns c e = last_in c ns e

-- where nothing is open, the least or greatest change that waits may be attempted; so where none may, none waits
none_waits : (width m : ℕ) (H : List Event) (o : ℕ) (w : Way) → IsLegalWithin width m H → open_of H o ≡ [] → free H o w ≡ []
    → with_net H o (net_before w) ≡ []
none_waits width m H o w legal none empty = by (chosen w (with_net H o (net_before w))) refl where
  at : (c : ℕ) → IsChosen H o w c → (x : Option Change) → slice_get (changes H o) c ≡ x → ⊥
  at c is None missing = get_missing (changes H o) c (of_with_net H o (net_before w) c is.0).0 missing
  at c is (Some x) found =
      subst (λ (ns : List ℕ). IsIn c ns) empty
      (in_free H o w c x found (
        (of_with_net H o (net_before w) c is.0).1,
        none_of_change H o c none,
        through width m H o w c x legal is found,
      ))

  by : (n : Option ℕ) → chosen w (with_net H o (net_before w)) ≡ n → with_net H o (net_before w) ≡ []
  by None is = chosen_none w (with_net H o (net_before w)) is
  by (Some c) is = absurd (at c (chosen_is H o w c is) (slice_get (changes H o) c) refl)

pick_only : {A : Type 0} → (b : Bool) (x : Option A) (y : A) (lines : List (Option A)) → first_some (only_when b x ∷ lines) ≡ Some y
    → ((b ≡ true) × (x ≡ Some y)) ⊎ ((b ≡ true → x ≡ None) × (first_some lines ≡ Some y))
pick_only true (Some z) y lines e = inl (refl, e)
pick_only true None y lines e = inr ((λ h. refl), e)
pick_only false x y lines e = inr ((λ h. cc), e)

of_mapped : {A B : Type 0} → (f : A → B) (x : Option A) (y : B) → option_map f x ≡ Some y → (z : A) × (x ≡ Some z) × (f z ≡ y)
of_mapped f (Some z) y e = (z, refl, cc)
of_mapped f None y e = cc

none_mapped : {A B : Type 0} → (f : A → B) (x : Option A) → option_map f x ≡ None → x ≡ None
none_mapped f None e = refl
none_mapped f (Some z) e = cc

quiet_goes_on : (H : List Event) (o : ℕ) → open_of H o ≡ [] → (has_trouble H o || is_cancelled H o) ≡ false → goes_on H o ≡ true
quiet_goes_on H o none quiet = rw (quiet, none) refl

fine_work : (width m : ℕ) (H : List Event) (o now : ℕ) (answer : Answer) (action : Action) (w : Way) → window ≤ width
    → IsLegalWithin width m H → is_some (operation H o) ≡ true
    → state H o ≡ works_in w → next_at_work H o w ≡ Some action → IsFine width m H o now answer action
fine_work width m H o now answer action w wide legal asked is e =
    abort (pick_only (is_forced H o) (option_map AbortAndLook (first_open H o)) action _ e) where
      looks : (t : Tag) → first_open H o ≡ Some t → IsLegalWithin width m (with_events now (looking t answer) H)
      looks t found = legal_looking width m H now t answer legal (first_open-open H o t found)

      done : open_of H o ≡ [] → (goes_on H o ≡ true → chosen w (free H o w) ≡ None) → (has_trouble H o || is_cancelled H o) ≡ false
          → IsFine width m H o now answer (MoveTo (end_of w))
      done none left quiet =
          let empty = chosen_none w (free H o w) (left (quiet_goes_on H o none quiet)) in
          fine_move width m H o now answer (works_in w) (end_of w) legal asked is
          (may_end width m H o w legal none quiet (none_waits width m H o w legal none empty))

      stop : open_of H o ≡ [] → (goes_on H o ≡ true → chosen w (free H o w) ≡ None)
          → (((has_trouble H o || is_cancelled H o) ≡ true) × (MoveTo FailedTemp ≡ action))
          ⊎ (((has_trouble H o || is_cancelled H o) ≡ false) × (first_some (Some (MoveTo (end_of w)) ∷ []) ≡ Some action))
          → IsFine width m H o now answer action
      stop none left (inl h) =
          subst (λ (a : Action). IsFine width m H o now answer a) h.1
          (fine_move width m H o now answer (works_in w) FailedTemp legal asked is
          (may_stop H o w (record { none_open = none; cause = h.0 })))
      stop none left (inr h) =
          let same : MoveTo (end_of w) ≡ action = cc in
          subst (λ (a : Action). IsFine width m H o now answer a) same (done none left h.0)

      look : (goes_on H o ≡ true → chosen w (free H o w) ≡ None) → ((t : Tag) × (first_open H o ≡ Some t) × (Look t ≡ action))
          ⊎ ((first_open H o ≡ None)
          × (first_some (when (has_trouble H o || is_cancelled H o) (MoveTo FailedTemp) ∷ Some (MoveTo (end_of w)) ∷ []) ≡ Some action))
          → IsFine width m H o now answer action
      look left (inl h) = subst (λ (a : Action). IsFine width m H o now answer a) h.2 (looks h.0 h.1)
      look left (inr h) = stop (last-none (open_of H o) h.0) left (pick_when (has_trouble H o || is_cancelled H o)
          (MoveTo FailedTemp) action _ h.1)

      begin : ((goes_on H o ≡ true) × (option_map (begin_of H o w) (chosen w (free H o w)) ≡ Some action))
          ⊎ ((goes_on H o ≡ true → option_map (begin_of H o w) (chosen w (free H o w)) ≡ None)
          × (first_some (option_map Look (first_open H o) ∷ when (has_trouble H o || is_cancelled H o) (MoveTo FailedTemp)
          ∷ Some (MoveTo (end_of w)) ∷ []) ≡ Some action))
          → IsFine width m H o now answer action
      begin (inl h) =
          let it = of_mapped (begin_of H o w) (chosen w (free H o w)) action h.1 in
          subst (λ (a : Action). IsFine width m H o now answer a) it.2
          (legal_beginning width m H now (new_tag H o w it.0) answer legal
          (may_begin width H o w it.0 wide is h.0 (chosen_in w (free H o w) it.0 it.1)))
      begin (inr h) = look (λ on. none_mapped (begin_of H o w) (chosen w (free H o w)) (h.0 on))
          (pick_map Look (first_open H o) action _ h.1)

      abort : ((is_forced H o ≡ true) × (option_map AbortAndLook (first_open H o) ≡ Some action))
          ⊎ ((is_forced H o ≡ true → option_map AbortAndLook (first_open H o) ≡ None)
          × (first_some (only_when (goes_on H o) (option_map (begin_of H o w) (chosen w (free H o w))) ∷ option_map Look (first_open H o)
          ∷ when (has_trouble H o || is_cancelled H o) (MoveTo FailedTemp) ∷ Some (MoveTo (end_of w)) ∷ []) ≡ Some action))
          → IsFine width m H o now answer action
      abort (inl h) =
          let it = of_mapped AbortAndLook (first_open H o) action h.1 in
          subst (λ (a : Action). IsFine width m H o now answer a) it.2 (looks it.0 it.1)
      abort (inr h) = begin (pick_only (goes_on H o) (option_map (begin_of H o w) (chosen w (free H o w))) action _ h.1)

fine_in : (width m : ℕ) (H : List Event) (o now : ℕ) (answer : Answer) (action : Action) (s : OpState) → window ≤ width
    → IsLegalWithin width m H → is_some (operation H o) ≡ true
    → IsAnswer H o answer → state H o ≡ s → next_in s H o ≡ Some action → IsFine width m H o now answer action
fine_in width m H o now answer action Starting wide legal asked good is e =
    fine_starting width m H o now answer action legal asked is good e
fine_in width m H o now answer action Processing wide legal asked good is e =
    fine_work width m H o now answer action Forward wide legal asked is e
fine_in width m H o now answer action RollingBack wide legal asked good is e =
    fine_work width m H o now answer action Undo wide legal asked is e
fine_in width m H o now answer action _ wide legal asked good is e = cc

-- an action of an occurrence is one of its state
acted : (s : Option Action) (x : Option Operation) (action : Action) → option_and_then (λ a. s) x ≡ Some action → s ≡ Some action
acted s None action e = cc
acted s (Some a) action e = e

-- the events of the next action are allowed
pub next_legal : (width m : ℕ) (H : List Event) → window ≤ width → IsLegalWithin width m H → (o now : ℕ) (action : Action) (answer : Answer)
    → is_some (operation H o) ≡ true
    → next_action H o ≡ Some action → IsAnswer H o answer → IsLegalWithin width m (with_events now (appended o action answer) H)
next_legal width m H wide legal o now action answer asked e good =
    fine_in width m H o now answer action (state H o) wide legal asked good refl (acted (next_in (state H o) H o) (operation H o) action e)

some_line : {A : Type 0} → (o : Option A) (lines : List (Option A)) → is_some (first_some lines) ≡ true
    → is_some (first_some (o ∷ lines)) ≡ true
some_line None lines h = h
some_line (Some x) lines h = refl

works_on : (H : List Event) (o : ℕ) (w : Way) → is_some (next_at_work H o w) ≡ true
works_on H o w =
    some_line (only_when (is_forced H o) (option_map AbortAndLook (first_open H o))) _
    (some_line (only_when (goes_on H o) (option_map (begin_of H o w) (chosen w (free H o w)))) _
    (some_line (option_map Look (first_open H o)) _
    (some_line (when (has_trouble H o || is_cancelled H o) (MoveTo FailedTemp)) _ refl)))

active_acts_in : (H : List Event) (o : ℕ) (s : OpState) → is_some (next_in s H o) ≡ is_active s
active_acts_in H o Starting = some_line (when (gives_up H o) (MoveTo RolledBack)) _
    (some_line (when (is_granted H o) (MoveTo Processing)) _ (some_line (when (is_some (location H o)) Poll) _ refl))
active_acts_in H o Processing = works_on H o Forward
active_acts_in H o RollingBack = works_on H o Undo
active_acts_in H o _ = refl

acts_where : (s : Option Action) (x : Option Operation) (b : Bool) → is_some s ≡ b → is_some (option_and_then (λ a. s) x) ≡ (is_some x && b)
acts_where s None b e = refl
acts_where s (Some a) b e = e

-- an active occurrence that was asked for has a next action
pub active_acts : (H : List Event) (o : ℕ) → is_some (next_action H o) ≡ (is_some (operation H o) && is_active (state H o))
active_acts H o = acts_where (next_in (state H o) H o) (operation H o) (is_active (state H o)) (active_acts_in H o (state H o))
