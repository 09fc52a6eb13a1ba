-- The active occurrences, in the order of their numbers, and what an act leaves of them.
use Rattle.std.specs.Prelude.{IfSome}
use Rattle.std.proofs.Common.{◌≡◌, ◌≤◌, ◌<◌, ◌==◌, ◌∙◌, ℕ, List, [], ◌∷◌, Bool, true, false, cond, Option, None, Some, is_some, refl, ap}
use Rattle.std.proofs.Common.{sym, inl, inr, true≢false, eq-eqb, subst, length, map, filter, find, reverse, arith, eqb-true, nat_lt, lt-ltb}
use Rattle.std.proofs.Common.{ltb-true, ltb-false, le-ltb}
use mathlib.Core.List.{reverse-cons}
use Rattle.lcm_events.specs.declared.attempts.Tag.{Tag}
use Rattle.lcm_events.specs.declared.events.Event.{Event}
use Rattle.lcm_events.specs.declared.events.EventKind.{EventKind}
use Rattle.lcm_events.specs.declared.events.EventKind.TheVariants.{CallFailed, Denied, GrantTried, Granted, Intent, Moved, Settled}
use Rattle.lcm_events.specs.declared.events.Operation.{Operation}
use Rattle.lcm_laws.specs.Acting.{with_events}
use Rattle.lcm_laws.proofs.Lists.{and_true, by_test}
use Rattle.lcm_laws.proofs.Members.{in_either, of_filter, of_map}
use Rattle.lcm_laws.proofs.NumberLaws.{IsCounted, operations_counted}
use Rattle.lcm_laws.proofs.OngoingLaws.{state-moved}
use Rattle.lcm_model.specs.Allowed.{IsLegal}
use Rattle.lcm_model.specs.Moves.{is_active, state}
use Rattle.lcm_model.specs.Next.{Answer, BeginFailed, BeginRefused, BeginTaken, GrantCame, GrantDenied, GrantLater, GrantMissesSome}
use Rattle.lcm_model.specs.Next.{GrantTrouble, LookedAborted, LookedAbsent, LookedBroken, LookedDone, appended, beginning, granting}
use Rattle.lcm_model.specs.Next.{looking, polling}
use Rattle.lcm_model.specs.Operations.{operation, operations}
use Rattle.lcm_model.specs.Words.{IsIn}
use Rattle.lcm_model.specs.Work.{window}
use Rattle.lcm_model.specs.declared.actions.Action.{Action}
use Rattle.lcm_model.specs.declared.actions.Action.TheVariants.{AbortAndLook, AskForGrant, Begin, Look, MoveTo, Poll}
use Rattle.occ_table.specs.Going.{Rises, active, is_worked_on}
use Rattle.occ_table.proofs.PendingSteps.{filter_reverse}
use Rattle.std.proofs.lemmas.List.{length-map, length-reverse}
use Rattle.occ_work.proofs.RequestLemmas.{few_operations}
use Rattle.occ_steps.specs.Active.{IsActive}
use Rattle.occ_work.specs.Turns.{above}

-- all numbers are above this one
abbrev Above : ℕ → List ℕ → Type 0
Above n [] = Unit {0}
Above n (m ∷ ms) = (n < m) × Above n ms

above-more : (n k : ℕ) (ms : List ℕ) → Above n ms → k ≤ n → Above k ms
above-more n k [] h low = tt
above-more n k (m ∷ ms) h low = let up = h.0 in (omega (arith, up, low), above-more n k ms h.1 low)

rises-above : (m : ℕ) (ms : List ℕ) → Rises (m ∷ ms) → Above m ms
rises-above m [] r = tt
rises-above m (k ∷ ms) r = let up = r.0 in (up, above-more k m ms (rises-above k ms r.1) (omega (arith, up)))

rises-rest : (m : ℕ) (ms : List ℕ) → Rises (m ∷ ms) → Rises ms
rises-rest m [] r = tt
rises-rest m (k ∷ ms) r = r.1

-- above a number that isn't above these are all of them
all-above : (n : ℕ) (ms : List ℕ) → Above n ms → above n ms ≡ ms
all-above n [] h = refl
all-above n (m ∷ ms) h = let less : nat_lt n m ≡ true = lt-ltb n m h.0 in rw less (ap (λ (ks : List ℕ). m ∷ ks) (all-above n ms h.1))

-- what is found is above
pub found-above : (n : ℕ) (ms : List ℕ) (k : ℕ) → find (λ k. nat_lt n k) ms ≡ Some k → n < k
found-above n [] k e = cc
found-above n (m ∷ ms) k e = by_test (nat_lt n m)
    (λ less. let is : m ≡ k = some_same (sym (rw less refl) ∙ e) in subst (λ (j : ℕ). n < j) is (ltb-true n m less))
    (λ more. found-above n ms k (sym (rw more refl) ∙ e)) where
      some_same : {x y : ℕ} → Some x ≡ Some y → x ≡ y
      some_same e = cc

-- the numbers above one are the first of them and those above it
pub first-above : (n : ℕ) (ms : List ℕ) (k : ℕ) → Rises ms → find (λ k. nat_lt n k) ms ≡ Some k → above n ms ≡ k ∷ above k ms
first-above n [] k r e = cc
first-above n (m ∷ ms) k r e = by_test (nat_lt n m)
    (λ less.
    let is : m ≡ k = some_same (sym (rw less refl) ∙ e) in
    let low : nat_lt m m ≡ false = le-ltb m m (omega arith) in
    let up : Above m ms = rises-above m ms r in
    let far : Above n ms = above-more m n ms up (before n m (ltb-true n m less)) in
    let here : above n (m ∷ ms) ≡ m ∷ above m (m ∷ ms) = rw (less, low)
    (ap (λ (ks : List ℕ). m ∷ ks) (all-above n ms far ∙ sym (all-above m ms up))) in
    subst (λ (j : ℕ). above n (m ∷ ms) ≡ j ∷ above j (m ∷ ms)) is here)
    (λ more.
    let behind : find (λ k. nat_lt n k) ms ≡ Some k = sym (rw more refl) ∙ e in
    let up = found-above n ms k behind in
    let low = ltb-false n m more in
    let under : nat_lt k m ≡ false = le-ltb k m (omega (arith, up, low)) in
    rw (more, under) (first-above n ms k (rises-rest m ms r) behind)) where
      some_same : {x y : ℕ} → Some x ≡ Some y → x ≡ y
      some_same e = cc

      before : (n m : ℕ) → n < m → n ≤ m
      before n m h = omega (arith, h)

-- there is none where none is found
pub none-above : (n : ℕ) (ms : List ℕ) → find (λ k. nat_lt n k) ms ≡ None → above n ms ≡ []
none-above n [] e = refl
none-above n (m ∷ ms) e = by_test (nat_lt n m) (λ less. absurd (some_none m (sym (rw less refl) ∙ e)))
    (λ more. rw more (none-above n ms (sym (rw more refl) ∙ e))) where
      some_none : (x : ℕ) → Some x ≡ None → ⊥
      some_none x e = cc

-- the numbers above one of operations that pass a test
abbrev tested : ℕ → (Operation → Bool) → List Operation → List ℕ
tested n w xs = above n (map (λ a. a.occ) (filter w xs))

low_dropped : (n : ℕ) (w : Operation → Bool) (a : Operation) (xs : List Operation) → nat_lt n a.occ ≡ false
    → tested n w (a ∷ xs) ≡ tested n w xs
low_dropped n w a xs low = by_test (w a) (λ works. rw (works, low) refl) (λ rests. rw rests refl)

high_kept : (n : ℕ) (w : Operation → Bool) (a : Operation) (xs : List Operation) → nat_lt n a.occ ≡ true
    → tested n w (a ∷ xs) ≡ cond (w a) (a.occ ∷ tested n w xs) (tested n w xs)
high_kept n w a xs high = by_test (w a) (λ works. rw (works, high) refl) (λ rests. rw rests refl)

-- tests that agree on the numbers above one let the same of them through
same_tested : (n : ℕ) (w v : Operation → Bool) (xs : List Operation) → ((a : Operation) → nat_lt n a.occ ≡ true → w a ≡ v a)
    → tested n w xs ≡ tested n v xs
same_tested n w v [] works = refl
same_tested n w v (a ∷ xs) works =
    let rest : tested n w xs ≡ tested n v xs = same_tested n w v xs works in
    by_test (nat_lt n a.occ)
    (λ high.
    high_kept n w a xs high
    ∙ (ap (λ (b : Bool). cond b (a.occ ∷ tested n w xs) (tested n w xs)) (works a high)
    ∙ (ap (λ (ns : List ℕ). cond (v a) (a.occ ∷ ns) ns) rest ∙ sym (high_kept n v a xs high))))
    (λ low. low_dropped n w a xs low ∙ (rest ∙ sym (low_dropped n v a xs low)))

above_active : (n : ℕ) (H : List Event) → above n (active H) ≡ reverse (tested n (is_worked_on H) (operations H))
above_active n H = filter_reverse (λ k. nat_lt n k) (map (λ (a : Operation). a.occ) (filter (is_worked_on H) (operations H)))

-- histories of the same operations, whose states agree above a number, have the same active occurrences above it
same_above : (n : ℕ) (G H : List Event) → operations G ≡ operations H → ((k : ℕ) → nat_lt n k ≡ true → state G k ≡ state H k)
    → above n (active G) ≡ above n (active H)
same_above n G H asked states =
    above_active n G
    ∙ (ap (λ (xs : List Operation). reverse (tested n (is_worked_on G) xs)) asked
    ∙ (ap reverse (same_tested n (is_worked_on G) (is_worked_on H) (operations H) (λ a high. ap is_active (states a.occ high)))
    ∙ sym (above_active n H)))

-- the event asks for no operation, and moves none but this
abbrev Spares : ℕ → EventKind → Type 0
Spares n (Granted o grant places spots) = Unit {0}
Spares n (GrantTried o answer) = Unit {0}
Spares n (Denied o) = Unit {0}
Spares n (Intent t) = Unit {0}
Spares n (CallFailed t) = Unit {0}
Spares n (Settled t outcome) = Unit {0}
Spares n (Moved o to) = o ≡ n
Spares n _ = ⊥

spared : (n now : ℕ) (kind : EventKind) (H : List Event) → Spares n kind
    → above n (active (record { moment = now; kind = kind } ∷ H)) ≡ above n (active H)
spared n now (Granted o grant places spots) H is = refl
spared n now (GrantTried o answer) H is = refl
spared n now (Denied o) H is = refl
spared n now (Intent t) H is = refl
spared n now (CallFailed t) H is = refl
spared n now (Settled t outcome) H is = refl
spared n now (Moved o to) H is =
    same_above n (record { moment = now; kind = Moved o to } ∷ H) H refl
    (λ k high. state-moved H now k o to false (other k high)) where
      less-other : (n k : ℕ) → n < k → (n == k) ≡ false
      less-other n k less = by_test (n == k) (λ same. let is = eqb-true n k same in absurd (omega (arith, less, is))) (λ other. other)

      other : (k : ℕ) → nat_lt n k ≡ true → (o == k) ≡ false
      other k high = let up = ltb-true n k high in rw is (less-other n k up)
spared n now _ H is = absurd is

abbrev AllSpare : ℕ → List EventKind → Type 0
AllSpare n [] = Unit {0}
AllSpare n (kind ∷ kinds) = Spares n kind × AllSpare n kinds

all_spared : (n now : ℕ) (kinds : List EventKind) (H : List Event) → AllSpare n kinds
    → above n (active (with_events now kinds H)) ≡ above n (active H)
all_spared n now [] H all = refl
all_spared n now (kind ∷ kinds) H all = spared n now kind (with_events now kinds H) all.0 ∙ all_spared n now kinds H all.1

granting_spares : (n o : ℕ) (answer : Answer) → AllSpare n (granting o answer)
granting_spares n o (GrantCame grant places spots) = (tt, tt)
granting_spares n o GrantMissesSome = (tt, tt)
granting_spares n o GrantDenied = (tt, tt)
granting_spares n o GrantTrouble = (tt, tt)
granting_spares n o (GrantLater (Some at)) = (tt, tt)
granting_spares n o (GrantLater None) = (tt, tt)
granting_spares n o _ = tt

polling_spares : (n o : ℕ) (answer : Answer) → AllSpare n (polling o answer)
polling_spares n o (GrantCame grant places spots) = (tt, tt)
polling_spares n o GrantMissesSome = (tt, tt)
polling_spares n o GrantDenied = (tt, tt)
polling_spares n o GrantTrouble = (tt, tt)
polling_spares n o (GrantLater at) = tt
polling_spares n o _ = tt

looking_spares : (n : ℕ) (t : Tag) (answer : Answer) → AllSpare n (looking t answer)
looking_spares n t (LookedDone name) = (tt, tt)
looking_spares n t (LookedBroken code) = (tt, tt)
looking_spares n t LookedAborted = (tt, tt)
looking_spares n t LookedAbsent = (tt, tt)
looking_spares n t _ = tt

beginning_spares : (n : ℕ) (t : Tag) (answer : Answer) → AllSpare n (beginning t answer)
beginning_spares n t BeginTaken = (tt, tt)
beginning_spares n t (BeginRefused code) = (tt, (tt, tt))
beginning_spares n t BeginFailed = (tt, (tt, tt))
beginning_spares n t _ = tt

appended_spares : (o : ℕ) (action : Action) (answer : Answer) → AllSpare o (appended o action answer)
appended_spares o (MoveTo to) answer = (refl, tt)
appended_spares o AskForGrant answer = granting_spares o o answer
appended_spares o Poll answer = polling_spares o o answer
appended_spares o (AbortAndLook t) answer = looking_spares o t answer
appended_spares o (Look t) answer = looking_spares o t answer
appended_spares o (Begin t) answer = beginning_spares o t answer

-- an act for an occurrence leaves those with greater numbers
pub others_stay : (now : ℕ) (H : List Event) (o : ℕ) (action : Action) (answer : Answer)
    → above o (active (with_events now (appended o action answer) H)) ≡ above o (active H)
others_stay now H o action answer = all_spared o now (appended o action answer) H (appended_spares o action answer)

positive : (w : Operation → Bool) (xs : List Operation) → IsCounted (λ a. a.occ) xs
    → above 0 (map (λ a. a.occ) (filter w xs)) ≡ map (λ a. a.occ) (filter w xs)
positive w [] counted = refl
positive w (a ∷ xs) counted =
    let number = counted.0 in
    let some : nat_lt 0 a.occ ≡ true = lt-ltb 0 a.occ (omega (arith, number)) in
    let rest = positive w xs counted.1 in
    by_test (w a) (λ works. rw (works, some) (ap (λ (ns : List ℕ). a.occ ∷ ns) rest)) (λ rests. rw rests rest)

-- every number of an occurrence is above 0
pub all_above_zero : (m : ℕ) (H : List Event) → IsLegal m H → above 0 (active H) ≡ active H
all_above_zero m H legal = above_active 0 H ∙ ap reverse (positive (is_worked_on H) (operations H) (operations_counted window m H legal))

filter_few : {A : Type 0} → (p : A → Bool) (xs : List A) → length (filter p xs) ≤ length xs
filter_few p [] = omega arith
filter_few p (x ∷ xs) =
    let rest = filter_few p xs in
    by_test (p x) (λ holds. rw holds (omega (arith, rest))) (λ fails. rw fails (omega (arith, rest)))

-- there are no more of them than events
pub few_active : (H : List Event) → length (active H) ≤ length H
few_active H =
    let numbers : List ℕ = map (λ (a : Operation). a.occ) (filter (is_worked_on H) (operations H)) in
    let two : length (active H) ≡ length numbers = length-reverse numbers in
    let three : length numbers ≡ length (filter (is_worked_on H) (operations H)) =
    length-map (filter (is_worked_on H) (operations H)) (λ (a : Operation). a.occ) in
    let four = filter_few (is_worked_on H) (operations H) in
    let five : length (operations H) ≤ length H = few_operations H in
    omega (arith, two, three, four, five)

found_within_list : (q : ℕ → Bool) (k : ℕ) (ms : List ℕ) → find q ms ≡ Some k → IsIn k ms
found_within_list q k [] e = cc
found_within_list q k (m ∷ ms) e = by_test (q m)
    (λ here. let is : m ≡ k = some_same (sym (rw here refl) ∙ e) in inl is)
    (λ behind. inr (found_within_list q k ms (sym (rw behind refl) ∙ e))) where
      some_same : {x y : ℕ} → Some x ≡ Some y → x ≡ y
      some_same e = cc

of_reverse : (x : ℕ) (xs : List ℕ) → IsIn x (reverse xs) → IsIn x xs
of_reverse x [] h = h
of_reverse x (y ∷ ys) h = elim (in_either x (reverse ys) (y ∷ []) (subst (λ (zs : List ℕ). IsIn x zs) (reverse-cons y ys) h)) [
  | inl before ↦ inr (of_reverse x ys before)
  | inr last ↦ elim last [ inl is ↦ inl is | inr none ↦ absurd none ]
]

some_found : (o : ℕ) (a : Operation) (xs : List Operation) → IsIn a xs → a.occ ≡ o → is_some (find (λ b. b.occ == o) xs) ≡ true
some_found o a [] h is = absurd h
some_found o a (b ∷ xs) h is = by_test (b.occ == o)
    (λ same. rw same refl)
    (λ other. rw other (elim h [
      | inl e ↦ absurd (true≢false (sym (eq-eqb b.occ o (ap (λ (x : Operation). x.occ) e ∙ is)) ∙ other))
      | inr behind ↦ some_found o a xs behind is
    ]))

-- what is found among the active ones is active
pub found_active : (H : List Event) (n o : ℕ) → find (λ k. nat_lt n k) (active H) ≡ Some o → IsActive H o
found_active H n o e =
    let among = of_reverse o (map (λ (a : Operation). a.occ) (filter (is_worked_on H) (operations H)))
    (found_within_list (λ k. nat_lt n k) o (active H) e) in
    let from = of_map (λ (a : Operation). a.occ) o (filter (is_worked_on H) (operations H)) among in
    let both = of_filter (is_worked_on H) from.0 (operations H) from.1 in
    and_true (is_some (operation H o)) (is_active (state H o)) (some_found o from.0 (operations H) both.0 from.2)
    (subst (λ (k : ℕ). is_active (state H k) ≡ true) from.2 both.1)

-- what is found above a number is above it
pub above_one : (n : ℕ) (ms : List ℕ) (x : Option ℕ) → x ≡ find (λ k. nat_lt n k) ms → IfSome x (λ k. n < k)
above_one n ms None is = tt
above_one n ms (Some k) is = found-above n ms k (sym is)
