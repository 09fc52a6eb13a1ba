-- What each event makes of the active numbers, and what is found among them.
use Rattle.std.proofs.Common.{◌≡◌, ◌≢◌, ◌≤◌, ◌<◌, ◌+◌, ◌++◌, ◌&&◌, ◌==◌, ◌∙◌, ℕ, List, [], ◌∷◌, zero, suc, Bool, true, false, cond, not}
use Rattle.std.proofs.Common.{Option, None, Some, refl, ap, sym, subst, length, map, filter, find, reverse, slice_get, insert, arith}
use Rattle.std.proofs.Common.{eqb-true, eq-eqb, false-eqb, nat_lt, lt-ltb, ltb-false, le-ltb}
use Rattle.std.specs.Prelude.{slice_index_or}
use Rattle.std.specs.List.{AllWithin}
use Rattle.std.specs.List.Sorted.{IsPartitionPoint, IsPartitionedBy}
use mathlib.Core.List.{reverse-cons}
use Rattle.lcm_events.specs.declared.events.Event.{Event}
use Rattle.lcm_events.specs.declared.events.EventKind.{EventKind}
use Rattle.lcm_events.specs.declared.events.EventKind.TheVariants.{Asked, Moved}
use Rattle.lcm_events.specs.declared.events.Operation.{Operation}
use Rattle.lcm_events.specs.declared.states.OpState.{OpState}
use Rattle.lcm_model.specs.Allowed.{IsAllowedWithin, IsLegalWithin}
use Rattle.lcm_model.specs.Moves.{is_active}
use Rattle.lcm_model.specs.Operations.{operation, operations}
use Rattle.lcm_laws.proofs.AboutLaws.{unasked_untouched}
use Rattle.lcm_laws.proofs.Histories.{event}
use Rattle.lcm_laws.proofs.Lists.{by_test, filter_both}
use Rattle.lcm_laws.proofs.NumberLaws.{IsCounted, found_exactly, operations_counted}
use Rattle.lcm_laws.proofs.OngoingLaws.{state-moved}
use Rattle.std.proofs.lemmas.List.{length-map, length-reverse}
use Rattle.occ_table.specs.Rows.{StandsFor, row}
use Rattle.occ_table.specs.declared.rows.OccRow.{OccRow}
use Rattle.occ_table.specs.Going.{Rises, active, active_after, active_moved, is_worked_on, first_from, next_active, with_number}
use Rattle.occ_table.specs.Going.{without_number}
use Rattle.occ_table.proofs.PendingSteps.{filter_map_swap, filter_reverse}
use Rattle.occ_table.proofs.RowsSteps.{none_there}

-- all numbers are below this one
abbrev Below : ℕ → List ℕ → Type 0
Below n [] = Unit {0}
Below n (m ∷ ms) = (m < n) × Below n ms

below-end : (n y : ℕ) (ms : List ℕ) → Below n ms → y < n → Below n (ms ++ y ∷ [])
below-end n y [] b h = (h, tt)
below-end n y (m ∷ ms) b h = (b.0, below-end n y ms b.1 h)

below-more : (n k : ℕ) (ms : List ℕ) → Below n ms → n ≤ k → Below k ms
below-more n k [] b h = tt
below-more n k (m ∷ ms) b h = let low = b.0 in (omega (arith, low, h), below-more n k ms b.1 h)

rises-end : (n : ℕ) (ms : List ℕ) → Rises ms → Below n ms → Rises (ms ++ n ∷ [])
rises-end n [] r b = tt
rises-end n (m ∷ []) r b = (b.0, tt)
rises-end n (m ∷ k ∷ ms) r b = (r.0, rises-end n (k ∷ ms) r.1 b.1)

-- the numbers of counted operations that pass a test
abbrev numbered : (Operation → Bool) → List Operation → List ℕ
numbered p xs = reverse (map (λ a. a.occ) (filter p xs))

numbered-cons : (p : Operation → Bool) (x : Operation) (xs : List Operation)
    → numbered p (x ∷ xs) ≡ cond (p x) (numbered p xs ++ x.occ ∷ []) (numbered p xs)
numbered-cons p x xs = by_test (p x)
    (λ passes. rw passes (reverse-cons x.occ (map (λ (a : Operation). a.occ) (filter p xs))))
    (λ fails. rw fails refl)

below-all : (p : Operation → Bool) (xs : List Operation) → IsCounted (λ a. a.occ) xs → Below (length xs + 1) (numbered p xs)
below-all p [] counted = tt
below-all p (x ∷ xs) counted =
    let number = counted.0 in
    let rest : Below (suc (length xs) + 1) (numbered p xs) = below-more (length xs + 1) (suc (length xs) + 1) (numbered p xs)
    (below-all p xs counted.1) (omega arith) in
    subst (λ (ns : List ℕ). Below (suc (length xs) + 1) ns) (sym (numbered-cons p x xs))
    (by _ _ (suc (length xs) + 1) (p x) rest (below-end (suc (length xs) + 1) x.occ (numbered p xs) rest (omega (arith, number)))) where
      by : (P Q : List ℕ) (n : ℕ) (b : Bool) → Below n Q → Below n P → Below n (cond b P Q)
      by P Q n true q p = p
      by P Q n false q p = q

rises-all : (p : Operation → Bool) (xs : List Operation) → IsCounted (λ a. a.occ) xs → Rises (numbered p xs)
rises-all p [] counted = tt
rises-all p (x ∷ xs) counted =
    let rest : Rises (numbered p xs) = rises-all p xs counted.1 in
    let low : Below x.occ (numbered p xs) = subst (λ (n : ℕ). Below n (numbered p xs)) (sym counted.0) (below-all p xs counted.1) in
    subst (λ (ns : List ℕ). Rises ns) (sym (numbered-cons p x xs)) (by _ _ (p x) rest (rises-end x.occ (numbered p xs) rest low)) where
      by : (P Q : List ℕ) (b : Bool) → Rises Q → Rises P → Rises (cond b P Q)
      by P Q true q p = p
      by P Q false q p = q

-- the active numbers rise
pub active-rises : (width m : ℕ) (H : List Event) → IsLegalWithin width m H → Rises (active H)
active-rises width m H legal = rises-all (is_worked_on H) (operations H) (operations_counted width m H legal)

with-end : (n : ℕ) (ms : List ℕ) → Below n ms → with_number n ms ≡ ms ++ n ∷ []
with-end n [] b = refl
with-end n (m ∷ ms) b = let less : nat_lt m n ≡ true = lt-ltb m n b.0 in rw less (ap (λ (ks : List ℕ). m ∷ ks) (with-end n ms b.1))

with-there : (n : ℕ) (ms : List ℕ) → Below n ms → with_number n (ms ++ n ∷ []) ≡ ms ++ n ∷ []
with-there n [] b =
    let no : nat_lt n n ≡ false = le-ltb n n (omega arith) in
    let same : (n == n) ≡ true = eq-eqb n n refl in
    rw (no, same) refl
with-there n (m ∷ ms) b = let less : nat_lt m n ≡ true = lt-ltb m n b.0 in rw less (ap (λ (ks : List ℕ). m ∷ ks) (with-there n ms b.1))

with-front : (n y : ℕ) (ms : List ℕ) → n < y → with_number n (ms ++ y ∷ []) ≡ with_number n ms ++ y ∷ []
with-front n y [] h =
    let no : nat_lt y n ≡ false = le-ltb y n (omega (arith, h)) in
    let other : (y == n) ≡ false = apart y n h in
    rw (no, other) refl where
      apart : (a b : ℕ) → b < a → (a == b) ≡ false
      apart a b h = by_test (a == b) (λ same. let is : a ≡ b = eqb-true a b same in absurd (omega (arith, h, is))) (λ no. no)
with-front n y (m ∷ ms) h = by_test (nat_lt m n)
    (λ less. rw less (ap (λ (ks : List ℕ). m ∷ ks) (with-front n y ms h)))
    (λ more. by_test (m == n) (λ same. rw (more, same) refl) (λ other. rw (more, other) refl))

-- a test that differs at one number alone, above all
agree : (p q : Operation → Bool) (o : ℕ) (b : Bool) (xs : List Operation) → IsCounted (λ a. a.occ) xs → length xs < o
    → ((a : Operation) → q a ≡ cond (o == a.occ) b (p a)) → filter q xs ≡ filter p xs
agree p q o b [] counted low e = refl
agree p q o b (x ∷ xs) counted low e =
    let number = counted.0 in
    let other : (o == x.occ) ≡ false = by_test (o == x.occ) (λ same. let is : o ≡ x.occ = eqb-true o x.occ same in
    absurd (omega (arith, low, number, is))) (λ no. no) in
    let same : q x ≡ p x = e x ∙ ap (λ (c : Bool). cond c b (p x)) other in
    let rest = agree p q o b xs counted.1 (omega (arith, low)) e in
    by_test (p x)
    (λ passes. let too : q x ≡ true = same ∙ passes in rw (passes, too) (ap (λ (ys : List Operation). x ∷ ys) rest))
    (λ fails. let too : q x ≡ false = same ∙ fails in rw (fails, too) rest)

-- one more number passes
with_one : (p q : Operation → Bool) (o : ℕ) (xs : List Operation) → IsCounted (λ a. a.occ) xs → 1 ≤ o → o ≤ length xs
    → ((a : Operation) → q a ≡ cond (o == a.occ) true (p a)) → numbered q xs ≡ with_number o (numbered p xs)
with_one p q o [] counted low high e = absurd (omega (arith, low, high))
with_one p q o (x ∷ xs) counted low high e =
    let number = counted.0 in
    by_test (o == x.occ)
    (λ same.
    let is : o ≡ x.occ = eqb-true o x.occ same in
    let passes : q x ≡ true = e x ∙ ap (λ (c : Bool). cond c true (p x)) same in
    let front : numbered q xs ≡ numbered p xs = ap (λ (ys : List Operation). reverse (map (λ (a : Operation). a.occ) ys))
    (agree p q o true xs counted.1 (omega (arith, is, number)) e) in
    let low_all : Below o (numbered p xs) = subst (λ (n : ℕ). Below n (numbered p xs)) (sym (is ∙ number)) (below-all p xs counted.1) in
    let left : numbered q (x ∷ xs) ≡ numbered p xs ++ o ∷ [] =
    numbered-cons q x xs ∙ (ap (λ (c : Bool). cond c (numbered q xs ++ x.occ ∷ []) (numbered q xs)) passes
    ∙ (ap (λ (ys : List ℕ). ys ++ x.occ ∷ []) front ∙ ap (λ (n : ℕ). numbered p xs ++ n ∷ []) (sym is))) in
    left ∙ sym (ap (λ (ys : List ℕ). with_number o ys) (numbered-cons p x xs) ∙ either (p x) x.occ (numbered p xs) is low_all))
    (λ other.
    let differ : o ≢ x.occ = false-eqb o x.occ (sym other) in
    let same : q x ≡ p x = e x ∙ ap (λ (c : Bool). cond c true (p x)) other in
    let rest : numbered q xs ≡ with_number o (numbered p xs) = with_one p q o xs counted.1 low (omega (arith, high, number, differ)) e in
    numbered-cons q x xs
    ∙ (ap (λ (c : Bool). cond c (numbered q xs ++ x.occ ∷ []) (numbered q xs)) same
    ∙ (ap (λ (ys : List ℕ). cond (p x) (ys ++ x.occ ∷ []) ys) rest
    ∙ (over (p x) o x.occ (numbered p xs) (omega (arith, high, number, differ))
    ∙ ap (λ (ys : List ℕ). with_number o ys) (sym (numbered-cons p x xs)))))) where
      either : (c : Bool) (y : ℕ) (ms : List ℕ) → o ≡ y → Below o ms → with_number o (cond c (ms ++ y ∷ []) ms) ≡ ms ++ o ∷ []
      either true y ms is b = ap (λ (n : ℕ). with_number o (ms ++ n ∷ [])) (sym is) ∙ with-there o ms b
      either false y ms is b = with-end o ms b

      over : (c : Bool) (n y : ℕ) (ms : List ℕ) → n < y → cond c (with_number n ms ++ y ∷ []) (with_number n ms)
          ≡ with_number n (cond c (ms ++ y ∷ []) ms)
      over true n y ms h = sym (with-front n y ms h)
      over false n y ms h = refl

-- one number passes no more
without_one : (p q : Operation → Bool) (o : ℕ) (xs : List Operation) → ((a : Operation) → q a ≡ cond (o == a.occ) false (p a))
    → numbered q xs ≡ without_number o (numbered p xs)
without_one p q o xs e =
    ap (λ (ys : List Operation). reverse (map (λ (a : Operation). a.occ) ys))
    (filter_both (λ a. not (a.occ == o)) p q xs (λ a. e a ∙ turned (o == a.occ) (a.occ == o) (p a) (flip o a.occ)))
    ∙ (ap reverse (sym (filter_map_swap (λ n. not (n == o)) (λ (a : Operation). a.occ) (filter p xs)))
    ∙ sym (filter_reverse (λ n. not (n == o)) (map (λ (a : Operation). a.occ) (filter p xs)))) where
      flip : (a b : ℕ) → (a == b) ≡ (b == a)
      flip a b = by_test (a == b)
          (λ same. let is : b ≡ a = sym (eqb-true a b same) in same ∙ sym (eq-eqb b a is))
          (λ other. by_test (b == a)
          (λ same. let is : a ≡ b = sym (eqb-true b a same) in absurd (false-eqb a b (sym other) is))
          (λ too. other ∙ sym too))

      turned : (b c x : Bool) → b ≡ c → cond b false x ≡ (not c && x)
      turned true true x e = refl
      turned true false x e = cc
      turned false true x e = cc
      turned false false x e = refl

-- whether an operation is worked on after a move
worked_moved : (H : List Event) (time o : ℕ) (to : OpState) (a : Operation) (b : Bool) → is_active to ≡ b
    → is_worked_on (event time (Moved o to) ∷ H) a ≡ cond (o == a.occ) b (is_worked_on H a)
worked_moved H time o to a b e = by_test (o == a.occ)
    (λ same. ap is_active (state-moved H time a.occ o to true same) ∙ (e ∙ sym (ap (λ (c : Bool). cond c b (is_worked_on H a)) same)))
    (λ other. ap is_active (state-moved H time a.occ o to false other) ∙ sym (ap (λ (c : Bool). cond c b (is_worked_on H a)) other))

-- what an event makes of the active numbers
pub active-step : (width m : ℕ) (H : List Event) (time : ℕ) (k : EventKind) → IsLegalWithin width m H → IsAllowedWithin width m H k
    → active (event time k ∷ H) ≡ active_after k (active H)
active-step width m H time (Asked a) legal allowed =
    let none : operation H a.occ ≡ None = none_there (operation H a.occ) (λ there.
    let high = ((found_exactly width m H legal a.occ).0 there).1 in omega (arith, high, allowed.number)) in
    let still = unasked_untouched width m H legal a.occ none in
    let begins : is_worked_on H a ≡ true = rw still.moves refl in
    numbered-cons (is_worked_on H) a (operations H) ∙ ap (λ (c : Bool). cond c (active H ++ a.occ ∷ []) (active H)) begins
active-step width m H time (Moved o to) legal allowed =
    let within = (found_exactly width m H legal o).0 allowed.0 in
    by_test (is_active to)
    (λ works.
    with_one (is_worked_on H) (is_worked_on (event time (Moved o to) ∷ H)) o (operations H)
    (operations_counted width m H legal) within.0 within.1
    (λ a. worked_moved H time o to a true works)
    ∙ ap (λ (c : Bool). cond c (with_number o (active H)) (without_number o (active H))) (sym works))
    (λ rests.
    without_one (is_worked_on H) (is_worked_on (event time (Moved o to) ∷ H)) o (operations H) (λ a. worked_moved H time o to a false rests)
    ∙ ap (λ (c : Bool). cond c (with_number o (active H)) (without_number o (active H))) (sym rests))
active-step width m H time _ legal allowed = refl

fewer : {A : Type 0} → (p : A → Bool) (xs : List A) → length (filter p xs) ≤ length xs
fewer p [] = omega arith
fewer p (x ∷ xs) = let rest = fewer p xs in by_test (p x) (λ passes. rw passes (omega (arith, rest)))
    (λ fails. rw fails (omega (arith, rest)))

-- at most as many occurrences are active as there are
few_active : (H : List Event) → length (active H) ≤ length (operations H)
few_active H =
    let worked : List Operation = filter (is_worked_on H) (operations H) in
    omega (
      arith,
      fewer (is_worked_on H) (operations H),
      length-reverse (map (λ (a : Operation). a.occ) worked),
      length-map worked (λ (a : Operation). a.occ),
    )

-- there is a row for each operation
rows_there : (rs : List OccRow) (H : List Event) → StandsFor rs H → length rs ≡ length (operations H)
rows_there rs H stands = ap (λ (xs : List OccRow). length xs) stands
    ∙ (length-reverse (map (row H) (operations H)) ∙ length-map (operations H) (row H))

-- each active occurrence has a row
pub active_fit : (rs : List OccRow) (ns : List ℕ) (H : List Event) → StandsFor rs H → ns ≡ active H → length ns ≤ length rs
active_fit rs ns H stands is = omega (arith, few_active H, rows_there rs H stands, ap length is)

-- each active occurrence has a row, after a move too
pub moved_fit : (width m : ℕ) (H : List Event) (e : Event) (o : ℕ) (to : OpState) (rs : List OccRow) (ns : List ℕ) → e.kind ≡ Moved o to
    → IsLegalWithin width m H
    → IsAllowedWithin width m H e.kind → StandsFor rs H → ns ≡ active H → length (active_moved o to ns) ≤ length rs
moved_fit width m H e o to rs ns is legal allowed stands was =
    let may : IsAllowedWithin width m H (Moved o to) = subst (λ (k : EventKind). IsAllowedWithin width m H k) is allowed in
    let after = active-step width m H e.moment (Moved o to) legal may in
    let long : length (active (event e.moment (Moved o to) ∷ H)) ≡ length (active_moved o to ns) =
    ap length after ∙ ap (λ (ks : List ℕ). length (active_moved o to ks)) (sym was) in
    omega (arith, few_active (event e.moment (Moved o to) ∷ H), rows_there rs H stands, long)

-- how many stand at the front that pass a test
abbrev leading : (ℕ → Bool) → List ℕ → ℕ
leading p [] = 0
leading p (n ∷ ns) = cond (p n) (suc (leading p ns)) 0

leading-is : (p : ℕ → Bool) (ns : List ℕ) (k : ℕ) → k ≤ length ns → AllWithin (λ n. p n ≡ true) ns 0 k
    → AllWithin (λ n. p n ≡ false) ns k (length ns) → k ≡ leading p ns
leading-is p [] k h front back = omega (arith, h)
leading-is p (n ∷ ns) zero h front back = let fails : p n ≡ false = back 0 n (omega arith) (omega arith) in rw fails refl
leading-is p (n ∷ ns) (suc k) h front back =
    let passes : p n ≡ true = front 0 n (omega arith) (omega arith) in
    let rest : k ≡ leading p ns = leading-is p ns k (omega (arith, h))
    (λ j d low high. front (suc j) d (omega arith) (omega (arith, high)))
    (λ j d low high. back (suc j) d (omega (arith, low)) (omega (arith, high))) in
    rw passes (ap suc rest)

found-behind : (p q : ℕ → Bool) (ns : List ℕ) → ((n : ℕ) → q n ≡ not (p n)) → slice_get ns (leading p ns) ≡ find q ns
found-behind p q [] e = refl
found-behind p q (n ∷ ns) e = by_test (p n)
    (λ passes. let no : q n ≡ false = e n ∙ ap not passes in rw (passes, no) (found-behind p q ns e))
    (λ fails. let yes_q : q n ≡ true = e n ∙ ap not fails in rw (fails, yes_q) refl)

-- numbers up to one stand before those above it
rises-index : (ns : List ℕ) (i j : ℕ) (d : ℕ) → Rises ns → i ≤ j → j < length ns → slice_index_or ns i d ≤ slice_index_or ns j d
rises-index [] i j d r h less = absurd (omega (arith, less))
rises-index (n ∷ ns) zero zero d r h less = omega arith
rises-index (n ∷ []) i (suc j) d r h less = absurd (omega (arith, less))
rises-index (n ∷ k ∷ ns) zero (suc j) d r h less =
    let rest = rises-index (k ∷ ns) zero j d r.1 (omega arith) (omega (arith, less)) in
    let low = r.0 in
    omega (arith, rest, low)
rises-index (n ∷ k ∷ ns) (suc i) (suc j) d r h less = rises-index (k ∷ ns) i j d r.1 (omega (arith, h)) (omega (arith, less))
rises-index (n ∷ ns) (suc i) zero d r h less = absurd (omega (arith, h))

pub parted : (after : ℕ) (ns : List ℕ) → Rises ns → IsPartitionedBy (λ n. not (nat_lt after n)) ns
parted after ns r = λ i j d h less passes.
    let up = rises-index ns i j d r h less in
    let small = ltb-false after (slice_index_or ns j d) (not-true-of _ passes) in
    ap not (le-ltb after (slice_index_or ns i d) (omega (arith, up, small))) where
      not-true-of : (b : Bool) → not b ≡ true → b ≡ false
      not-true-of true e = cc
      not-true-of false e = refl

-- the first number above one stands where those up to it end
pub above_found : (after : ℕ) (ns : List ℕ) (k : ℕ) → k ≤ length ns
    → IsPartitionPoint (λ n. not (nat_lt after n) ≡ true) (λ n. not (nat_lt after n) ≡ false) ns k
    → slice_get ns k ≡ find (λ n. nat_lt after n) ns
above_found after ns k h point =
    ap (slice_get ns) (leading-is (λ n. not (nat_lt after n)) ns k h point.0 point.1)
    ∙ found-behind (λ n. not (nat_lt after n)) (λ n. nat_lt after n) ns (λ n. twice (nat_lt after n)) where
      twice : (b : Bool) → b ≡ not (not b)
      twice true = refl
      twice false = refl

pub insert-with : (n : ℕ) (ms : List ℕ) → (slice_get ms (first_from n ms) ≡ Some n → ⊥) → insert ms (first_from n ms) n ≡ with_number n ms
insert-with n [] f = refl
insert-with n (m ∷ ms) f = by_test (nat_lt m n)
    (λ less. rw less (ap (λ (ks : List ℕ). m ∷ ks) (insert-with n ms (λ there. f (rw less there)))))
    (λ more. by_test (m == n)
    (λ same. let is : m ≡ n = eqb-true m n same in absurd (f (rw more (ap Some is))))
    (λ other. rw (more, other) refl))

pub there-with : (n : ℕ) (ms : List ℕ) → slice_get ms (first_from n ms) ≡ Some n → ms ≡ with_number n ms
there-with n [] e = cc
there-with n (m ∷ ms) e = by_test (nat_lt m n)
    (λ less. rw less (ap (λ (ks : List ℕ). m ∷ ks) (there-with n ms
    (subst (λ (b : Bool). slice_get (m ∷ ms) (cond b (suc (first_from n ms)) 0) ≡ Some n) less e))))
    (λ more.
    let is : m ≡ n = some_same (subst (λ (b : Bool). slice_get (m ∷ ms) (cond b (suc (first_from n ms)) 0) ≡ Some n) more e) in
    let same : (m == n) ≡ true = eq-eqb m n is in
    rw (more, same) refl) where
      some_same : {a b : ℕ} → Some a ≡ Some b → a ≡ b
      some_same e = cc

pub first-within : (n : ℕ) (ms : List ℕ) → first_from n ms ≤ length ms
first-within n [] = omega arith
first-within n (m ∷ ms) = by_test (nat_lt m n)
    (λ less. let rest = first-within n ms in rw less (omega (arith, rest)))
    (λ more. rw more (omega arith))

-- active numbers that followed an event
pub activated : (width m : ℕ) (H : List Event) (e : Event) (old new : List ℕ) → IsLegalWithin width m H → IsAllowedWithin width m H e.kind
    → old ≡ active H
    → new ≡ active_after e.kind old → new ≡ active (e ∷ H)
activated width m H e old new legal allowed was is =
    is ∙ (ap (λ (ns : List ℕ). active_after e.kind ns) was ∙ sym (active-step width m H e.moment e.kind legal allowed))

-- an event that neither asks nor moves leaves the active numbers
pub unmoved : (k : EventKind) (ns : List ℕ) → ((a : Operation) → k ≡ Asked a → ⊥) → ((o : ℕ) (to : OpState) → k ≡ Moved o to → ⊥)
    → ns ≡ active_after k ns
unmoved (Asked a) ns f g = absurd (f a refl)
unmoved (Moved o to) ns f g = absurd (g o to refl)
unmoved _ ns f g = refl

-- what follows the last of rising active numbers up to one
pub followed_by : (width m : ℕ) (H : List Event) (after : ℕ) (x : Option ℕ) (ns : List ℕ) → IsLegalWithin width m H → ns ≡ active H
    → (Rises ns → x ≡ find (λ n. nat_lt after n) ns) → x ≡ next_active H after
followed_by width m H after x ns legal is f =
    f (subst (λ (ks : List ℕ). Rises ks) (sym is) (active-rises width m H legal)) ∙ ap (λ (ks : List ℕ). find (λ n. nat_lt after n) ks) is
