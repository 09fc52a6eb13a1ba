-- What each event makes of the ongoing operations, and what is found among them.
use Rattle.std.proofs.Common.{◌≡◌, ◌≢◌, ◌≤◌, ◌+◌, ◌-◌, ◌++◌, ◌&&◌, ◌==◌, ◌∙◌, ℕ, List, [], ◌∷◌, zero, suc, Bool, true, false, cond, not}
use Rattle.std.proofs.Common.{Option, None, Some, is_some, refl, ap, sym, subst, length, map, filter, find, slice_get, arith, eqb-true}
use Rattle.std.proofs.Common.{eq-eqb, false-eqb, inl, inr, option_map}
use Rattle.std.specs.List.{range_with_len}
use Rattle.std.specs.Prelude.{option_and_then, slice_set}
use Rattle.std.proofs.lemmas.List.FromFn.{map-range_with_len_more}
use Rattle.lcm_events.proofs.SameLaws.{eq-refl}
use Rattle.lcm_events.specs.declared.events.Event.{Event}
use Rattle.lcm_events.specs.declared.events.EventKind.{EventKind}
use Rattle.lcm_events.specs.declared.events.EventKind.TheVariants.{Asked, Created, Moved}
use Rattle.lcm_events.specs.declared.events.Operation.{Operation}
use Rattle.lcm_events.specs.declared.states.OpState.{OpState}
use Rattle.lcm_model.specs.Allowed.{IsAllowedWithin, IsLegalWithin}
use Rattle.lcm_model.specs.Lives.{instances_made}
use Rattle.lcm_model.specs.Moves.{is_final, state}
use Rattle.lcm_model.specs.Operations.{goes_on, is_ongoing, ongoing, operation, operations}
use Rattle.lcm_model.specs.Words.{IsIn, first}
use Rattle.lcm_model.specs.Work.{MayMove}
use Rattle.lcm_laws.proofs.AboutLaws.{unasked_untouched}
use Rattle.lcm_laws.proofs.Histories.{event}
use Rattle.lcm_laws.proofs.Lists.{and_left, and_right, and_true, by_test, not-false}
use Rattle.lcm_laws.proofs.Members.{in_filter}
use Rattle.lcm_laws.proofs.NumberLaws.{IsCounted, find-skips, found_exactly, operations_counted}
use Rattle.lcm_laws.proofs.OngoingLaws.{edge-goes_on, goes_on-before, one_ongoing, state-moved}
use Rattle.lcm_laws.proofs.PathLaws.{may_move-edge}
use Rattle.lcm_laws.proofs.PlanHistory.{found_in}
use Rattle.occ_table.specs.Ongoing.{instance_in, ongoing_in, ongoing_moved, ongoing_of, ongoings, ongoings_after, with_ongoing}
use Rattle.occ_table.specs.Rows.{StandsFor, row, rows}
use Rattle.occ_table.specs.declared.rows.OccRow.{OccRow}
use Rattle.occ_table.proofs.ChangeSteps.{differs, maps_same}
use Rattle.occ_table.proofs.HomeLaws.{homed, live_number, not_zero}
use Rattle.occ_table.proofs.RowsSteps.{looked, none_there}

-- nothing passes a test that all fail
none_pass : {A : Type 0} → (p : A → Bool) (xs : List A) → ((x : A) → IsIn x xs → p x ≡ false) → filter p xs ≡ []
none_pass p [] f = refl
none_pass p (x ∷ xs) f = let no : p x ≡ false = f x (inl refl) in rw no (none_pass p xs (λ y h. f y (inr h)))

-- tests that agree on a list let the same through
same_pass : {A : Type 0} → (p q : A → Bool) (xs : List A) → ((x : A) → IsIn x xs → p x ≡ q x) → filter p xs ≡ filter q xs
same_pass p q [] f = refl
same_pass {A} p q (x ∷ xs) f =
    let rest : filter p xs ≡ filter q xs = same_pass p q xs (λ y h. f y (inr h)) in
    let here : p x ≡ q x = f x (inl refl) in
    by_test (q x)
    (λ passes. let too : p x ≡ true = here ∙ passes in rw (too, passes) (ap (λ (ys : List A). x ∷ ys) rest))
    (λ fails. let too : p x ≡ false = here ∙ fails in rw (too, fails) rest)

-- what is in a list of at most one
only : {A : Type 0} → (xs : List A) (x y : A) → length xs ≤ 1 → IsIn x xs → IsIn y xs → x ≡ y
only [] x y h hx hy = absurd hx
only (z ∷ []) x y h (inl ex) (inl ey) = sym ex ∙ ey
only (z ∷ []) x y h (inl ex) (inr hy) = absurd hy
only (z ∷ []) x y h (inr hx) hy = absurd hx
only (z ∷ w ∷ xs) x y h hx hy = absurd (omega (arith, h))

-- a value that is there
there : {A : Type 0} → (x : Option A) → is_some x ≡ true → (a : A) × (x ≡ Some a)
there None e = cc
there (Some a) e = (a, refl)

-- an operation among counted ones is found by its number
one_number : (xs : List Operation) (x : Operation) → IsCounted (λ a. a.occ) xs → IsIn x xs → find (λ a. a.occ == x.occ) xs ≡ Some x
one_number [] x counted h = absurd h
one_number (y ∷ xs) x counted (inl is) =
    let same : (y.occ == x.occ) ≡ true = eq-eqb y.occ x.occ (ap (λ (a : Operation). a.occ) is) in rw same (ap Some is)
one_number (y ∷ xs) x counted (inr h) = find-skips (λ (a : Operation). a.occ) y xs x.occ x counted.0 counted.1 (one_number xs x counted.1 h)

same_number : (xs : List Operation) (x y : Operation) → IsCounted (λ a. a.occ) xs → IsIn x xs → IsIn y xs → x.occ ≡ y.occ → x ≡ y
same_number xs x y counted hx hy e =
    let both : Some x ≡ Some y = sym (one_number xs x counted hx) ∙ (ap (λ (n : ℕ). find (λ (a : Operation). a.occ == n) xs) e
    ∙ one_number xs y counted hy) in cc

-- what is found by its number has it
has_number : (xs : List Operation) (o : ℕ) (x : Operation) → find (λ a. a.occ == o) xs ≡ Some x → x.occ ≡ o
has_number [] o x e = cc
has_number (y ∷ xs) o x e = by_test (y.occ == o)
    (λ same.
    let is : Some y ≡ Some x = subst (λ (b : Bool). cond b (Some y) (find (λ (a : Operation). a.occ == o) xs) ≡ Some x) same e in
    let one : y ≡ x = cc in
    sym (ap (λ (a : Operation). a.occ) one) ∙ eqb-true y.occ o same)
    (λ other. has_number xs o x (subst (λ (b : Bool). cond b (Some y) (find (λ (a : Operation). a.occ == o) xs) ≡ Some x) other e))

-- no operation goes on of an instance that wasn't created
nowhere : (width m : ℕ) (H : List Event) → IsLegalWithin width m H → (i : ℕ) → (1 ≤ i → i ≤ instances_made H → ⊥) → ongoing H i ≡ []
nowhere width m H legal i f = none_pass (is_ongoing H i) (operations H) (λ a among. by_test (a.instance == i)
    (λ same.
    let is : a.instance ≡ i = eqb-true a.instance i same in
    let from = homed width m H legal a among in
    absurd (f (omega (arith, from.0, is)) (omega (arith, from.1, is))))
    (λ other. rw other refl))

nowhere_of : (width m : ℕ) (H : List Event) → IsLegalWithin width m H → (i : ℕ) → (1 ≤ i → i ≤ instances_made H → ⊥) → ongoing_of H i ≡ None
nowhere_of width m H legal i f = ap (λ (xs : List Operation). option_map (λ (a : Operation). a.occ) (first xs))
    (nowhere width m H legal i f)

-- the operation that is asked for goes on
begins : (width m : ℕ) (H : List Event) (time : ℕ) (a : Operation) → IsLegalWithin width m H → IsAllowedWithin width m H (Asked a)
    → goes_on (event time (Asked a) ∷ H) a ≡ true
unfolding goes_on
begins width m H time a legal allowed =
    let none : operation H a.occ ≡ None = none_there (operation H a.occ) (λ found.
    let high = ((found_exactly width m H legal a.occ).0 found).1 in omega (arith, high, allowed.number)) in
    let still = unasked_untouched width m H legal a.occ none in
    rw still.moves refl

-- the operations of an instance that go on, once one more is asked for
asked_front : (H : List Event) (time : ℕ) (a : Operation) (i : ℕ)
    → ongoing (event time (Asked a) ∷ H) i ≡ cond (is_ongoing (event time (Asked a) ∷ H) i a) (a ∷ ongoing H i) (ongoing H i)
unfolding goes_on
asked_front H time a i = refl

asked_own : (width m : ℕ) (H : List Event) (time : ℕ) (a : Operation) → IsLegalWithin width m H → IsAllowedWithin width m H (Asked a)
    → ongoing_of (event time (Asked a) ∷ H) a.instance ≡ Some a.occ
asked_own width m H time a legal allowed =
    let on : is_ongoing (event time (Asked a) ∷ H) a.instance a ≡ true =
    and_true (a.instance == a.instance) (goes_on (event time (Asked a) ∷ H) a) (eq-refl a.instance)
    (begins width m H time a legal allowed) in
    ap (λ (xs : List Operation). option_map (λ (x : Operation). x.occ) (first xs))
    (asked_front H time a a.instance ∙ ap (λ (b : Bool). cond b (a ∷ ongoing H a.instance) (ongoing H a.instance)) on)

asked_other : (H : List Event) (time : ℕ) (a : Operation) (i : ℕ) → (a.instance == i) ≡ false
    → ongoing_of (event time (Asked a) ∷ H) i ≡ ongoing_of H i
asked_other H time a i other =
    let no : is_ongoing (event time (Asked a) ∷ H) i a ≡ false = rw other refl in
    ap (λ (xs : List Operation). option_map (λ (x : Operation). x.occ) (first xs))
    (asked_front H time a i ∙ ap (λ (b : Bool). cond b (a ∷ ongoing H i) (ongoing H i)) no)

-- whether an operation goes on after a move of another
moved_away : (H : List Event) (time o : ℕ) (to : OpState) (a : Operation) → (o == a.occ) ≡ false
    → goes_on (event time (Moved o to) ∷ H) a ≡ goes_on H a
unfolding goes_on
moved_away H time o to a other = ap (λ (s : OpState). not (is_final s)) (state-moved H time a.occ o to false other)

-- whether an operation goes on after a move of its own
moved_there : (H : List Event) (time o : ℕ) (to : OpState) (a : Operation) → (o == a.occ) ≡ true
    → goes_on (event time (Moved o to) ∷ H) a ≡ not (is_final to)
unfolding goes_on
moved_there H time o to a same = ap (λ (s : OpState). not (is_final s)) (state-moved H time a.occ o to true same)

-- an operation that moves goes on before
went_on : (H : List Event) (o : ℕ) (to : OpState) (a : Operation) → MayMove H o (state H o) to → a.occ ≡ o → goes_on H a ≡ true
unfolding goes_on
went_on H o to a may is =
    subst (λ (n : ℕ). not (is_final (state H n)) ≡ true) (sym is) (not-false (is_final (state H o))
    (edge-goes_on (state H o) to (may_move-edge H o (state H o) to may)))

goes_same : (H : List Event) (time o : ℕ) (to : OpState) (a : Operation) → MayMove H o (state H o) to → is_final to ≡ false
    → goes_on (event time (Moved o to) ∷ H) a ≡ goes_on H a
goes_same H time o to a may rests = by_test (o == a.occ)
    (λ same. moved_there H time o to a same ∙ (ap not rests ∙ sym (went_on H o to a may (sym (eqb-true o a.occ same)))))
    (λ other. moved_away H time o to a other)

-- a move to a state that isn't final ends no operation
moved_on : (H : List Event) (time o : ℕ) (to : OpState) (i : ℕ) → MayMove H o (state H o) to → is_final to ≡ false
    → ongoing_of (event time (Moved o to) ∷ H) i ≡ ongoing_of H i
moved_on H time o to i may rests =
    ap (λ (xs : List Operation). option_map (λ (x : Operation). x.occ) (first xs))
    (same_pass (is_ongoing (event time (Moved o to) ∷ H) i) (is_ongoing H i) (operations H)
    (λ a among. ap (λ (b : Bool). (a.instance == i) && b) (goes_same H time o to a may rests)))

-- the operations of other instances go on after a move
moved_other : (width m : ℕ) (H : List Event) (time o : ℕ) (to : OpState) (a : Operation) (i : ℕ) → IsLegalWithin width m H
    → IsIn a (operations H) → a.occ ≡ o
    → (a.instance == i) ≡ false → ongoing_of (event time (Moved o to) ∷ H) i ≡ ongoing_of H i
moved_other width m H time o to a i legal mine is other =
    ap (λ (xs : List Operation). option_map (λ (x : Operation). x.occ) (first xs))
    (same_pass (is_ongoing (event time (Moved o to) ∷ H) i) (is_ongoing H i) (operations H)
    (λ x among. by_test (o == x.occ)
    (λ same.
    let one : a ≡ x = same_number (operations H) a x (operations_counted width m H legal) mine among (is ∙ eqb-true o x.occ same) in
    let away : (x.instance == i) ≡ false = subst (λ (y : Operation). (y.instance == i) ≡ false) one other in
    rw away refl)
    (λ differs. ap (λ (b : Bool). (x.instance == i) && b) (moved_away H time o to x differs))))

-- after a move to a final state no operation of the instance goes on
moved_own : (width m : ℕ) (H : List Event) (time o : ℕ) (to : OpState) (a : Operation) → IsLegalWithin width m H
    → MayMove H o (state H o) to
    → IsIn a (operations H) → a.occ ≡ o → is_final to ≡ true → ongoing_of (event time (Moved o to) ∷ H) a.instance ≡ None
moved_own width m H time o to a legal may mine is ends =
    ap (λ (xs : List Operation). option_map (λ (x : Operation). x.occ) (first xs))
    (none_pass (is_ongoing (event time (Moved o to) ∷ H) a.instance) (operations H) (λ x among.
    by_test (is_ongoing (event time (Moved o to) ∷ H) a.instance x)
    (λ on.
    let home : (x.instance == a.instance) ≡ true = and_left (x.instance == a.instance) (goes_on (event time (Moved o to) ∷ H) x) on in
    let goes : goes_on (event time (Moved o to) ∷ H) x ≡ true = and_right (x.instance == a.instance)
    (goes_on (event time (Moved o to) ∷ H) x) on in
    let went : goes_on H x ≡ true = goes_on-before H time o to x may goes in
    let here : IsIn x (ongoing H a.instance) = in_filter (is_ongoing H a.instance) x (operations H) among
    (and_true (x.instance == a.instance) (goes_on H x) home went) in
    let own : IsIn a (ongoing H a.instance) = in_filter (is_ongoing H a.instance) a (operations H) mine
    (and_true (a.instance == a.instance) (goes_on H a) (eq-refl a.instance) (went_on H o to a may is)) in
    let one : a ≡ x = only (ongoing H a.instance) a x (one_ongoing width m H legal a.instance) own here in
    let number : o ≡ x.occ = sym is ∙ ap (λ (y : Operation). y.occ) one in
    let same : (o == x.occ) ≡ true = eq-eqb o x.occ number in
    let clash : true ≡ false = sym goes ∙ (moved_there H time o to x same ∙ ap not ends) in
    cc)
    (λ no. no)))

-- the place of a number from 1
at_place : (i : ℕ) (x : Option ℕ) (xs : List (Option ℕ)) → 1 ≤ i → with_ongoing i x xs ≡ slice_set xs (i - 1) x
at_place i x xs low = ap (λ (b : Bool). cond b xs (slice_set xs (i - 1) x)) (not_zero i low)

-- what is set at the place of an instance alone
set_one : (f g : ℕ → Option ℕ) (n i : ℕ) (x : Option ℕ) → 1 ≤ i → g i ≡ x → ((c : ℕ) → (i == c) ≡ false → g c ≡ f c)
    → map g (range_with_len 1 n) ≡ with_ongoing i x (map f (range_with_len 1 n))
set_one f g n i x low is e = differs f g 1 n (i - 1) i x (omega (arith, low)) is e ∙ sym (at_place i x (map f (range_with_len 1 n)) low)

created_step : (width m : ℕ) (H : List Event) (time i : ℕ) (vnfd : List ℕ) (name text : Option (List ℕ)) → IsLegalWithin width m H
    → ongoings (event time (Created i vnfd name text) ∷ H) ≡ ongoings H ++ None ∷ []
unfolding goes_on
created_step width m H time i vnfd name text legal =
    let n : ℕ = instances_made H in
    let more : suc n ≡ n + 1 = omega arith in
    ap (λ (k : ℕ). map (ongoing_of H) (range_with_len 1 k)) more
    ∙ (map-range_with_len_more (ongoing_of H) 1 n (1 + n) refl
    ∙ ap (λ (x : Option ℕ). map (ongoing_of H) (range_with_len 1 n) ++ x ∷ [])
    (nowhere_of width m H legal (1 + n) (λ low high. omega (arith, high))))

-- the instance of an occurrence that was asked for
home_of : (width m : ℕ) (H : List Event) (o : ℕ) (a : Operation) → IsLegalWithin width m H → operation H o ≡ Some a → 1 ≤ o
    → instance_in o (rows H) ≡ Some a.instance
home_of width m H o a legal found low =
    ap (λ (b : Bool). option_map (λ (r : OccRow). r.instance) (cond b None (slice_get (rows H) (o - 1)))) (not_zero o low)
    ∙ (ap (λ (r : Option OccRow). option_map (λ (r : OccRow). r.instance) r) (looked width m H (rows H) o legal refl low)
    ∙ ap (λ (x : Option Operation). option_map (λ (r : OccRow). r.instance) (option_map (row H) x)) found)

moved_step : (width m : ℕ) (H : List Event) (time o : ℕ) (to : OpState) → IsLegalWithin width m H → IsAllowedWithin width m H (Moved o to)
    → ongoings (event time (Moved o to) ∷ H) ≡ ongoing_moved (instance_in o (rows H)) to (ongoings H)
moved_step width m H time o to legal allowed =
    let found = there (operation H o) allowed.0 in
    let a : Operation = found.0 in
    let mine : IsIn a (operations H) = found_in (λ (x : Operation). x.occ == o) (operations H) a found.1 in
    let is : a.occ ≡ o = has_number (operations H) o a found.1 in
    let home : instance_in o (rows H) ≡ Some a.instance = home_of width m H o a legal found.1
    ((found_exactly width m H legal o).0 allowed.0).0 in
    by_test (is_final to)
    (λ ends.
    set_one (ongoing_of H) (ongoing_of (event time (Moved o to) ∷ H)) (instances_made H) a.instance None (homed width m H legal a mine).0
    (moved_own width m H time o to a legal allowed.1 mine is ends)
    (λ c other. moved_other width m H time o to a c legal mine is other)
    ∙ (ap (λ (b : Bool). cond b (with_ongoing a.instance None (ongoings H)) (ongoings H)) (sym ends)
    ∙ ap (λ (i : Option ℕ). ongoing_moved i to (ongoings H)) (sym home)))
    (λ rests.
    maps_same (ongoing_of (event time (Moved o to) ∷ H)) (ongoing_of H) (range_with_len 1 (instances_made H))
    (λ c. moved_on H time o to c allowed.1 rests)
    ∙ (ap (λ (b : Bool). cond b (with_ongoing a.instance None (ongoings H)) (ongoings H)) (sym rests)
    ∙ ap (λ (i : Option ℕ). ongoing_moved i to (ongoings H)) (sym home)))

-- what an event makes of the ongoing operations
pub ongoings-step : (width m : ℕ) (H : List Event) (time : ℕ) (k : EventKind) → IsLegalWithin width m H → IsAllowedWithin width m H k
    → ongoings (event time k ∷ H) ≡ ongoings_after (rows H) k (ongoings H)
unfolding goes_on
ongoings-step width m H time (Created i vnfd name text) legal allowed = created_step width m H time i vnfd name text legal
ongoings-step width m H time (Asked a) legal allowed =
    set_one (ongoing_of H) (ongoing_of (event time (Asked a) ∷ H)) (instances_made H) a.instance (Some a.occ)
    (live_number width m H a.instance legal allowed.live).0
    (asked_own width m H time a legal allowed) (λ c other. asked_other H time a c other)
ongoings-step width m H time (Moved o to) legal allowed = moved_step width m H time o to legal allowed
ongoings-step width m H time _ legal allowed = refl

-- ongoing operations that followed an event
pub engaged : (width m : ℕ) (H : List Event) (e : Event) (rs : List OccRow) (old new : List (Option ℕ)) → IsLegalWithin width m H
    → IsAllowedWithin width m H e.kind
    → StandsFor rs H → old ≡ ongoings H → new ≡ ongoings_after rs e.kind old → new ≡ ongoings (e ∷ H)
engaged width m H e rs old new legal allowed stands was is =
    is
    ∙ (ap (λ (xs : List (Option ℕ)). ongoings_after rs e.kind xs) was
    ∙ (ap (λ (ss : List OccRow). ongoings_after ss e.kind (ongoings H)) stands
    ∙ sym (ongoings-step width m H e.moment e.kind legal allowed)))

-- an event that neither creates an instance, nor asks, nor moves leaves the ongoing operations
pub unengaged : (k : EventKind) (rs : List OccRow) (xs : List (Option ℕ))
    → ((i : ℕ) (vnfd : List ℕ) (name text : Option (List ℕ)) → k ≡ Created i vnfd name text → ⊥)
    → ((a : Operation) → k ≡ Asked a → ⊥) → ((o : ℕ) (to : OpState) → k ≡ Moved o to → ⊥) → xs ≡ ongoings_after rs k xs
unengaged (Created i vnfd name text) rs xs f g h = absurd (f i vnfd name text refl)
unengaged (Asked a) rs xs f g h = absurd (g a refl)
unengaged (Moved o to) rs xs f g h = absurd (h o to refl)
unengaged _ rs xs f g h = refl

-- what is found at a place of a list of options, or nothing beyond the end
entry : (f : ℕ → Option ℕ) (k n j i : ℕ) → k + j ≡ i → (n ≤ j → f i ≡ None)
    → option_and_then (λ x. x) (slice_get (map f (range_with_len k n)) j) ≡ f i
entry f k zero j i at none = sym (none (omega arith))
entry f k (suc n) zero i at none = let is : k ≡ i = omega (arith, at) in ap f is
entry f k (suc n) (suc j) i at none = entry f (k + 1) n j i (omega (arith, at)) (λ h. none (omega (arith, h)))

-- the ongoing operation of an instance is found at its place
pub engaged_at : (width m : ℕ) (H : List Event) (xs : List (Option ℕ)) (i : ℕ) → IsLegalWithin width m H → xs ≡ ongoings H
    → ongoing_in i xs ≡ ongoing_of H i
engaged_at width m H xs i legal is = by_test (i == 0)
    (λ same.
    let none : i ≡ 0 = eqb-true i 0 same in
    ap (λ (b : Bool). option_and_then (λ (x : Option ℕ). x) (cond b None (slice_get xs (i - 1)))) same
    ∙ sym (nowhere_of width m H legal i (λ low high. omega (arith, low, none))))
    (λ other.
    let some : i ≢ 0 = false-eqb i 0 (sym other) in
    ap (λ (b : Bool). option_and_then (λ (x : Option ℕ). x) (cond b None (slice_get xs (i - 1)))) other
    ∙ (ap (λ (ys : List (Option ℕ)). option_and_then (λ (x : Option ℕ). x) (slice_get ys (i - 1))) is
    ∙ entry (ongoing_of H) 1 (instances_made H) (i - 1) i (omega (arith, some))
    (λ h. nowhere_of width m H legal i (λ low high. omega (arith, h, low, high)))))
