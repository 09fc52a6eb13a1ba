-- What an attempt that ends does to nets and to what stands.
use Rattle.std.proofs.Common.{◌≡◌, ◌≤◌, ◌+◌, ◌-◌, ◌&&◌, ◌==◌, ◌∙◌, ℕ, List, [], ◌∷◌, Bool, true, false, cond, Option, None, Some, refl, ap}
use Rattle.std.proofs.Common.{sym, subst, length, find, arith, suc, inl, inr, ◌⊎◌, eqb-true, eq-eqb, slice_get}
use Rattle.std.specs.Option.{option_map_or}
use Rattle.std.specs.Prelude.{option_map}
use Rattle.lcm_events.specs.Same.{same_def, same_way}
use Rattle.lcm_events.specs.declared.attempts.Outcome.{Outcome}
use Rattle.lcm_events.specs.declared.attempts.Outcome.TheVariants.{Aborted, Broken, Done, NotBegun}
use Rattle.lcm_events.specs.declared.attempts.Tag.{Tag}
use Rattle.lcm_events.specs.declared.attempts.Way.{Way}
use Rattle.lcm_events.specs.declared.attempts.Way.TheVariants.{Forward, Undo}
use Rattle.lcm_events.specs.declared.changes.Change.{Change}
use Rattle.lcm_events.specs.declared.changes.Def.{Def}
use Rattle.lcm_events.specs.declared.events.Event.{Event}
use Rattle.lcm_events.specs.declared.events.EventKind.TheVariants.{Settled}
use Rattle.lcm_events.specs.declared.events.Operation.{Operation}
use Rattle.lcm_events.specs.declared.states.OpState.{OpState}
use Rattle.lcm_events.specs.declared.states.OpState.TheVariants.{Starting}
use Rattle.lcm_model.specs.declared.holding.Effect.{Effect}
use Rattle.lcm_model.specs.Words.{IsIn, first}
use Rattle.lcm_model.specs.Moves.{is_final, state}
use Rattle.lcm_model.specs.Attempts.{done_count, is_of, is_open, net, open_attempts}
use Rattle.lcm_model.specs.Operations.{goes_on, is_ongoing, ongoing, operation, operations}
use Rattle.lcm_model.specs.Holding.{effect, effect_in, effects, is_effect_on, leaves_it, stands}
use Rattle.lcm_model.specs.Work.{net_after, net_before, works_in}
use Rattle.lcm_model.specs.Allowed.{IsLegalWithin}
use Rattle.lcm_laws.proofs.Histories.{event}
use Rattle.lcm_laws.proofs.Lists.{and_true, by_test, not-false}
use Rattle.lcm_laws.proofs.Members.{in_filter}
use Rattle.lcm_laws.proofs.EndLaws.{asked_for, open_state}
use Rattle.lcm_laws.proofs.NetLaws.{done_count-done, done_count-other, fits, is_of-own, open_own, sole}
use Rattle.lcm_laws.proofs.NumberLaws.{IsCounted}
use Rattle.lcm_laws.proofs.OngoingLaws.{one_ongoing}
use Rattle.lcm_laws.proofs.PlanHistory.{found_in}

-- what is found by a number has it
pub found_number : {A : Type 0} → (f : A → ℕ) (xs : List A) (n : ℕ) (a : A) → find (λ x. f x == n) xs ≡ Some a → f a ≡ n
found_number f [] n a e = cc
found_number {A} f (x ∷ xs) n a e = by_test (f x == n)
    (λ same.
    let is : Some x ≡ Some a = subst (λ (b : Bool). cond b (Some x) (find (λ x. f x == n) xs) ≡ Some a) same e in
    let one : x ≡ a = cc in
    ap f (sym one) ∙ eqb-true (f x) n same)
    (λ other. found_number f xs n a (subst (λ (b : Bool). cond b (Some x) (find (λ x. f x == n) xs) ≡ Some a) other e))

below_length : {A : Type 0} → (f : A → ℕ) (xs : List A) (b : A) → IsCounted f xs → IsIn b xs → f b ≤ length xs
below_length f [] b h g = absurd g
below_length f (x ∷ xs) b h (inl e) = let same = ap f e in omega (arith, h.0, same)
below_length f (x ∷ xs) b h (inr g) = let rest = below_length f xs b h.1 g in omega (arith, rest)

-- what is in a counted list is found by its number
pub find-own : {A : Type 0} → (f : A → ℕ) (xs : List A) (b : A) → IsCounted f xs → IsIn b xs → find (λ x. f x == f b) xs ≡ Some b
find-own f [] b h g = absurd g
find-own f (x ∷ xs) b h (inl e) = let same : (f x == f b) ≡ true = eq-eqb (f x) (f b) (ap f e) in rw same (ap Some e)
find-own f (x ∷ xs) b h (inr g) = by_test (f x == f b)
    (λ same. let is = eqb-true (f x) (f b) same in let low = below_length f xs b h.1 g in absurd (omega (arith, h.0, is, low)))
    (λ other. rw other (find-own f xs b h.1 g))

-- an operation of the instance whose state isn't final is among those that go on
pub going_in : (H : List Event) (i o : ℕ) (a : Operation) → operation H o ≡ Some a → a.instance ≡ i → is_final (state H o) ≡ false
    → IsIn a (ongoing H i)
unfolding goes_on
going_in H i o a found at goes =
    let number : a.occ ≡ o = found_number (λ x. x.occ) (operations H) o a found in
    let still : is_final (state H a.occ) ≡ false = subst (λ (n : ℕ). is_final (state H n) ≡ false) (sym number) goes in
    in_filter (is_ongoing H i) a (operations H) (found_in (λ x. x.occ == o) (operations H) a found)
    (and_true (a.instance == i) (goes_on H a) (eq-eqb a.instance i at) (not-false (is_final (state H a.occ)) still))

pub idle_none : (H : List Event) (i o : ℕ) (a : Operation) → ongoing H i ≡ [] → operation H o ≡ Some a → a.instance ≡ i
    → is_final (state H o) ≡ false → ⊥
idle_none H i o a none found at goes = subst (λ (xs : List Operation). IsIn a xs) none (going_in H i o a found at goes)

sole_entry : {A : Type 0} → (xs : List A) (a b : A) → length xs ≤ 1 → IsIn a xs → IsIn b xs → a ≡ b
sole_entry [] a b h ga gb = absurd ga
sole_entry (x ∷ []) a b h (inl ea) (inl eb) = sym ea ∙ eb
sole_entry (x ∷ []) a b h (inr g) gb = absurd g
sole_entry (x ∷ []) a b h (inl ea) (inr g) = absurd g
sole_entry (x ∷ y ∷ xs) a b h ga gb = absurd (omega (arith, h))

-- two operations of an instance that go on are one
pub one_going : (width m : ℕ) (H : List Event) (i o n : ℕ) (a b : Operation) → IsLegalWithin width m H → operation H o ≡ Some a
    → a.instance ≡ i → is_final (state H o) ≡ false
    → operation H n ≡ Some b → b.instance ≡ i → is_final (state H n) ≡ false → n ≡ o
one_going width m H i o n a b legal fa ia ga fb ib gb =
    let same : a ≡ b = sole_entry (ongoing H i) a b (one_ongoing width m H legal i) (going_in H i o a fa ia ga)
    (going_in H i n b fb ib gb) in
    sym (found_number (λ x. x.occ) (operations H) n b fb) ∙ (ap (λ (x : Operation). x.occ) (sym same)
    ∙ found_number (λ x. x.occ) (operations H) o a fa)

pub works_on : (w : Way) → is_final (works_in w) ≡ false
works_on Forward = refl
works_on Undo = refl

pub works_later : (w : Way) → works_in w ≡ Starting → ⊥
works_later Forward e = cc
works_later Undo e = cc

-- the operation of an open attempt
pub open_operation : (width m : ℕ) (H : List Event) (u : Tag) → IsLegalWithin width m H → is_open H u ≡ true
    → (a : Operation) × (operation H u.occ ≡ Some a) × (is_final (state H u.occ) ≡ false)
open_operation width m H u legal h =
    let is : state H u.occ ≡ works_in u.way = open_state width m H legal u h in
    let found = asked_for width m H legal u.occ (works_in u.way) is (works_later u.way) in
    (found.0, found.1, subst (λ (s : OpState). is_final s ≡ false) (sym is) (works_on u.way))

is_of_other : (o c : ℕ) (t : Tag) → (t.change == c) ≡ false → is_of o c t ≡ false
is_of_other o c t e = by_test (t.occ == o) (λ a. rw (a, e) refl) (λ b. rw b refl)

-- the nets of other changes stay
pub net-other_change : (H : List Event) (time : ℕ) (t : Tag) (out : Outcome) (o c : ℕ) → (t.change == c) ≡ false
    → net (event time (Settled t out) ∷ H) o c ≡ net H o c
net-other_change H time t out o c e =
    rw (done_count-other Forward H time t out o c (is_of_other o c t e), done_count-other Undo H time t out o c (is_of_other o c t e)) refl

pub net-other_occ : (H : List Event) (time : ℕ) (t : Tag) (out : Outcome) (o c : ℕ) → (t.occ == o) ≡ false
    → net (event time (Settled t out) ∷ H) o c ≡ net H o c
net-other_occ H time t out o c e =
    let other : is_of o c t ≡ false = rw e refl in
    rw (done_count-other Forward H time t out o c other, done_count-other Undo H time t out o c other) refl

done_after : (w : Way) (made undone made' undone' : ℕ) → made ≡ undone + net_before w → made' ≡ cond (same_way Forward w) (suc made) made
    → undone' ≡ cond (same_way Undo w) (suc undone) undone → made' - undone' ≡ net_after w
done_after Forward made undone made' undone' h e f = omega (arith, h, e, f)
done_after Undo made undone made' undone' h e f = omega (arith, h, e, f)

-- the net of a change once its open attempt is done
pub net-done : (width m : ℕ) (H : List Event) (time : ℕ) (t : Tag) (name : List ℕ) → IsLegalWithin width m H → is_open H t ≡ true
    → net (event time (Settled t (Done name)) ∷ H) t.occ t.change ≡ net_after t.way
net-done width m H time t name legal h =
    let alone = sole (open_attempts H t.occ t.change) t (done_count Forward H t.occ t.change) (done_count Undo H t.occ t.change)
    (fits width m H legal t.occ t.change) (open_own H t h) in
    done_after t.way (done_count Forward H t.occ t.change) (done_count Undo H t.occ t.change) _ _ alone.1
    (done_count-done Forward H time t name t.occ t.change (is_of-own t)) (done_count-done Undo H time t name t.occ t.change (is_of-own t))

-- nothing is done: what stands and the nets of the operation's changes stay
abbrev pub DoesNothing : List Event → ℕ → Tag → Outcome → Operation → Type 0
DoesNothing H time u out a =
    (effect_in H (Settled u out) ≡ None)
    × ((c : ℕ) (k : Change) → slice_get a.changes c ≡ Some k → net (event time (Settled u out) ∷ H) u.occ c ≡ net H u.occ c)

-- a change of the operation is done
abbrev pub DoesChange : List Event → Tag → Outcome → Operation → Type 0
DoesChange H u out a =
    (name : List ℕ) × (k : Change) × (out ≡ Done name) × (slice_get a.changes u.change ≡ Some k)
    × (effect_in H (Settled u out) ≡ Some (effect u name a k))

done_effect : (H : List Event) (time : ℕ) (u : Tag) (name : List ℕ) (a : Operation) (k : Option Change) → operation H u.occ ≡ Some a
    → slice_get a.changes u.change ≡ k → DoesNothing H time u (Done name) a ⊎ DoesChange H u (Done name) a
unfolding effect_in
done_effect H time u name a None found is =
    inl (
      rw (found, is) refl,
      λ c k e. by_test (u.change == c)
          (λ same.
          let at : u.change ≡ c = eqb-true u.change c same in
          let none : Some k ≡ None = sym e ∙ (ap (λ (n : ℕ). slice_get a.changes n) (sym at) ∙ is) in cc)
          (λ other. net-other_change H time u (Done name) u.occ c other),
    )
done_effect H time u name a (Some k) found is = inr (name, k, refl, is, rw (found, is) refl)

pub what_is_done : (H : List Event) (time : ℕ) (u : Tag) (out : Outcome) (a : Operation) → operation H u.occ ≡ Some a
    → DoesNothing H time u out a ⊎ DoesChange H u out a
unfolding effect_in
what_is_done H time u (Done name) a found = done_effect H time u name a (slice_get a.changes u.change) found refl
what_is_done H time u (Broken code) a found = inl (refl, λ c k e. refl)
what_is_done H time u Aborted a found = inl (refl, λ c k e. refl)
what_is_done H time u NotBegun a found = inl (refl, λ c k e. refl)

pub stands-nothing : (H : List Event) (time : ℕ) (u : Tag) (out : Outcome) (i : ℕ) (x : Def) → effect_in H (Settled u out) ≡ None
    → stands (event time (Settled u out) ∷ H) i x ≡ stands H i x
stands-nothing H time u out i x e = rw e refl

stands_cond : (b : Bool) (y : Effect) (ys : List Effect)
    → option_map_or leaves_it (option_map (λ y. y.verb) (first (cond b (y ∷ ys) ys))) false
    ≡ cond b (leaves_it y.verb) (option_map_or leaves_it (option_map (λ y. y.verb) (first ys)) false)
stands_cond true y ys = refl
stands_cond false y ys = refl

pub stands-done : (H : List Event) (time : ℕ) (u : Tag) (out : Outcome) (i : ℕ) (x : Def) (y : Effect)
    → effect_in H (Settled u out) ≡ Some y
    → stands (event time (Settled u out) ∷ H) i x ≡ cond ((y.instance == i) && same_def y.def x) (leaves_it y.verb) (stands H i x)
stands-done H time u out i x y e = rw e (stands_cond (is_effect_on i x y) y (effects H i x))
