-- The items of a VDU, and those of a machine, stand side by side in a holding.
use Rattle.std.proofs.Common.{◌≡◌, ◌≤◌, ◌<◌, ◌+◌, ◌-◌, ◌&&◌, ◌||◌, ◌==◌, ◌∙◌, ℕ, zero, suc, List, [], ◌∷◌, Bool, true, false, not, refl, ap}
use Rattle.std.proofs.Common.{sym, subst, length, filter, take, drop, get_or, arith, inl, inr, ◌⊎◌, ltb, ltb-true, ltb-false, lt-ltb}
use Rattle.std.proofs.Common.{eqb-true, eq-eqb}
use Rattle.std.proofs.lemmas.List.{drop-take}
use Rattle.std.specs.List.Sorted.{IsPartitionPoint, IsPartitionedBy}
use Rattle.lcm_events.specs.Same.{kind_number}
use Rattle.lcm_events.specs.declared.held.Held.{Held}
use Rattle.lcm_laws.proofs.Lists.{and_left, and_right, and_true, by_test, filter_both, filter_same, filter_shorter, filter_swap, not-false}
use Rattle.lcm_laws.proofs.Lists.{not-true}
use Rattle.lcm_laws.proofs.Members.{Rises, rises_filter}
use Rattle.lcm_model.specs.Words.{IsIn}
use Rattle.change_planner.specs.Rolls.{are_in_order, comes_before, has_vdu, is_at}
use Rattle.change_planner.proofs.InventoryLaws.{same_test}
use Rattle.change_planner.proofs.OrderLaws.{Sooner, leads, rising_on}

entry_in : {A : Type 0} → (xs : List A) (i : ℕ) (d : A) → i < length xs → IsIn (get_or xs i d) xs
entry_in [] i d h = absurd (omega (arith, h))
entry_in (x ∷ xs) zero d h = inl refl
entry_in (x ∷ xs) (suc i) d h = inr (entry_in xs i d (omega (arith, h)))

-- what passes a test comes first
abbrev pub ComesFirst : (Held → Bool) → Type 0
ComesFirst p = (x y : Held) → Sooner x y → p y ≡ true → p x ≡ true

pub parted : (p : Held → Bool) (xs : List Held) → ComesFirst p → Rises Sooner xs → IsPartitionedBy p xs
parted p [] f h i j d le lt e = absurd (omega (arith, lt))
parted p (x ∷ xs) f h zero zero d le lt e = e
parted p (x ∷ xs) f h zero (suc j) d le lt e = f x (get_or xs j d) (h.0 (get_or xs j d) (entry_in xs j d (omega (arith, lt)))) e
parted p (x ∷ xs) f h (suc i) zero d le lt e = absurd (omega (arith, le))
parted p (x ∷ xs) f h (suc i) (suc j) d le lt e = parted p xs f h.1 i j d (omega (arith, le)) (omega (arith, lt)) e

-- the place where a list is parted is the number of those that pass
pub point_count : (p : Held → Bool) (xs : List Held) (i : ℕ) → i ≤ length xs → IsPartitionPoint (λ y. p y ≡ true) (λ y. p y ≡ false) xs i
    → i ≡ length (filter p xs)
point_count p [] i le point = omega (arith, le)
point_count p (x ∷ xs) zero le point =
    let fails : p x ≡ false = point.1 0 x (omega arith) (omega arith) in
    rw fails (point_count p xs zero (omega arith) (
      λ k d low high. absurd (omega (arith, high)),
      λ k d low high. point.1 (suc k) d (omega arith) (omega (arith, high)),
    ))
point_count p (x ∷ xs) (suc i) le point =
    let passes : p x ≡ true = point.0 0 x (omega arith) (omega arith) in
    rw passes (ap suc (point_count p xs i (omega (arith, le)) (
      λ k d low high. point.0 (suc k) d (omega arith) (omega (arith, high)),
      λ k d low high. point.1 (suc k) d (omega (arith, low)) (omega (arith, high)),
    )))

filter_none : (p : Held → Bool) (xs : List Held) → ((x : Held) → IsIn x xs → p x ≡ false) → filter p xs ≡ []
filter_none p [] f = refl
filter_none p (x ∷ xs) f = let fails : p x ≡ false = f x (inl refl) in rw fails (filter_none p xs (λ y h. f y (inr h)))

filter_rest : (p : Held → Bool) (xs : List Held) → ((x : Held) → IsIn x xs → p x ≡ false) → filter (λ x. not (p x)) xs ≡ xs
filter_rest p [] f = refl
filter_rest p (x ∷ xs) f = let fails : p x ≡ false = f x (inl refl) in rw fails (ap (λ ys. x ∷ ys) (filter_rest p xs (λ y h. f y (inr h))))

-- once one fails, all later ones do
none_later : (p : Held → Bool) (x : Held) (xs : List Held) → ComesFirst p → ((y : Held) → IsIn y xs → Sooner x y) → p x ≡ false → (y : Held)
    → IsIn y xs → p y ≡ false
none_later p x xs f h fails y k = by_test (p y)
    (λ passes. let clash : true ≡ false = sym (f x y (h y k) passes) ∙ fails in absurd cc)
    (λ none. none)

take_first : (p : Held → Bool) (xs : List Held) → ComesFirst p → Rises Sooner xs → take (length (filter p xs)) xs ≡ filter p xs
take_first p [] f h = refl
take_first p (x ∷ xs) f h = by_test (p x)
    (λ passes. rw passes (ap (λ ys. x ∷ ys) (take_first p xs f h.1)))
    (λ fails. let none : filter p xs ≡ [] = filter_none p xs (none_later p x xs f h.0 fails) in rw fails (rw none refl))

drop_first : (p : Held → Bool) (xs : List Held) → ComesFirst p → Rises Sooner xs
    → drop (length (filter p xs)) xs ≡ filter (λ x. not (p x)) xs
drop_first p [] f h = refl
drop_first p (x ∷ xs) f h = by_test (p x)
    (λ passes. rw passes (drop_first p xs f h.1))
    (λ fails.
    let none : filter p xs ≡ [] = filter_none p xs (none_later p x xs f h.0 fails) in
    let rest : filter (λ x. not (p x)) xs ≡ xs = filter_rest p xs (none_later p x xs f h.0 fails) in
    rw fails (rw none (sym (ap (λ ys. x ∷ ys) rest))))

-- what stands between two such fronts is what passes the second test and not the first
pub between_fronts : (p q r : Held → Bool) (xs : List Held) → ComesFirst p → ComesFirst q → ((x : Held) → p x ≡ true → q x ≡ true)
    → ((x : Held) → r x ≡ (not (p x) && q x)) → Rises Sooner xs
    → take (length (filter q xs) - length (filter p xs)) (drop (length (filter p xs)) xs) ≡ filter r xs
between_fronts p q r xs fp fq wider both h =
    let fewer = filter_shorter p q xs wider in
    let a = length (filter p xs) in let b = length (filter q xs) in
    let whole : a + (b - a) ≡ b = omega (arith, fewer) in
    let own : filter p (filter q xs) ≡ filter p xs = filter_swap p q xs ∙ filter_same p q xs wider in
    sym (drop-take a (b - a) xs)
    ∙ (ap (λ n. drop a (take n xs)) whole
    ∙ (ap (drop a) (take_first q xs fq h)
    ∙ (ap (λ ys. drop (length ys) (filter q xs)) (sym own)
    ∙ (drop_first p (filter q xs) fp (rises_filter Sooner q xs h)
    ∙ sym (filter_both (λ x. not (p x)) q r xs both)))))

-- an item that stands before a machine's
abbrev Before : ℕ → ℕ → Held → Type 0
Before v s y = (y.def.vdu < v) ⊎ ((y.def.vdu ≡ v) × (y.def.serial < s))

is_before : (v s : ℕ) (y : Held) → comes_before v s y ≡ true → Before v s y
is_before v s y e = by_test (ltb y.def.vdu v)
    (λ less. inl (ltb-true y.def.vdu v less))
    (λ other.
    let rest : ((y.def.vdu == v) && ltb y.def.serial s) ≡ true = subst
    (λ (b : Bool). (b || ((y.def.vdu == v) && ltb y.def.serial s)) ≡ true) other e in
    inr (eqb-true y.def.vdu v (and_left _ _ rest), ltb-true y.def.serial s (and_right (y.def.vdu == v) _ rest)))

or_right : (a b : Bool) → b ≡ true → (a || b) ≡ true
or_right true b e = refl
or_right false b e = e

before_is : (v s : ℕ) (y : Held) → Before v s y → comes_before v s y ≡ true
before_is v s y (inl less) = let e : ltb y.def.vdu v ≡ true = lt-ltb y.def.vdu v less in rw e refl
before_is v s y (inr same) = or_right (ltb y.def.vdu v) _ (and_true _ _ (eq-eqb y.def.vdu v same.0) (lt-ltb y.def.serial s same.1))

sooner_parts : (x y : Held) → Sooner x y → (x.def.vdu < y.def.vdu) ⊎ ((x.def.vdu ≡ y.def.vdu) × (x.def.serial ≤ y.def.serial))
sooner_parts x y e =
    elim (leads x.def.vdu y.def.vdu (x.def.serial ∷ kind_number x.def.kind ∷ x.def.item ∷ [])
    (y.def.serial ∷ kind_number y.def.kind ∷ y.def.item ∷ []) e) [
      | inl less ↦ inl less
      | inr same ↦ inr (
        same.0,
        (elim (leads x.def.serial y.def.serial (kind_number x.def.kind ∷ x.def.item ∷ [])
            (kind_number y.def.kind ∷ y.def.item ∷ []) same.1) [
              | inl less ↦ omega (arith, less)
              | inr equal ↦ (let e = equal.0 in omega (arith, e))
            ]),
      )
    ]

earlier : (v s : ℕ) (x y : Held) → (x.def.vdu < y.def.vdu) ⊎ ((x.def.vdu ≡ y.def.vdu) × (x.def.serial ≤ y.def.serial)) → Before v s y
    → Before v s x
earlier v s x y (inl less) (inl low) = inl (omega (arith, less, low))
earlier v s x y (inl less) (inr own) = let at = own.0 in inl (omega (arith, less, at))
earlier v s x y (inr same) (inl low) = let at = same.0 in inl (omega (arith, at, low))
earlier v s x y (inr same) (inr own) = let a = same.0 in let b = same.1 in let c = own.0 in let e = own.1 in
    inr (omega (arith, a, c), omega (arith, b, e))

pub before_first : (v s : ℕ) → ComesFirst (comes_before v s)
before_first v s x y sooner e = before_is v s x (earlier v s x y (sooner_parts x y sooner) (is_before v s y e))

not_before : (v s : ℕ) (y : Held) → (Before v s y → ⊥) → not (comes_before v s y) ≡ true
not_before v s y none = by_test (comes_before v s y) (λ e. absurd (none (is_before v s y e))) (λ e. not-false (comes_before v s y) e)

-- the items of a VDU stand before the next VDU's and not before its own
pub vdu_between : (v : ℕ) (y : Held) → has_vdu v y ≡ (not (comes_before v 0 y) && comes_before (v + 1) 0 y)
vdu_between v y = same_test (has_vdu v y) (not (comes_before v 0 y) && comes_before (v + 1) 0 y)
    (λ e.
    let at = eqb-true y.def.vdu v e in
    and_true _ _ (not_before v 0 y (λ before. elim before [
      | inl less ↦ absurd (omega (arith, at, less))
      | inr own ↦
          (let low = own.1 in absurd (omega (arith, low)))
    ]))
    (before_is (v + 1) 0 y (inl (omega (arith, at)))))
    (λ e.
    let low : Before (v + 1) 0 y = is_before (v + 1) 0 y (and_right (not (comes_before v 0 y)) _ e) in
    let high : comes_before v 0 y ≡ false = not-true (comes_before v 0 y) (and_left _ _ e) in
    by_test (has_vdu v y)
    (λ own. own)
    (λ other. elim low [
      | inl less ↦ by_test (ltb y.def.vdu v)
          (λ under. let clash : true ≡ false = sym (before_is v 0 y (inl (ltb-true y.def.vdu v under))) ∙ high in absurd cc)
          (λ over. let most = ltb-false y.def.vdu v over in eq-eqb y.def.vdu v (omega (arith, less, most)))
      | inr own ↦ (let none = own.1 in absurd (omega (arith, none)))
    ]))

-- the items of a machine stand before those of the next serial and not before its own
pub serial_between : (v s : ℕ) (y : Held) → is_at v s y ≡ (not (comes_before v s y) && comes_before v (s + 1) y)
serial_between v s y = same_test (is_at v s y) (not (comes_before v s y) && comes_before v (s + 1) y)
    (λ e.
    let at = eqb-true y.def.vdu v (and_left _ _ e) in
    let is = eqb-true y.def.serial s (and_right (y.def.vdu == v) _ e) in
    and_true _ _ (not_before v s y (λ before. elim before [
      | inl less ↦ absurd (omega (arith, at, less))
      | inr own ↦
          (let low = own.1 in absurd (omega (arith, low, is)))
    ]))
    (before_is v (s + 1) y (inr (at, omega (arith, is)))))
    (λ e.
    let low : Before v (s + 1) y = is_before v (s + 1) y (and_right (not (comes_before v s y)) _ e) in
    let high : comes_before v s y ≡ false = not-true (comes_before v s y) (and_left _ _ e) in
    elim low [
      | inl less ↦ (let clash : true ≡ false = sym (before_is v s y (inl less)) ∙ high in absurd cc)
      | inr own ↦ (let under = own.1 in by_test (ltb y.def.serial s)
          (λ less. let clash : true ≡ false = sym (before_is v s y (inr (own.0, ltb-true y.def.serial s less))) ∙ high in absurd cc)
          (λ over. let most = ltb-false y.def.serial s over in and_true _ _ (eq-eqb y.def.vdu v own.0)
          (eq-eqb y.def.serial s (omega (arith, under, most)))))
    ])

wider_vdu : (v : ℕ) (y : Held) → comes_before v 0 y ≡ true → comes_before (v + 1) 0 y ≡ true
wider_vdu v y e = before_is (v + 1) 0 y (elim (is_before v 0 y e)
    [ inl less ↦ inl (omega (arith, less)) | inr own ↦ (let low = own.1 in absurd (omega (arith, low))) ])

wider_serial : (v s : ℕ) (y : Held) → comes_before v s y ≡ true → comes_before v (s + 1) y ≡ true
wider_serial v s y e = before_is v (s + 1) y (elim (is_before v s y e)
    [ inl less ↦ inl less | inr own ↦ (let low = own.1 in inr (own.0, omega (arith, low))) ])

-- the place where items in order are parted before a machine
pub parted_before : (v s : ℕ) (ys : List Held) → are_in_order ys ≡ true → IsPartitionedBy (comes_before v s) ys
parted_before v s ys h = parted (comes_before v s) ys (before_first v s) (rising_on ys h)

-- the items between those before a VDU and those before the next
pub vdu_span : (v : ℕ) (ys : List Held) → are_in_order ys ≡ true
    → take (length (filter (comes_before (v + 1) 0) ys) - length (filter (comes_before v 0) ys))
    (drop (length (filter (comes_before v 0) ys)) ys) ≡ filter (has_vdu v) ys
vdu_span v ys h =
    between_fronts (comes_before v 0) (comes_before (v + 1) 0) (has_vdu v) ys (before_first v 0) (before_first (v + 1) 0) (wider_vdu v)
    (vdu_between v) (rising_on ys h)

pub vdu_span_fits : (v : ℕ) (ys : List Held) → length (filter (comes_before v 0) ys) ≤ length (filter (comes_before (v + 1) 0) ys)
vdu_span_fits v ys = filter_shorter (comes_before v 0) (comes_before (v + 1) 0) ys (wider_vdu v)

-- the items between those before a machine and those before the next serial
pub serial_span : (v s : ℕ) (ys : List Held) → are_in_order ys ≡ true
    → take (length (filter (comes_before v (s + 1)) ys) - length (filter (comes_before v s) ys))
    (drop (length (filter (comes_before v s) ys)) ys) ≡ filter (is_at v s) ys
serial_span v s ys h =
    between_fronts (comes_before v s) (comes_before v (s + 1)) (is_at v s) ys (before_first v s) (before_first v (s + 1)) (wider_serial v s)
    (serial_between v s) (rising_on ys h)

pub serial_span_fits : (v s : ℕ) (ys : List Held) → length (filter (comes_before v s) ys) ≤ length (filter (comes_before v (s + 1)) ys)
serial_span_fits v s ys = filter_shorter (comes_before v s) (comes_before v (s + 1)) ys (wider_serial v s)
