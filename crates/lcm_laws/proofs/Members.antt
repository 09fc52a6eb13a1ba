-- What is in a list, and lists in which each entry stands before the later ones.
use Rattle.std.proofs.Common.{length, Some, slice_get, ◌≡◌, ◌≤◌, ◌<◌, ◌+◌, ◌++◌, ◌||◌, ◌==◌, ℕ, List, [], ◌∷◌, Bool, true, false, cond}
use Rattle.std.proofs.Common.{refl, ap, sym, subst, map, filter, flat_map, take, arith, zero, suc, ◌⊎◌, inl, inr, if◌then◌else◌, ltb-true}
use Rattle.std.proofs.Common.{eqb-true, eq-eqb, false-eqb, ltb}
use Rattle.std.specs.List.{list_any, range_with_len}
use Rattle.lcm_model.specs.Words.{IsIn, is_among}
use Rattle.lcm_events.specs.Descriptors.{is_rising}
use Rattle.lcm_laws.proofs.Lists.{by_test, and_left, and_right}

pub in_front : {A : Type 0} → (x : A) (xs ys : List A) → IsIn x xs → IsIn x (xs ++ ys)
in_front x [] ys h = absurd h
in_front x (y ∷ xs) ys (inl e) = inl e
in_front x (y ∷ xs) ys (inr h) = inr (in_front x xs ys h)

pub in_back : {A : Type 0} → (x : A) (xs ys : List A) → IsIn x ys → IsIn x (xs ++ ys)
in_back x [] ys h = h
in_back x (y ∷ xs) ys h = inr (in_back x xs ys h)

either_later : {A B C : Type 0} → B ⊎ C → (A ⊎ B) ⊎ C
either_later (inl f) = inl (inr f)
either_later (inr f) = inr f

pub in_either : {A : Type 0} → (x : A) (xs ys : List A) → IsIn x (xs ++ ys) → IsIn x xs ⊎ IsIn x ys
in_either x [] ys h = inr h
in_either x (y ∷ xs) ys (inl e) = inl (inl e)
in_either x (y ∷ xs) ys (inr h) = either_later (in_either x xs ys h)

pub in_map : {A B : Type 0} → (f : A → B) (x : A) (xs : List A) → IsIn x xs → IsIn (f x) (map f xs)
in_map f x [] h = absurd h
in_map f x (y ∷ xs) (inl e) = inl (ap f e)
in_map f x (y ∷ xs) (inr h) = inr (in_map f x xs h)

-- where something in an image comes from
abbrev pub Comes : {A B : Type 0} → (A → B) → List A → B → Type 0
Comes {A} f xs y = (x : A) × IsIn x xs × (f x ≡ y)

pub of_map : {A B : Type 0} → (f : A → B) (y : B) (xs : List A) → IsIn y (map f xs) → Comes f xs y
of_map f y [] h = absurd h
of_map f y (x ∷ xs) (inl e) = (x, inl refl, e)
of_map f y (x ∷ xs) (inr h) = let from = of_map f y xs h in (from.0, inr from.1, from.2)

pub in_flat_map : {A B : Type 0} → (f : A → List B) (x : A) (y : B) (xs : List A) → IsIn x xs → IsIn y (f x) → IsIn y (flat_map f xs)
in_flat_map f x y [] h g = absurd h
in_flat_map {A} {B} f x y (z ∷ xs) (inl e) g = in_front y (f z) (flat_map f xs) (subst (λ (w : A). IsIn y (f w)) (sym e) g)
in_flat_map f x y (z ∷ xs) (inr h) g = in_back y (f z) (flat_map f xs) (in_flat_map f x y xs h g)

abbrev pub ComesOf : {A B : Type 0} → (A → List B) → List A → B → Type 0
ComesOf {A} f xs y = (x : A) × IsIn x xs × IsIn y (f x)

comes_later : {A B : Type 0} → (f : A → List B) (y : B) (x : A) (xs : List A) → ComesOf f xs y → ComesOf f (x ∷ xs) y
comes_later f y x xs from = (from.0, inr from.1, from.2)

pub of_flat_map : {A B : Type 0} → (f : A → List B) (y : B) (xs : List A) → IsIn y (flat_map f xs) → ComesOf f xs y
of_flat_map f y [] h = absurd h
of_flat_map f y (x ∷ xs) h = onward (in_either y (f x) (flat_map f xs) h) (λ g. of_flat_map f y xs g) where
  onward : IsIn y (f x) ⊎ IsIn y (flat_map f xs) → (IsIn y (flat_map f xs) → ComesOf f xs y) → ComesOf f (x ∷ xs) y
  onward (inl g) rest = (x, inl refl, g)
  onward (inr g) rest = comes_later f y x xs (rest g)

pub in_filter : {A : Type 0} → (p : A → Bool) (x : A) (xs : List A) → IsIn x xs → p x ≡ true → IsIn x (filter p xs)
in_filter p x [] h e = absurd h
in_filter {A} p x (y ∷ xs) (inl is) e = let passes : p y ≡ true = subst (λ (z : A). p z ≡ true) (sym is) e in rw passes (inl is)
in_filter p x (y ∷ xs) (inr h) e = by_test (p y) (λ passes. rw passes (inr (in_filter p x xs h e)))
    (λ fails. rw fails (in_filter p x xs h e))

abbrev pub Passed : {A : Type 0} → (A → Bool) → List A → A → Type 0
Passed p xs x = IsIn x xs × (p x ≡ true)

passed_later : {A : Type 0} → (p : A → Bool) (x y : A) (xs : List A) → Passed p xs x → Passed p (y ∷ xs) x
passed_later p x y xs from = (inr from.0, from.1)

pub of_filter : {A : Type 0} → (p : A → Bool) (x : A) (xs : List A) → IsIn x (filter p xs) → IsIn x xs × (p x ≡ true)
of_filter p x [] h = absurd h
of_filter {A} p x (y ∷ xs) h = by_test (p y)
    (λ passes. here passes (λ g. of_filter p x xs g) (subst (λ (b : Bool). IsIn x (cond b (y ∷ filter p xs) (filter p xs))) passes h))
    (λ fails. passed_later p x y xs (of_filter p x xs (subst (λ (b : Bool). IsIn x (cond b (y ∷ filter p xs) (filter p xs))) fails
    h))) where
      here : p y ≡ true → (IsIn x (filter p xs) → Passed p xs x) → IsIn x (y ∷ filter p xs) → Passed p (y ∷ xs) x
      here passes rest (inl e) = (inl e, subst (λ (z : A). p z ≡ true) e passes)
      here passes rest (inr g) = passed_later p x y xs (rest g)

pub in_if : {A : Type 0} → (x : A) (b : Bool) (xs : List A) → b ≡ true → IsIn x xs → IsIn x (if b then xs else [])
in_if x true xs e h = h
in_if x false xs e h = cc

pub of_if : {A : Type 0} → (x : A) (b : Bool) (xs : List A) → IsIn x (if b then xs else []) → (b ≡ true) × IsIn x xs
of_if x true xs h = (refl, h)
of_if x false xs h = absurd h

pub in_take : {A : Type 0} → (x : A) (n : ℕ) (xs : List A) → IsIn x (take n xs) → IsIn x xs
in_take x zero xs h = absurd h
in_take x (suc n) [] h = absurd h
in_take x (suc n) (y ∷ xs) (inl e) = inl e
in_take x (suc n) (y ∷ xs) (inr h) = inr (in_take x n xs h)

pub in_range : (k a n : ℕ) → a ≤ k → k < a + n → IsIn k (range_with_len a n)
in_range k a zero low high = absurd (omega (arith, low, high))
in_range k a (suc n) low high = by_test (a == k)
    (λ same. inl (eqb-true a k same))
    (λ other. inr (in_range k (a + 1) n (above a k low other) (omega (arith, high)))) where
      above : (a k : ℕ) → a ≤ k → (a == k) ≡ false → a + 1 ≤ k
      above a k low other = omega (arith, low, false-eqb a k (sym other))

pub of_range : (k a n : ℕ) → IsIn k (range_with_len a n) → (a ≤ k) × (k < a + n)
of_range k a zero h = absurd h
of_range k a (suc n) (inl e) = (omega (arith, e), omega (arith, e))
of_range k a (suc n) (inr h) = let from = of_range k (a + 1) n h in (omega (arith, from.0), omega (arith, from.1))

-- each entry stands before the later ones
abbrev pub Rises : {A : Type 0} → (A → A → Type 0) → List A → Type 0
Rises R [] = Unit {0}
Rises {A} R (x ∷ xs) = ((y : A) → IsIn y xs → R x y) × Rises R xs

abbrev pub Less : ℕ → ℕ → Type 0
Less m n = m < n

pub rises_append : {A : Type 0} → (R : A → A → Type 0) (xs ys : List A) → Rises R xs → Rises R ys
    → ((x y : A) → IsIn x xs → IsIn y ys → R x y) → Rises R (xs ++ ys)
rises_append R [] ys hx hy f = hy
rises_append {A} R (x ∷ xs) ys hx hy f = (
  λ y h. each y (in_either y xs ys h),
  rises_append R xs ys hx.1 hy (λ u v hu hv. f u v (inr hu) hv),
) where
  each : (y : A) → IsIn y xs ⊎ IsIn y ys → R x y
  each y (inl h) = hx.0 y h
  each y (inr h) = f x y (inl refl) h

pub rises_map : {A B : Type 0} → (R : A → A → Type 0) (S : B → B → Type 0) (f : A → B) (xs : List A)
    → ((x y : A) → IsIn x xs → IsIn y xs → R x y → S (f x) (f y)) → Rises R xs → Rises S (map f xs)
rises_map R S f [] g h = tt
rises_map {A} {B} R S f (x ∷ xs) g h = (
  λ y within. let from = of_map f y xs within in subst (λ (z : B). S (f x) z) from.2
      (g x from.0 (inl refl) (inr from.1) (h.0 from.0 from.1)),
  rises_map R S f xs (λ u v hu hv. g u v (inr hu) (inr hv)) h.1,
)

pub rises_filter : {A : Type 0} → (R : A → A → Type 0) (p : A → Bool) (xs : List A) → Rises R xs → Rises R (filter p xs)
rises_filter R p [] h = tt
rises_filter R p (x ∷ xs) h = by_test (p x)
    (λ passes. rw passes (λ y within. h.0 y (of_filter p y xs within).0, rises_filter R p xs h.1))
    (λ fails. rw fails (rises_filter R p xs h.1))

pub rises_take : {A : Type 0} → (R : A → A → Type 0) (n : ℕ) (xs : List A) → Rises R xs → Rises R (take n xs)
rises_take R zero xs h = tt
rises_take R (suc n) [] h = tt
rises_take R (suc n) (x ∷ xs) h = (λ y within. h.0 y (in_take y n xs within), rises_take R n xs h.1)

pub rises_if : {A : Type 0} → (R : A → A → Type 0) (b : Bool) (xs : List A) → Rises R xs → Rises R (if b then xs else [])
rises_if R true xs h = h
rises_if R false xs h = tt

pub rises_flat_map : {A B : Type 0} → (R : A → A → Type 0) (S : B → B → Type 0) (f : A → List B) (xs : List A) → Rises R xs
    → ((x : A) → IsIn x xs → Rises S (f x)) → ((x y : A) (u v : B) → R x y → IsIn u (f x) → IsIn v (f y) → S u v) → Rises S (flat_map f xs)
rises_flat_map R S f [] h each across = tt
rises_flat_map R S f (x ∷ xs) h each across =
    rises_append S (f x) (flat_map f xs) (each x (inl refl)) (rises_flat_map R S f xs h.1 (λ y within. each y (inr within)) across)
    (λ u v hu hv. let from = of_flat_map f v xs hv in across x from.0 u v (h.0 from.0 from.1) hu from.2)

pub rises_range : (a n : ℕ) → Rises Less (range_with_len a n)
rises_range a zero = tt
rises_range a (suc n) = (λ y within. let from = of_range y (a + 1) n within in omega (arith, from.0), rises_range (a + 1) n)

-- numbers of which each is less than the next one rise
pub rising_rises : (xs : List ℕ) → is_rising ltb xs ≡ true → Rises Less xs
rising_rises [] e = tt
rising_rises (x ∷ []) e = (λ y h. absurd h, tt)
rising_rises (x ∷ y ∷ xs) e =
    let less : x < y = ltb-true x y (and_left (ltb x y) (is_rising ltb (y ∷ xs)) e) in
    let rest = rising_rises (y ∷ xs) (and_right (ltb x y) (is_rising ltb (y ∷ xs)) e) in
    (λ z h. step z less rest h, rest) where
      step : (z : ℕ) → x < y → Rises Less (y ∷ xs) → IsIn z (y ∷ xs) → x < z
      step z less rest (inl is) = omega (arith, less, is)
      step z less rest (inr h) = let further = rest.0 z h in omega (arith, less, further)

-- the number is in the list
pub among_in : (ns : List ℕ) (n : ℕ) → is_among ns n ≡ true → IsIn n ns
among_in [] n e = cc
among_in (k ∷ ns) n e = by_test (k == n)
    (λ same. inl (eqb-true k n same))
    (λ other. inr (among_in ns n (subst (λ (b : Bool). (b || is_among ns n) ≡ true) other e)))

pub in_among : (ns : List ℕ) (n : ℕ) → IsIn n ns → is_among ns n ≡ true
in_among [] n h = absurd h
in_among (k ∷ ns) n (inl e) = let same : (k == n) ≡ true = eq-eqb k n e in rw same refl
in_among (k ∷ ns) n (inr h) = let rest : is_among ns n ≡ true = in_among ns n h in
    by_test (k == n) (λ same. rw same refl) (λ other. rw other rest)

-- an entry that passes a test
pub any_in : {A : Type 0} → (p : A → Bool) (x : A) (xs : List A) → IsIn x xs → p x ≡ true → list_any p xs ≡ true
any_in p x [] h e = absurd h
any_in {A} p x (y ∷ xs) (inl is) e = let passes : p y ≡ true = subst (λ (z : A). p z ≡ true) (sym is) e in rw passes refl
any_in p x (y ∷ xs) (inr h) e = let rest : list_any p xs ≡ true = any_in p x xs h e in by_test (p y) (λ a. rw a refl) (λ b. rw b rest)

-- an entry by its number
pub get_in : {A : Type 0} → (x : A) (xs : List A) (n : ℕ) → slice_get xs n ≡ Some x → IsIn x xs
get_in x [] n e = cc
get_in x (y ∷ xs) zero e = inl cc
get_in x (y ∷ xs) (suc n) e = inr (get_in x xs n e)

pub in_get : {A : Type 0} → (x : A) (xs : List A) → IsIn x xs → (n : ℕ) × (slice_get xs n ≡ Some x)
in_get x [] h = absurd h
in_get x (y ∷ xs) (inl e) = (0, ap Some e)
in_get x (y ∷ xs) (inr h) = let rest = in_get x xs h in (suc rest.0, rest.1)

pub get_within : {A : Type 0} → (x : A) (xs : List A) (n : ℕ) → slice_get xs n ≡ Some x → n < length xs
get_within x [] n e = cc
get_within x (y ∷ xs) zero e = omega arith
get_within x (y ∷ xs) (suc n) e = let h = get_within x xs n e in omega (arith, h)
