-- Laws of lists, tests and options.
use Rattle.std.proofs.Common.{◌≡◌, ◌≤◌, ◌<◌, ◌+◌, ◌∙◌, ◌||◌, ℕ, List, [], ◌∷◌, Bool, true, false, cond, not, ◌&&◌, Option, None, Some}
use Rattle.std.proofs.Common.{is_some, refl, ap, sym, subst, length, filter, arith, zero, suc}
use Rattle.std.specs.List.{enumerate_from, list_all, list_any}
use Rattle.lcm_model.specs.Words.{first, first_some, when}

-- a test passes or fails
pub by_test : {P : Type 0} → (b : Bool) → (b ≡ true → P) → (b ≡ false → P) → P
by_test true f g = f refl
by_test false f g = g refl

pub not-false : (b : Bool) → b ≡ false → not b ≡ true
not-false true e = cc
not-false false e = refl

pub not-true : (b : Bool) → not b ≡ true → b ≡ false
not-true true e = cc
not-true false e = refl

pub and_left : (a b : Bool) → (a && b) ≡ true → a ≡ true
and_left true b e = refl
and_left false b e = e

pub and_right : (a b : Bool) → (a && b) ≡ true → b ≡ true
and_right true b e = e
and_right false b e = cc

pub and_true : (a b : Bool) → a ≡ true → b ≡ true → (a && b) ≡ true
and_true true b ea eb = eb
and_true false b ea eb = ea

pub none_of-front : {A : Type 0} → (x : Option A) (xs : List (Option A)) → first_some (x ∷ xs) ≡ None → x ≡ None
none_of-front None xs e = refl
none_of-front (Some x) xs e = e

pub none_of-rest : {A : Type 0} → (x : Option A) (xs : List (Option A)) → first_some (x ∷ xs) ≡ None → first_some xs ≡ None
none_of-rest None xs e = e
none_of-rest (Some x) xs e = cc

pub when-none : {A : Type 0} → (b : Bool) (x : A) → when b x ≡ None → b ≡ false
when-none true x e = cc
when-none false x e = refl

pub first-nil : {A : Type 0} → (xs : List A) → first xs ≡ None → xs ≡ []
first-nil [] e = refl
first-nil (x ∷ xs) e = cc

pub first-none : {A : Type 0} → (xs : List A) → is_some (first xs) ≡ false → xs ≡ []
first-none [] e = refl
first-none (x ∷ xs) e = cc

filter_shorter_step : {A : Type 0} → (x : A) (b c : Bool) (xs ys : List A) → (b ≡ true → c ≡ true) → length xs ≤ length ys
    → length (cond b (x ∷ xs) xs) ≤ length (cond c (x ∷ ys) ys)
filter_shorter_step x true true xs ys f h = omega arith
filter_shorter_step x true false xs ys f h = let e : false ≡ true = f refl in cc
filter_shorter_step x false true xs ys f h = omega arith
filter_shorter_step x false false xs ys f h = h

-- a test that asks more lets no more through
pub filter_shorter : {A : Type 0} → (p q : A → Bool) (xs : List A) → ((x : A) → p x ≡ true → q x ≡ true)
    → length (filter p xs) ≤ length (filter q xs)
filter_shorter p q [] f = omega arith
filter_shorter p q (x ∷ xs) f = filter_shorter_step x (p x) (q x) (filter p xs) (filter q xs) (f x) (filter_shorter p q xs f)

pub and-comm : (a b : Bool) → (a && b) ≡ (b && a)
and-comm true true = refl
and-comm true false = refl
and-comm false true = refl
and-comm false false = refl

-- two tests, one after the other
pub filter_both : {A : Type 0} → (p q r : A → Bool) (xs : List A) → ((x : A) → r x ≡ (p x && q x)) → filter r xs ≡ filter p (filter q xs)
filter_both p q r [] e = refl
filter_both p q r (x ∷ xs) e = by_test (q x)
    (λ holds. by_test (p x)
    (λ both. rw (e x) (rw holds (rw both (ap (λ ys. x ∷ ys) (filter_both p q r xs e)))))
    (λ fails. rw (e x) (rw holds (rw fails (filter_both p q r xs e)))))
    (λ fails. by_test (p x)
    (λ one. rw (e x) (rw fails (rw one (filter_both p q r xs e))))
    (λ none. rw (e x) (rw fails (rw none (filter_both p q r xs e)))))

pub filter_swap : {A : Type 0} → (p q : A → Bool) (xs : List A) → filter p (filter q xs) ≡ filter q (filter p xs)
filter_swap p q xs =
    sym (filter_both p q (λ x. p x && q x) xs (λ x. refl)) ∙ filter_both q p (λ x. p x && q x) xs (λ x. and-comm (p x) (q x))

-- a test that asks less of what has passed lets all through
pub filter_same : {A : Type 0} → (p q : A → Bool) (xs : List A) → ((x : A) → p x ≡ true → q x ≡ true) → filter q (filter p xs) ≡ filter p xs
filter_same p q [] f = refl
filter_same p q (x ∷ xs) f = by_test (p x)
    (λ holds. let more : q x ≡ true = f x holds in rw holds (rw more (ap (λ ys. x ∷ ys) (filter_same p q xs f))))
    (λ fails. rw fails (filter_same p q xs f))

-- what is there and passes a test is there after it
pub any_filter : {A : Type 0} → (p q : A → Bool) (xs : List A) → ((x : A) → p x ≡ true → q x ≡ true) → list_any p xs ≡ true
    → list_any p (filter q xs) ≡ true
any_filter p q [] f e = e
any_filter p q (x ∷ xs) f e = by_test (p x)
    (λ holds. let more : q x ≡ true = f x holds in rw more (rw holds refl))
    (λ fails.
    let rest : list_any p xs ≡ true = rw fails at e in
    by_test (q x) (λ more. rw more (rw fails (any_filter p q xs f rest))) (λ less. rw less (any_filter p q xs f rest)))

-- what is there after a test was there
pub any_of_filter : {A : Type 0} → (p q : A → Bool) (xs : List A) → list_any p (filter q xs) ≡ true → list_any p xs ≡ true
any_of_filter p q [] e = e
any_of_filter p q (x ∷ xs) e = by_test (p x)
    (λ holds. rw holds refl)
    (λ fails. by_test (q x)
    (λ more.
    let rest : list_any p (filter q xs) ≡ true = subst (λ (b : Bool). (b || list_any p (filter q xs)) ≡ true) fails
    (subst (λ (b : Bool). list_any p (cond b (x ∷ filter q xs) (filter q xs)) ≡ true) more e) in
    rw fails (any_of_filter p q xs rest))
    (λ less.
    let rest : list_any p (filter q xs) ≡ true = subst (λ (b : Bool). list_any p (cond b (x ∷ filter q xs) (filter q xs)) ≡ true) less e in
    rw fails (any_of_filter p q xs rest)))

-- a test of places that all pass is passed by each
pub places_pass : {A : Type 0} → (f : ℕ → Bool) (k : ℕ) (xs : List A) (c : ℕ) → list_all (λ x. f x.0) (enumerate_from k xs) ≡ true
    → c < length xs
    → f (k + c) ≡ true
places_pass f k [] c e h = absurd (omega (arith, h))
places_pass f k (x ∷ xs) zero e h =
    let same : k + 0 ≡ k = omega arith in
    rw same (and_left (f k) (list_all (λ x. f x.0) (enumerate_from (k + 1) xs)) e)
places_pass f k (x ∷ xs) (suc c) e h =
    let same : k + suc c ≡ (k + 1) + c = omega arith in
    rw same (places_pass f (k + 1) xs c (and_right (f k) (list_all (λ x. f x.0) (enumerate_from (k + 1) xs)) e) (omega (arith, h)))
