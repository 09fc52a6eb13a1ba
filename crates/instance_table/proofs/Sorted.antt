-- Lists in the order of a number that each entry has.
use Rattle.std.proofs.Common.{◌≡◌, ◌≤◌, ◌<◌, ◌+◌, ◌++◌, ◌==◌, ◌∙◌, ℕ, List, [], ◌∷◌, zero, suc, Bool, true, false, cond, Option, None, Some}
use Rattle.std.proofs.Common.{refl, ap, sym, subst, length, map, filter, find, reverse, slice_get, arith, eqb-true, eq-eqb, nat_lt, lt-ltb}
use Rattle.std.proofs.Common.{ltb-true, ltb-false, set, get_or, is_some, not, remove}
use Rattle.std.specs.Prelude.{IfSome, slice_index_or}
use Rattle.std.specs.List.Sorted.{IsPartitionPoint, IsPartitionedBy}
use mathlib.Core.List.{reverse-cons}
use Rattle.lcm_model.specs.Words.{otherwise, when}
use Rattle.lcm_laws.proofs.Lists.{by_test}
use Rattle.lcm_laws.proofs.NumberLaws.{IsCounted}
use Rattle.instance_table.specs.Steps.{Over, Rises, update, with_key}

-- all numbers are below this one
abbrev pub Under : {A : Type 0} → (A → ℕ) → ℕ → List A → Type 0
Under f n [] = Unit {0}
Under f n (x ∷ xs) = (f x < n) × Under f n xs

-- each number is above those behind it
abbrev pub Falls : {A : Type 0} → (A → ℕ) → List A → Type 0
Falls f [] = Unit {0}
Falls f (x ∷ xs) = Under f (f x) xs × Falls f xs

under-more : {A : Type 0} → (f : A → ℕ) (n k : ℕ) (xs : List A) → Under f n xs → n ≤ k → Under f k xs
under-more f n k [] b h = tt
under-more f n k (x ∷ xs) b h = let low = b.0 in (omega (arith, low, h), under-more f n k xs b.1 h)

under-counted : {A : Type 0} → (f : A → ℕ) (xs : List A) → IsCounted f xs → Under f (length xs + 1) xs
under-counted f [] c = tt
under-counted f (x ∷ xs) c = let number = c.0 in (
  omega (arith, number),
  under-more f (length xs + 1) (suc (length xs) + 1) xs (under-counted f xs c.1) (omega arith),
)

-- numbers that are counted fall
pub falls-counted : {A : Type 0} → (f : A → ℕ) (xs : List A) → IsCounted f xs → Falls f xs
falls-counted f [] c = tt
falls-counted f (x ∷ xs) c = (subst (λ (n : ℕ). Under f n xs) (sym c.0) (under-counted f xs c.1), falls-counted f xs c.1)

under-filter : {A : Type 0} → (f : A → ℕ) (p : A → Bool) (n : ℕ) (xs : List A) → Under f n xs → Under f n (filter p xs)
under-filter f p n [] b = tt
under-filter f p n (x ∷ xs) b = by_test (p x) (λ passes. rw passes (b.0, under-filter f p n xs b.1))
    (λ fails. rw fails (under-filter f p n xs b.1))

-- what is left out changes no order
pub falls-filter : {A : Type 0} → (f : A → ℕ) (p : A → Bool) (xs : List A) → Falls f xs → Falls f (filter p xs)
falls-filter f p [] b = tt
falls-filter f p (x ∷ xs) b = by_test (p x) (λ passes. rw passes (under-filter f p (f x) xs b.0, falls-filter f p xs b.1))
    (λ fails. rw fails (falls-filter f p xs b.1))

under-map : {A B : Type 0} → (f : B → ℕ) (g : A → B) (n : ℕ) (xs : List A) → Under (λ x. f (g x)) n xs → Under f n (map g xs)
under-map f g n [] b = tt
under-map f g n (x ∷ xs) b = (b.0, under-map f g n xs b.1)

pub falls-map : {A B : Type 0} → (f : B → ℕ) (g : A → B) (xs : List A) → Falls (λ x. f (g x)) xs → Falls f (map g xs)
falls-map f g [] b = tt
falls-map f g (x ∷ xs) b = (under-map f g (f (g x)) xs b.0, falls-map f g xs b.1)

over-end : {A : Type 0} → (f : A → ℕ) (n : ℕ) (xs : List A) (y : A) → Over f n xs → n < f y → Over f n (xs ++ y ∷ [])
over-end f n [] y b h = (h, tt)
over-end f n (x ∷ xs) y b h = (b.0, over-end f n xs y b.1 h)

under-end : {A : Type 0} → (f : A → ℕ) (n : ℕ) (xs : List A) (y : A) → Under f n xs → f y < n → Under f n (xs ++ y ∷ [])
under-end f n [] y b h = (h, tt)
under-end f n (x ∷ xs) y b h = (b.0, under-end f n xs y b.1 h)

under-reverse : {A : Type 0} → (f : A → ℕ) (n : ℕ) (xs : List A) → Under f n xs → Under f n (reverse xs)
under-reverse f n [] b = tt
under-reverse f n (x ∷ xs) b = subst (λ ys. Under f n ys) (sym (reverse-cons x xs))
    (under-end f n (reverse xs) x (under-reverse f n xs b.1) b.0)

rises-end : {A : Type 0} → (f : A → ℕ) (xs : List A) (y : A) → Rises f xs → Under f (f y) xs → Rises f (xs ++ y ∷ [])
rises-end f [] y r b = (tt, tt)
rises-end f (x ∷ xs) y r b = (over-end f (f x) xs y r.0 b.0, rises-end f xs y r.1 b.1)

-- what falls rises from its end
pub rises-reverse : {A : Type 0} → (f : A → ℕ) (xs : List A) → Falls f xs → Rises f (reverse xs)
rises-reverse f [] b = tt
rises-reverse f (x ∷ xs) b =
    subst (λ ys. Rises f ys) (sym (reverse-cons x xs)) (rises-end f (reverse xs) x (rises-reverse f xs b.1) (under-reverse f (f x) xs b.0))

pub find-end : {A : Type 0} → (p : A → Bool) (xs : List A) (y : A) → find p (xs ++ y ∷ []) ≡ otherwise (find p xs) (when (p y) y)
find-end p [] y = by_test (p y) (λ passes. rw passes refl) (λ fails. rw fails refl)
find-end p (x ∷ xs) y = by_test (p x) (λ passes. rw passes refl) (λ fails. rw fails (find-end p xs y))

pub under-none : {A : Type 0} → (f : A → ℕ) (n : ℕ) (xs : List A) → Under f n xs → find (λ x. f x == n) xs ≡ None
under-none f n [] b = refl
under-none f n (x ∷ xs) b =
    let low = b.0 in
    let other : (f x == n) ≡ false = by_test (f x == n) (λ same. let is : f x ≡ n = eqb-true (f x) n same in
    absurd (omega (arith, low, is))) (λ no. no) in
    rw other (under-none f n xs b.1)

over-none : {A : Type 0} → (f : A → ℕ) (n : ℕ) (xs : List A) → Over f n xs → find (λ x. f x == n) xs ≡ None
over-none f n [] b = refl
over-none f n (x ∷ xs) b =
    let low = b.0 in
    let other : (f x == n) ≡ false = by_test (f x == n) (λ same. let is : f x ≡ n = eqb-true (f x) n same in
    absurd (omega (arith, low, is))) (λ no. no) in
    rw other (over-none f n xs b.1)

-- what has a number is found from either end
pub find-reverse : {A : Type 0} → (f : A → ℕ) (n : ℕ) (xs : List A) → Falls f xs
    → find (λ x. f x == n) (reverse xs) ≡ find (λ x. f x == n) xs
find-reverse f n [] b = refl
find-reverse f n (x ∷ xs) b =
    ap (λ ys. find (λ x. f x == n) ys) (reverse-cons x xs)
    ∙ (find-end (λ x. f x == n) (reverse xs) x
    ∙ (ap (λ y. otherwise y (when (f x == n) x)) (find-reverse f n xs b.1)
    ∙ by_test (f x == n)
    (λ same.
    let is : f x ≡ n = eqb-true (f x) n same in
    let none : find (λ x. f x == n) xs ≡ None = under-none f n xs (subst (λ (k : ℕ). Under f k xs) is b.0) in
    rw (same, none) refl)
    (λ other. rw other (or_none (find (λ x. f x == n) xs))))) where
      or_none : {A : Type 0} → (y : Option A) → otherwise y None ≡ y
      or_none None = refl
      or_none (Some y) = refl

over-index : {A : Type 0} → (f : A → ℕ) (n : ℕ) (xs : List A) (j : ℕ) (d : A) → Over f n xs → j < length xs → n < f (slice_index_or xs j d)
over-index f n [] j d b h = absurd (omega (arith, h))
over-index f n (x ∷ xs) zero d b h = b.0
over-index f n (x ∷ xs) (suc j) d b h = over-index f n xs j d b.1 (omega (arith, h))

parted-at : {A : Type 0} → (f : A → ℕ) (n : ℕ) (xs : List A) → Rises f xs → (i j : ℕ) (d : A) → i ≤ j → j < length xs
    → nat_lt (f (slice_index_or xs j d)) n ≡ true → nat_lt (f (slice_index_or xs i d)) n ≡ true
parted-at f n [] r i j d h less passes = absurd (omega (arith, less))
parted-at f n (x ∷ xs) r zero zero d h less passes = passes
parted-at f n (x ∷ xs) r zero (suc j) d h less passes =
    let up = over-index f (f x) xs j d r.0 (omega (arith, less)) in
    let low = ltb-true (f (slice_index_or xs j d)) n passes in
    lt-ltb (f x) n (omega (arith, up, low))
parted-at f n (x ∷ xs) r (suc i) zero d h less passes = absurd (omega (arith, h))
parted-at f n (x ∷ xs) r (suc i) (suc j) d h less passes = parted-at f n xs r.1 i j d (omega (arith, h)) (omega (arith, less)) passes

-- those below a number stand before the others
pub parted : {A : Type 0} → (f : A → ℕ) (n : ℕ) (xs : List A) → Rises f xs → IsPartitionedBy (λ x. nat_lt (f x) n) xs
parted f n xs r = λ i j d h less passes. parted-at f n xs r i j d h less passes

-- how many stand at the front that are below a number
abbrev pub leading : {A : Type 0} → (A → ℕ) → ℕ → List A → ℕ
leading f n [] = 0
leading f n (x ∷ xs) = cond (nat_lt (f x) n) (suc (leading f n xs)) 0

pub leading-is : {A : Type 0} → (f : A → ℕ) (n : ℕ) (xs : List A) (k : ℕ) → k ≤ length xs
    → IsPartitionPoint (λ x. nat_lt (f x) n ≡ true) (λ x. nat_lt (f x) n ≡ false) xs k → k ≡ leading f n xs
leading-is f n [] k h point = omega (arith, h)
leading-is f n (x ∷ xs) zero h point = let fails : nat_lt (f x) n ≡ false = point.1 0 x (omega arith) (omega arith) in rw fails refl
leading-is f n (x ∷ xs) (suc k) h point =
    let passes : nat_lt (f x) n ≡ true = point.0 0 x (omega arith) (omega arith) in
    let rest : k ≡ leading f n xs = leading-is f n xs k (omega (arith, h)) (
      (λ j d low high. point.0 (suc j) d (omega arith) (omega (arith, high))),
      (λ j d low high. point.1 (suc j) d (omega (arith, low)) (omega (arith, high))),
    ) in
    rw passes (ap suc rest)

-- what has a number stands behind those below it
pub found-behind : {A : Type 0} → (f : A → ℕ) (n : ℕ) (xs : List A) → Rises f xs
    → with_key f n (slice_get xs (leading f n xs)) ≡ find (λ x. f x == n) xs
found-behind f n [] r = refl
found-behind f n (x ∷ xs) r = by_test (nat_lt (f x) n)
    (λ low.
    let less = ltb-true (f x) n low in
    let other : (f x == n) ≡ false = by_test (f x == n) (λ same. let is : f x ≡ n = eqb-true (f x) n same in
    absurd (omega (arith, less, is))) (λ no. no) in
    rw (low, other) (found-behind f n xs r.1))
    (λ high. rw high (by_test (f x == n)
    (λ same. rw same refl)
    (λ other.
    let more = ltb-false (f x) n high in
    let above : n < f x = differ (f x) n more other in
    let none : find (λ y. f y == n) xs ≡ None = over-none f n xs (over-less f (f x) n xs r.0 above) in
    rw (other, none) refl))) where
      differ : (a b : ℕ) → b ≤ a → (a == b) ≡ false → b < a
      differ a b h e = by_test (nat_lt b a) (λ less. ltb-true b a less)
          (λ no. let le = ltb-false b a no in let is : a ≡ b = omega (arith, h, le) in let same : (a == b) ≡ true = eq-eqb a b is in
          let clash : true ≡ false = sym same ∙ e in cc)

      over-less : {A : Type 0} → (f : A → ℕ) (n k : ℕ) (xs : List A) → Over f n xs → k < n → Over f k xs
      over-less f n k [] b h = tt
      over-less f n k (x ∷ xs) b h = let low = b.0 in (omega (arith, low, h), over-less f n k xs b.1 h)

-- what a search by number finds
pub found : {A : Type 0} → (f : A → ℕ) (n : ℕ) (xs : List A) (k : ℕ) → Rises f xs → k ≤ length xs
    → (IsPartitionedBy (λ x. nat_lt (f x) n) xs → IsPartitionPoint (λ x. nat_lt (f x) n ≡ true) (λ x. nat_lt (f x) n ≡ false) xs k)
    → with_key f n (slice_get xs k) ≡ find (λ x. f x == n) xs
found f n xs k r h point =
    ap (λ (j : ℕ). with_key f n (slice_get xs j)) (leading-is f n xs k h (point (parted f n xs r))) ∙ found-behind f n xs r

-- nothing changes beyond the end
pub update-past : {A : Type 0} → (f : A → A) (n : ℕ) (xs : List A) → length xs ≤ n → update f n xs ≡ xs
update-past f n [] h = refl
update-past f zero (x ∷ xs) h = absurd (omega (arith, h))
update-past f (suc n) (x ∷ xs) h = ap (λ ys. x ∷ ys) (update-past f n xs (omega (arith, h)))

-- what is written at a place is what the change makes of the entry there
pub update-set : {A : Type 0} → (f : A → A) (n : ℕ) (xs : List A) (x : A) → n < length xs → x ≡ get_or xs n x
    → set xs n (f x) ≡ update f n xs
update-set f n [] x h e = absurd (omega (arith, h))
update-set f zero (y ∷ ys) x h e = ap (λ z. f z ∷ ys) e
update-set f (suc n) (y ∷ ys) x h e = ap (λ zs. y ∷ zs) (update-set f n ys x (omega (arith, h)) e)

-- a place that isn't within is beyond the end
pub not_within : (n k : ℕ) → (n < k → false ≡ true) → k ≤ n
not_within n zero f = omega arith
not_within zero (suc k) f = let e : false ≡ true = f (omega arith) in cc
not_within (suc n) (suc k) f = let less : k ≤ n = not_within n k (λ h. f (omega (arith, h))) in omega (arith, less)

over-same : {A : Type 0} → (f : A → ℕ) (n k : ℕ) (g : A → A) (xs : List A) → Over f k xs → n ≤ k → ((x : A) → (f x == n) ≡ false → g x ≡ x)
    → xs ≡ map g xs
over-same f n k g [] b h e = refl
over-same f n k g (x ∷ xs) b h e =
    let up = b.0 in
    let other : (f x == n) ≡ false = by_test (f x == n) (λ same. let is : f x ≡ n = eqb-true (f x) n same in
    absurd (omega (arith, up, h, is))) (λ no. no) in
    ap (λ ys. x ∷ ys) (over-same f n k g xs b.1 h e) ∙ ap (λ y. y ∷ map g xs) (sym (e x other))

update-leading : {A : Type 0} → (f : A → ℕ) (n : ℕ) (g : A → A) (xs : List A) → Rises f xs → ((x : A) → (f x == n) ≡ false → g x ≡ x)
    → update g (leading f n xs) xs ≡ map g xs
update-leading f n g [] r e = refl
update-leading f n g (x ∷ xs) r e = by_test (nat_lt (f x) n)
    (λ low.
    let less = ltb-true (f x) n low in
    let other : (f x == n) ≡ false = by_test (f x == n) (λ same. let is : f x ≡ n = eqb-true (f x) n same in
    absurd (omega (arith, less, is))) (λ no. no) in
    rw low (ap (λ ys. x ∷ ys) (update-leading f n g xs r.1 e) ∙ ap (λ y. y ∷ map g xs) (sym (e x other))))
    (λ high. let more = ltb-false (f x) n high in rw high (ap (λ ys. g x ∷ ys) (over-same f n (f x) g xs r.0 more e)))

changed_here : {A : Type 0} → (f : A → ℕ) (n : ℕ) (g : A → A) (xs : List A) (k : ℕ) → Rises f xs → ((x : A) → (f x == n) ≡ false → g x ≡ x)
    → k ≤ length xs
    → (IsPartitionedBy (λ x. nat_lt (f x) n) xs → IsPartitionPoint (λ x. nat_lt (f x) n ≡ true) (λ x. nat_lt (f x) n ≡ false) xs k)
    → update g k xs ≡ map g xs
changed_here f n g xs k r e h point =
    ap (λ (j : ℕ). update g j xs) (leading-is f n xs k h (point (parted f n xs r))) ∙ update-leading f n g xs r e

-- what changes one number alone is done where a search by number leads
pub changed_one : {A : Type 0} → (f : A → ℕ) (n : ℕ) (g : A → A) (xs ys : List A) (k : ℕ) → ys ≡ xs → Rises f xs
    → ((x : A) → (f x == n) ≡ false → g x ≡ x) → k ≤ length ys
    → (IsPartitionedBy (λ x. nat_lt (f x) n) ys → IsPartitionPoint (λ x. nat_lt (f x) n ≡ true) (λ x. nat_lt (f x) n ≡ false) ys k)
    → update g k xs ≡ map g xs
changed_one f n g xs ys k is r e h point =
    subst (λ zs. update g k zs ≡ map g zs) is (changed_here f n g ys k (subst (λ zs. Rises f zs) (sym is) r) e h point)

-- what is found at the place where a search by number leads
pub found_at : {A : Type 0} → (f : A → ℕ) (n : ℕ) (xs ys : List A) (k : ℕ) → ys ≡ xs → Rises f xs → k ≤ length ys
    → (IsPartitionedBy (λ x. nat_lt (f x) n) ys → IsPartitionPoint (λ x. nat_lt (f x) n ≡ true) (λ x. nat_lt (f x) n ≡ false) ys k)
    → with_key f n (slice_get xs k) ≡ find (λ x. f x == n) xs
found_at f n xs ys k is r h point =
    subst (λ zs. with_key f n (slice_get zs k) ≡ find (λ x. f x == n) zs) is (found f n ys k (subst (λ zs. Rises f zs) (sym is) r) h point)

-- an entry with this number stands within the list
pub key_within : {A : Type 0} → (f : A → ℕ) (n : ℕ) (xs : List A) (k : ℕ) → is_some (with_key f n (slice_get xs k)) ≡ true → k < length xs
key_within f n [] k e = cc
key_within f n (x ∷ xs) zero e = omega arith
key_within f n (x ∷ xs) (suc k) e = let less = key_within f n xs k e in omega (arith, less)

-- the entry at a place is the one with this number there
pub key_taken : {A : Type 0} → (f : A → ℕ) (n : ℕ) (xs : List A) (k : ℕ) (r : A) → is_some (with_key f n (slice_get xs k)) ≡ true
    → r ≡ slice_index_or xs k r
    → Some r ≡ with_key f n (slice_get xs k)
key_taken f n [] k r e g = cc
key_taken f n (x ∷ xs) zero r e g = by_test (f x == n)
    (λ same. rw same (ap Some g))
    (λ other. let none : is_some (when (f x == n) x) ≡ false = rw other refl in let clash : true ≡ false = sym e ∙ none in cc)
key_taken f n (x ∷ xs) (suc k) r e g = key_taken f n xs k r e g

over-stay : {A : Type 0} → (f : A → ℕ) (n k : ℕ) (xs : List A) → Over f k xs → n ≤ k → xs ≡ filter (λ x. not (f x == n)) xs
over-stay f n k [] b h = refl
over-stay f n k (x ∷ xs) b h =
    let up = b.0 in
    let other : (f x == n) ≡ false = by_test (f x == n) (λ same. let is : f x ≡ n = eqb-true (f x) n same in
    absurd (omega (arith, up, h, is))) (λ no. no) in
    rw other (ap (λ ys. x ∷ ys) (over-stay f n k xs b.1 h))

cons-cond : {A : Type 0} → (x : A) (b : Bool) (xs ys : List A) → cond b (x ∷ xs) (x ∷ ys) ≡ x ∷ cond b xs ys
cons-cond x true xs ys = refl
cons-cond x false xs ys = refl

-- a list without the entry that a search by number leads to, if it has the number
removed-leading : {A : Type 0} → (f : A → ℕ) (n : ℕ) (xs : List A) → Rises f xs
    → cond (is_some (with_key f n (slice_get xs (leading f n xs)))) (remove xs (leading f n xs)) xs ≡ filter (λ x. not (f x == n)) xs
removed-leading f n [] r = refl
removed-leading f n (x ∷ xs) r = by_test (nat_lt (f x) n)
    (λ low.
    let less = ltb-true (f x) n low in
    let other : (f x == n) ≡ false = by_test (f x == n) (λ same. let is : f x ≡ n = eqb-true (f x) n same in
    absurd (omega (arith, less, is))) (λ no. no) in
    rw (low, other) (cons-cond x (is_some (with_key f n (slice_get xs (leading f n xs)))) (remove xs (leading f n xs)) xs
    ∙ ap (λ ys. x ∷ ys) (removed-leading f n xs r.1)))
    (λ high.
    let more = ltb-false (f x) n high in
    let rest = over-stay f n (f x) xs r.0 more in
    rw high (by_test (f x == n) (λ same. rw same rest) (λ other. rw other (ap (λ ys. x ∷ ys) rest))))

-- what is taken out where a search by number leads
pub removed_at : {A : Type 0} → (f : A → ℕ) (n : ℕ) (xs ys : List A) (k : ℕ) (r : Option A) → ys ≡ xs → Rises f xs → k ≤ length ys
    → (IsPartitionedBy (λ x. nat_lt (f x) n) ys → IsPartitionPoint (λ x. nat_lt (f x) n ≡ true) (λ x. nat_lt (f x) n ≡ false) ys k)
    → r ≡ with_key f n (slice_get xs k)
    → cond (is_some r) (remove xs k) xs ≡ filter (λ x. not (f x == n)) xs
removed_at f n xs ys k r is rises h point e =
    let at : k ≡ leading f n xs = subst (λ zs. k ≡ leading f n zs) is
    (leading-is f n ys k h (point (parted f n ys (subst (λ zs. Rises f zs) (sym is) rises)))) in
    ap (λ y. cond (is_some y) (remove xs k) xs) e
    ∙ (ap (λ (j : ℕ). cond (is_some (with_key f n (slice_get xs j))) (remove xs j) xs) at ∙ removed-leading f n xs rises)

-- what holds of the entry with a number at a place holds of the entry there, where it has the number
pub key_holds : {A : Type 0} → (f : A → ℕ) (n : ℕ) (P : A → Type 0) (xs : List A) (k : ℕ) (x : A) → k < length xs → x ≡ get_or xs k x
    → IfSome (with_key f n (slice_get xs k)) P
    → (f x == n) ≡ true → P x
key_holds f n P [] k x h e holds same = absurd (omega (arith, h))
key_holds f n P (y ∷ ys) zero x h e holds same =
    let own : (f y == n) ≡ true = subst (λ z. (f z == n) ≡ true) e same in
    subst P (sym e) (subst (λ (b : Bool). IfSome (when b y) P) own holds)
key_holds f n P (y ∷ ys) (suc k) x h e holds same = key_holds f n P ys k x (omega (arith, h)) e holds same
