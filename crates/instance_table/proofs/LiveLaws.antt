-- What was deleted or ended was made, and where what is live stands.
use Rattle.std.proofs.Common.{◌≡◌, ◌≤◌, ◌++◌, ◌==◌, ◌&&◌, ◌||◌, ◌∙◌, ℕ, List, [], ◌∷◌, Bool, true, false, cond, not, Option, None, Some}
use Rattle.std.proofs.Common.{is_some, refl, ap, sym, subst, length, map, filter, find, reverse, option_map, arith, eqb-true, eq-eqb}
use Rattle.std.proofs.Common.{false-eqb}
use Rattle.std.proofs.lemmas.List.{length-reverse, length-map}
use Rattle.std.proofs.lemmas.List.Elements.{filter-append}
use mathlib.Core.List.{reverse-cons}
use Rattle.lcm_events.specs.declared.events.Event.{Event}
use Rattle.lcm_events.specs.declared.events.EventKind.{EventKind}
use Rattle.lcm_events.specs.declared.events.EventKind.TheVariants.{Created, Deleted, Subscribed, Unsubscribed}
use Rattle.lcm_model.specs.Allowed.{IsAllowedWithin, IsLegalWithin}
use Rattle.lcm_model.specs.Lives.{creation, creations, instances_made, is_deleted, is_unsubscribed, subscription, subscriptions}
use Rattle.lcm_model.specs.Lives.{subscriptions_made}
use Rattle.lcm_laws.proofs.Histories.{event, legal_induction}
use Rattle.lcm_laws.proofs.Lists.{and_left, by_test, filter_both}
use Rattle.lcm_laws.proofs.NumberLaws.{found_within, instances_counted, subscriptions_counted}

-- an instance that was deleted has a number of one that was made
abbrev DeletedMade : List Event → Type 0
DeletedMade H = (i : ℕ) → is_deleted H i ≡ true → i ≤ instances_made H

deleted_step : (width m : ℕ) (H : List Event) (time : ℕ) (k : EventKind) → IsLegalWithin width m H → IsAllowedWithin width m H k
    → DeletedMade H → DeletedMade (event time k ∷ H)
deleted_step width m H time (Created n vnfd name text) legal allowed h i gone = let before = h i gone in omega (arith, before)
deleted_step width m H time (Deleted n) legal allowed h i gone = by_test (n == i)
    (λ same.
    let is : n ≡ i = eqb-true n i same in
    let there = and_left (is_some (creation H n)) (not (is_deleted H n)) allowed.live in
    let within = (found_within (λ x. x.instance) (creations H) n (instances_counted width m H legal) there).1 in
    omega (arith, is, within))
    (λ other. h i (subst (λ (b : Bool). (b || is_deleted H i) ≡ true) other gone))
deleted_step width m H time k legal allowed h i gone = h i gone

pub deleted_made : (width m : ℕ) (H : List Event) → IsLegalWithin width m H → DeletedMade H
deleted_made width m H legal = legal_induction width m DeletedMade (λ i gone. cc)
    (λ H time k legal allowed h. deleted_step width m H time k legal allowed h) H legal

-- a subscription that was ended has a number of one that was made
abbrev EndedMade : List Event → Type 0
EndedMade H = (s : ℕ) → is_unsubscribed H s ≡ true → s ≤ subscriptions_made H

ended_step : (width m : ℕ) (H : List Event) (time : ℕ) (k : EventKind) → IsLegalWithin width m H → IsAllowedWithin width m H k → EndedMade H
    → EndedMade (event time k ∷ H)
ended_step width m H time (Subscribed n role callback filter) legal allowed h s gone = let before = h s gone in omega (arith, before)
ended_step width m H time (Unsubscribed n) legal allowed h s gone = by_test (n == s)
    (λ same.
    let is : n ≡ s = eqb-true n s same in
    let there = and_left (is_some (subscription H n)) (not (is_unsubscribed H n)) allowed in
    let within = (found_within (λ x. x.number) (subscriptions H) n (subscriptions_counted width m H legal) there).1 in
    omega (arith, is, within))
    (λ other. h s (subst (λ (b : Bool). (b || is_unsubscribed H s) ≡ true) other gone))
ended_step width m H time k legal allowed h s gone = h s gone

pub ended_made : (width m : ℕ) (H : List Event) → IsLegalWithin width m H → EndedMade H
ended_made width m H legal = legal_induction width m EndedMade (λ s gone. cc)
    (λ H time k legal allowed h. ended_step width m H time k legal allowed h) H legal

-- what isn't so is false
pub false_by : (b : Bool) → (b ≡ true → ⊥) → b ≡ false
false_by true f = absurd (f refl)
false_by false f = refl

filter_swap_map : {A B : Type 0} → (p : B → Bool) (f : A → B) (xs : List A) → filter p (map f xs) ≡ map f (filter (λ x. p (f x)) xs)
filter_swap_map p f [] = refl
filter_swap_map p f (x ∷ xs) = by_test (p (f x))
    (λ passes. rw passes (ap (λ ys. f x ∷ ys) (filter_swap_map p f xs)))
    (λ fails. rw fails (filter_swap_map p f xs))

filter_reverse : {A : Type 0} → (p : A → Bool) (xs : List A) → filter p (reverse xs) ≡ reverse (filter p xs)
filter_reverse p [] = refl
filter_reverse p (x ∷ xs) =
    ap (filter p) (reverse-cons x xs)
    ∙ (filter-append p (reverse xs) (x ∷ [])
    ∙ (ap (λ ys. ys ++ filter p (x ∷ [])) (filter_reverse p xs)
    ∙ by_test (p x) (λ passes. rw passes (sym (reverse-cons x (filter p xs))))
    (λ fails. rw fails (nil_right (reverse (filter p xs)))))) where
      nil_right : {A : Type 0} → (ys : List A) → ys ++ [] ≡ ys
      nil_right [] = refl
      nil_right (y ∷ ys) = ap (λ zs. y ∷ zs) (nil_right ys)

-- fewer rows, where a test asks more
pub fewer : {A B : Type 0} → (g : A → B) (q : B → Bool) (p r : A → Bool) (xs : List A) → ((x : A) → r x ≡ (q (g x) && p x))
    → reverse (map g (filter r xs)) ≡ filter q (reverse (map g (filter p xs)))
fewer g q p r xs e =
    ap (λ ys. reverse (map g ys)) (filter_both (λ x. q (g x)) p r xs e)
    ∙ (ap reverse (sym (filter_swap_map q g (filter p xs))) ∙ sym (filter_reverse q (map g (filter p xs))))

-- one row more, where a test lets one more through
pub one_more : {A B : Type 0} → (g : A → B) (p : A → Bool) (x : A) (xs : List A) → p x ≡ true
    → reverse (map g (filter p (x ∷ xs))) ≡ reverse (map g (filter p xs)) ++ g x ∷ []
one_more g p x xs e = ap (λ b. reverse (map g (cond b (x ∷ filter p xs) (filter p xs)))) e ∙ reverse-cons (g x) (map g (filter p xs))

-- numbers are compared in either order
pub flip : (a b : ℕ) → (a == b) ≡ (b == a)
flip a b = by_test (a == b)
    (λ same. let is : b ≡ a = sym (eqb-true a b same) in same ∙ sym (eq-eqb b a is))
    (λ other. by_test (b == a)
    (λ same. let is : a ≡ b = sym (eqb-true b a same) in absurd (false-eqb a b (sym other) is))
    (λ too. other ∙ sym too))

pub without-not : (a b : Bool) → not (a || b) ≡ (not a && not b)
without-not true b = refl
without-not false b = refl

-- a test of the number alone, and what it leaves of what has a number
pub find-filter : {A : Type 0} → (f : A → ℕ) (p : A → Bool) (n : ℕ) (xs : List A) → (b : Bool) → ((x : A) → f x ≡ n → p x ≡ b)
    → find (λ x. f x == n) (filter p xs) ≡ cond b (find (λ x. f x == n) xs) None
find-filter f p n [] true e = refl
find-filter f p n [] false e = refl
find-filter f p n (x ∷ xs) b e = by_test (f x == n)
    (λ same.
    let is : p x ≡ b = e x (eqb-true (f x) n same) in
    at_number b (p x) same is (find-filter f p n xs b e))
    (λ other. by_test (p x)
    (λ passes. rw (passes, other) (find-filter f p n xs b e))
    (λ fails. rw (fails, other) (find-filter f p n xs b e))) where
      at_number : (b c : Bool) → (f x == n) ≡ true → c ≡ b → find (λ x. f x == n) (filter p xs) ≡ cond b (find (λ x. f x == n) xs) None
          → find (λ x. f x == n) (cond c (x ∷ filter p xs) (filter p xs)) ≡ cond b (cond (f x == n) (Some x) (find (λ x. f x == n) xs)) None
      at_number true true same is rest = rw same refl
      at_number false false same is rest = rest
      at_number true false same is rest = cc
      at_number false true same is rest = cc

pub find-map : {A B : Type 0} → (f : B → ℕ) (g : A → B) (n : ℕ) (xs : List A)
    → find (λ y. f y == n) (map g xs) ≡ option_map g (find (λ x. f (g x) == n) xs)
find-map f g n [] = refl
find-map f g n (x ∷ xs) = by_test (f (g x) == n) (λ same. rw same refl) (λ other. rw other (find-map f g n xs))

-- what is there and passes, or is none
pub if_there : {A B : Type 0} → (g : A → B) (y : Option A) (b : Bool)
    → option_map g (cond b y None) ≡ cond (is_some y && b) (option_map g y) None
if_there g None true = refl
if_there g None false = refl
if_there g (Some x) true = refl
if_there g (Some x) false = refl

pub long : {A B : Type 0} → (g : A → B) (xs : List A) → length (reverse (map g xs)) ≡ length xs
long g xs = length-reverse (map g xs) ∙ length-map xs g
