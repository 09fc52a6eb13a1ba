-- What is made is numbered from 1 on.
use Rattle.std.proofs.Common.{◌≡◌, ◌≤◌, ◌+◌, ◌++◌, ◌==◌, ◌∙◌, ◌↔◌, ℕ, List, [], ◌∷◌, true, false, Some, is_some, refl, ap, sym, length, map}
use Rattle.std.proofs.Common.{reverse, find, arith, eqb-true, false-eqb, ◌≢◌, zero, suc}
use Rattle.std.proofs.lemmas.List.{length-map}
use mathlib.Core.List.{reverse-cons}
use Rattle.std.specs.List.{range_with_len}
use Rattle.lcm_events.specs.declared.events.Event.{Event}
use Rattle.lcm_events.specs.declared.events.EventKind.{EventKind}
use Rattle.lcm_events.specs.declared.events.EventKind.TheVariants.{Asked, Created, Subscribed}
use Rattle.lcm_events.specs.declared.events.Operation.{Operation}
use Rattle.lcm_model.specs.Lives.{creations, subscriptions}
use Rattle.lcm_model.specs.Operations.{operation, operations, occurrences_made}
use Rattle.lcm_model.specs.Allowed.{IsAllowedWithin, IsLegalWithin}
use Rattle.lcm_laws.specs.Numbering.{IsNumbered, RunFromOne}
use Rattle.lcm_laws.proofs.Histories.{event, legal_induction}
use Rattle.lcm_laws.proofs.Lists.{by_test}

-- each has a number that is one more than there are before it
abbrev pub IsCounted : {A : Type 0} → (A → ℕ) → List A → Type 0
IsCounted f [] = Unit {0}
IsCounted f (x ∷ xs) = (f x ≡ length xs + 1) × IsCounted f xs

range_end : (a n : ℕ) → range_with_len a (suc n) ≡ range_with_len a n ++ (a + n) ∷ []
range_end a zero = let e : a ≡ a + 0 = omega arith in ap (λ (k : ℕ). k ∷ []) e
range_end a (suc n) =
    let e : (a + 1) + n ≡ a + suc n = omega arith in
    ap (λ (ks : List ℕ). a ∷ ks) (range_end (a + 1) n ∙ ap (λ (k : ℕ). range_with_len (a + 1) n ++ k ∷ []) e)

-- such numbers run from 1
pub counted-range : {A : Type 0} → (f : A → ℕ) (xs : List A) → IsCounted f xs → RunFromOne (map f xs)
counted-range f [] h = refl
counted-range f (x ∷ xs) h =
    let before : reverse (map f xs) ≡ range_with_len 1 (length (map f xs)) = counted-range f xs h.1 in
    let here : f x ≡ 1 + length (map f xs) = omega (arith, h.0, length-map xs f) in
    reverse-cons (f x) (map f xs)
    ∙ (ap (λ (ks : List ℕ). ks ++ f x ∷ []) before
    ∙ (ap (λ (k : ℕ). range_with_len 1 (length (map f xs)) ++ k ∷ []) here
    ∙ sym (range_end 1 (length (map f xs)))))

counted_step : (width m : ℕ) (H : List Event) (t : ℕ) (k : EventKind) → IsAllowedWithin width m H k → IsCounted (λ a. a.occ) (operations H)
    → IsCounted (λ a. a.occ) (operations (event t k ∷ H))
counted_step width m H t (Asked a) allowed h = (allowed.number, h)
counted_step width m H t _ allowed h = h

-- the operations of a legal history are counted
pub operations_counted : (width m : ℕ) (H : List Event) → IsLegalWithin width m H → IsCounted (λ a. a.occ) (operations H)
operations_counted width m H legal = legal_induction width m (λ H. IsCounted (λ a. a.occ) (operations H)) tt
    (λ H t k legal allowed h. counted_step width m H t k allowed h) H legal

instances_step : (width m : ℕ) (H : List Event) (t : ℕ) (k : EventKind) → IsAllowedWithin width m H k
    → IsCounted (λ x. x.instance) (creations H)
    → IsCounted (λ x. x.instance) (creations (event t k ∷ H))
instances_step width m H t (Created i vnfd name text) allowed h = (allowed.number, h)
instances_step width m H t _ allowed h = h

pub instances_counted : (width m : ℕ) (H : List Event) → IsLegalWithin width m H → IsCounted (λ x. x.instance) (creations H)
instances_counted width m H legal = legal_induction width m (λ H. IsCounted (λ x. x.instance) (creations H)) tt
    (λ H t k legal allowed h. instances_step width m H t k allowed h) H legal

subscriptions_step : (width m : ℕ) (H : List Event) (t : ℕ) (k : EventKind) → IsAllowedWithin width m H k
    → IsCounted (λ x. x.number) (subscriptions H)
    → IsCounted (λ x. x.number) (subscriptions (event t k ∷ H))
subscriptions_step width m H t (Subscribed s role callback filter) allowed h = (allowed.number, h)
subscriptions_step width m H t _ allowed h = h

pub subscriptions_counted : (width m : ℕ) (H : List Event) → IsLegalWithin width m H → IsCounted (λ x. x.number) (subscriptions H)
subscriptions_counted width m H legal = legal_induction width m (λ H. IsCounted (λ x. x.number) (subscriptions H)) tt
    (λ H t k legal allowed h. subscriptions_step width m H t k allowed h) H legal

pub numbered : (width m : ℕ) (H : List Event) → IsLegalWithin width m H → IsNumbered H
numbered width m H legal = record {
  instances = counted-range (λ x. x.instance) (creations H) (instances_counted width m H legal);
  occurrences = counted-range (λ a. a.occ) (operations H) (operations_counted width m H legal);
  subscriptions = counted-range (λ x. x.number) (subscriptions H) (subscriptions_counted width m H legal);
}

-- what is found has a number from 1 to how many there are
pub found_within : {A : Type 0} → (f : A → ℕ) (xs : List A) (n : ℕ) → IsCounted f xs → is_some (find (λ x. f x == n) xs) ≡ true
    → (1 ≤ n) × (n ≤ length xs)
found_within f [] n h e = cc
found_within f (x ∷ xs) n h e = by_test (f x == n)
    (λ same. let is : f x ≡ n = eqb-true (f x) n same in (omega (arith, h.0, is), omega (arith, h.0, is)))
    (λ other.
    let rest : is_some (find (λ x. f x == n) xs) ≡ true = rw other at e in
    let within : (1 ≤ n) × (n ≤ length xs) = found_within f xs n h.1 rest in
    (within.0, omega (arith, within.1)))

-- each number from 1 to how many there are is found
pub within_found : {A : Type 0} → (f : A → ℕ) (xs : List A) (n : ℕ) → IsCounted f xs → 1 ≤ n → n ≤ length xs
    → is_some (find (λ x. f x == n) xs) ≡ true
within_found f [] n h low high = absurd (omega (arith, low, high))
within_found f (x ∷ xs) n h low high = by_test (f x == n)
    (λ same. rw same refl)
    (λ other.
    let le : n ≤ length xs = below (f x) n (length xs) h.0 other high in
    rw other (within_found f xs n h.1 low le)) where
      below : (a b k : ℕ) → a ≡ k + 1 → (a == b) ≡ false → b ≤ suc k → b ≤ k
      below a b k e ne h = let no : a ≢ b = false-eqb a b (sym ne) in omega (arith, e, no, h)

pub found_exactly : (width m : ℕ) (H : List Event) → IsLegalWithin width m H → (o : ℕ)
    → (is_some (operation H o) ≡ true) ↔ (1 ≤ o) × (o ≤ occurrences_made H)
found_exactly width m H legal o = (
  λ found. found_within (λ a. a.occ) (operations H) o (operations_counted width m H legal) found,
  λ within. within_found (λ a. a.occ) (operations H) o (operations_counted width m H legal) within.0 within.1,
)

pub find-skips : {A : Type 0} → (f : A → ℕ) (b : A) (xs : List A) (n : ℕ) (a : A) → f b ≡ length xs + 1 → IsCounted f xs
    → find (λ x. f x == n) xs ≡ Some a → find (λ x. f x == n) (b ∷ xs) ≡ Some a
find-skips f b xs n a number h e = by_test (f b == n)
    (λ same.
    let is : f b ≡ n = eqb-true (f b) n same in
    let found : is_some (find (λ x. f x == n) xs) ≡ true = rw e refl in
    absurd (omega (arith, number, is, (found_within f xs n h found).1)))
    (λ other. rw other e)

stays_step : (width m : ℕ) (H : List Event) (k : EventKind) (t o : ℕ) (a : Operation) → IsLegalWithin width m H
    → IsAllowedWithin width m H k
    → operation H o ≡ Some a → operation (event t k ∷ H) o ≡ Some a
stays_step width m H (Asked b) t o a legal allowed e = find-skips (λ x. x.occ) b (operations H) o a allowed.number
    (operations_counted width m H legal) e
stays_step width m H _ t o a legal allowed e = e

-- an operation that is found stays found by the next event
pub operation-next : (width m : ℕ) (H : List Event) (t : ℕ) (k : EventKind) (o : ℕ) (a : Operation) → IsLegalWithin width m H
    → IsAllowedWithin width m H k
    → operation H o ≡ Some a → operation (event t k ∷ H) o ≡ Some a
operation-next width m H t k o a legal allowed e = stays_step width m H k t o a legal allowed e

-- an operation that is found stays found
pub operation-later : (width m : ℕ) (H later : List Event) (o : ℕ) (a : Operation) → IsLegalWithin width m (later ++ H)
    → operation H o ≡ Some a
    → operation (later ++ H) o ≡ Some a
operation-later width m H [] o a legal e = e
operation-later width m H (x ∷ later) o a legal e =
    operation-next width m (later ++ H) x.moment x.kind o a legal.1 legal.0 (operation-later width m H later o a legal.1 e)
