-- The least number that passes a test is the first of those that pass.
use Rattle.std.proofs.Common.{◌≡◌, ◌+◌, ◌<◌, ◌≤◌, ◌==◌, ℕ, zero, suc, arith, List, Bool, true, false, Option, None, Some, refl, ap, sym}
use Rattle.std.proofs.Common.{eqb-true, eq-eqb, length, slice_get}
use Rattle.std.specs.List.{range_with_len}
use Rattle.std.specs.Prelude.{IfSome, filter}
use Rattle.lcm_events.specs.declared.changes.Change.{Change}
use Rattle.lcm_events.specs.declared.events.Event.{Event}
use Rattle.lcm_model.specs.Attempts.{net}
use Rattle.lcm_model.specs.Next.{is_at_net, with_net}
use Rattle.lcm_model.specs.Operations.{changes}
use Rattle.lcm_model.specs.Words.{first, last}

pub by_test : {P : Type 0} → (b : Bool) → (b ≡ true → P) → (b ≡ false → P) → P
by_test true f g = f refl
by_test false f g = g refl

pub passes-here : (p : ℕ → Bool) (i k : ℕ) → i ≡ k → p k ≡ true → p i ≡ true
passes-here p i k same e = rw same e

pub some-here : (i k : ℕ) → i ≡ k → Some i ≡ Some k
some-here i k same = ap Some same

pub is-below : (i k : ℕ) → i ≤ k → (i == k) ≡ false → i < k
is-below i k h other = grind arith

-- where none passes, none is first
none-first : (p : ℕ → Bool) (i n : ℕ) → ((j : ℕ) → i ≤ j → j < i + n → p j ≡ false) → first (filter p (range_with_len i n)) ≡ None
none-first p i zero fails = refl
none-first p i (suc n) fails =
    rw (fails i (omega arith) (omega arith)) (none-first p (i + 1) n (λ j h l. fails j (omega (arith, h)) (omega (arith, l))))

-- where the least that passes is this one, it is first
least-passes : (p : ℕ → Bool) (i n k : ℕ) → i ≤ k → k < i + n → p k ≡ true → ((j : ℕ) → i ≤ j → j < k → p j ≡ false)
    → first (filter p (range_with_len i n)) ≡ Some k
least-passes p i zero k h l e below = absurd (omega (arith, h, l))
least-passes p i (suc n) k h l e below = by_test (i == k)
    (λ here. let same : i ≡ k = eqb-true i k here in let holds : p i ≡ true = passes-here p i k same e in rw holds (some-here i k same))
    (λ other. let less : i < k = is-below i k h other in rw (below i (omega arith) less)
    (least-passes p (i + 1) n k (omega (arith, less)) (omega (arith, l)) e (λ j g m. below j (omega (arith, g)) m)))

-- a number that passes, above none that does, is the first of those that pass, and there is none where none passes
pub first-is : (p : ℕ → Bool) (n : ℕ) (r : Option ℕ) → IfSome r (λ k. k < n) → IfSome r (λ k. p k ≡ true)
    → IfSome r (λ k. (j : ℕ) → j < k → p j ≡ false)
    → (r ≡ None → (k : ℕ) → k < n → p k ≡ false) → r ≡ first (filter p (range_with_len 0 n))
first-is p n None known passes least none = sym (none-first p 0 n (λ j h l. none refl j (omega (arith, l))))
first-is p n (Some k) known passes least none = sym (least-passes p 0 n k (omega arith) (omega (arith, known)) passes (λ j h l. least j l))

-- where none passes, none is last
none-last : (p : ℕ → Bool) (i n : ℕ) → ((j : ℕ) → i ≤ j → j < i + n → p j ≡ false) → last (filter p (range_with_len i n)) ≡ None
none-last p i zero fails = refl
none-last p i (suc n) fails =
    rw (fails i (omega arith) (omega arith)) (none-last p (i + 1) n (λ j h l. fails j (omega (arith, h)) (omega (arith, l))))

-- where the greatest that passes is this one, it is last
greatest-passes : (p : ℕ → Bool) (i n k : ℕ) → i ≤ k → k < i + n → p k ≡ true → ((j : ℕ) → k < j → j < i + n → p j ≡ false)
    → last (filter p (range_with_len i n)) ≡ Some k
greatest-passes p i zero k h l e above = absurd (omega (arith, h, l))
greatest-passes p i (suc n) k h l e above = by_test (i == k)
    (λ here. let same : i ≡ k = eqb-true i k here in let holds : p i ≡ true = passes-here p i k same e in
    rw holds (rw (none-last p (i + 1) n (λ j g m. above j (omega (arith, g, same)) (omega (arith, m)))) (some-here i k same)))
    (λ other. let less : i < k = is-below i k h other in
    let rest : last (filter p (range_with_len (i + 1) n)) ≡ Some k =
    greatest-passes p (i + 1) n k (omega (arith, less)) (omega (arith, l)) e (λ j g m. above j g (omega (arith, m))) in
    by_test (p i) (λ holds. rw holds (rw rest refl)) (λ fails. rw fails rest))

-- a number that passes, below none that does, is the last of those that pass, and there is none where none passes
pub last-is : (p : ℕ → Bool) (n : ℕ) (r : Option ℕ) → IfSome r (λ k. k < n) → IfSome r (λ k. p k ≡ true)
    → IfSome r (λ k. (j : ℕ) → k < j → j < n → p j ≡ false)
    → (r ≡ None → (k : ℕ) → k < n → p k ≡ false) → r ≡ last (filter p (range_with_len 0 n))
last-is p n None known passes greatest none = sym (none-last p 0 n (λ j h l. none refl j (omega (arith, l))))
last-is p n (Some k) known passes greatest none = sym (greatest-passes p 0 n k (omega arith) (omega (arith, known)) passes
    (λ j h l. greatest j h (omega (arith, l))))

pub at-net : (H : List Event) (o n c : ℕ) → net H o c ≡ n → is_at_net H o n c ≡ true
unfolding is_at_net
at-net H o n c e = eq-eqb (net H o c) n e

pub not-at-net : (H : List Event) (o n c : ℕ) → ¬ (net H o c ≡ n) → is_at_net H o n c ≡ false
unfolding is_at_net
not-at-net H o n c apart = by_test (net H o c == n) (λ same. absurd (apart (eqb-true (net H o c) n same))) (λ other. other)

pub has-net : (ns : List ℕ) (k m n : ℕ) → slice_get ns k ≡ Some m → slice_get ns k ≡ Some n → m ≡ n
has-net ns k m n e f = cc

pub has-no-net : (ns : List ℕ) (k m n : ℕ) → slice_get ns k ≡ Some m → ¬ (slice_get ns k ≡ Some n) → ¬ (m ≡ n)
has-no-net ns k m n e apart same = apart (rw (sym same) e)

-- where these are the changes of an occurrence and their nets, the answer is that of the history
pub first-in_history : (xs : List Change) (ns : List ℕ) (r : Option ℕ)
    → IfSome r (λ k. k < length xs) → IfSome r (λ k. slice_get ns k ≡ Some 0)
    → IfSome r (λ k. (j : ℕ) → j < k → ¬ (slice_get ns j ≡ Some 0))
    → (r ≡ None → (k : ℕ) → k < length xs → ¬ (slice_get ns k ≡ Some 0))
    → (H : List Event) (o : ℕ) → xs ≡ changes H o → ((k : ℕ) → k < length xs → slice_get ns k ≡ Some (net H o k))
    → r ≡ first (with_net H o 0)
first-in_history xs ns None known found least none H o same nets =
    rw (sym same) (first-is (is_at_net H o 0) (length xs) None known tt tt
    (λ e k l. not-at-net H o 0 k (has-no-net ns k (net H o k) 0 (nets k l) (none e k l))))
first-in_history xs ns (Some k) known found least none H o same nets =
    rw (sym same) (first-is (is_at_net H o 0) (length xs) (Some k) known (at-net H o 0 k (has-net ns k (net H o k) 0 (nets k known) found))
    (λ j l. not-at-net H o 0 j (has-no-net ns j (net H o j) 0 (nets j (omega (arith, l, known))) (least j l))) (λ e k l. absurd cc))
