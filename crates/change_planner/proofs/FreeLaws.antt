-- The change that is attempted next is of the phase whose turn it is: of its changes that wait and aren't busy the first
-- is made, the last undone.
use Rattle.std.proofs.Common.{◌≡◌, ◌≤◌, ◌<◌, ◌+◌, ◌&&◌, ◌==◌, ◌∙◌, ◌⊎◌, ℕ, List, [], ◌∷◌, Bool, true, false, not, Option, None, Some}
use Rattle.std.proofs.Common.{refl, ap, sym, subst, length, map, arith, zero, suc, inl, inr, filter, ltb, ltb-true, ltb-false, lt-ltb}
use Rattle.std.proofs.Common.{eqb-true, eq-eqb, false-eqb, slice_get, get_or}
use Rattle.std.proofs.lemmas.Option.{get_or_from_slice_get, slice_get-get_or, slice_get_cases}
use Rattle.std.specs.List.{enumerate_from, list_all, range_with_len}
use Rattle.std.specs.List.Sorted.{IsNonDecreasingBy}
use Rattle.std.specs.Option.{option_map_or}
use Rattle.std.specs.Prelude.{IfSome, unwrap_or}
use Rattle.lcm_events.specs.declared.attempts.Way.{Way}
use Rattle.lcm_events.specs.declared.attempts.Way.TheVariants.{Forward, Undo}
use Rattle.lcm_events.specs.declared.changes.Change.{Change}
use Rattle.lcm_events.specs.declared.events.Event.{Event}
use Rattle.lcm_laws.proofs.Lists.{and_left, and_right, and_true}
use Rattle.lcm_laws.proofs.Members.{get_within, of_filter, of_map}
use Rattle.lcm_model.specs.Attempts.{net, open_attempts}
use Rattle.lcm_model.specs.Next.{chosen, free, is_free, is_none_open}
use Rattle.lcm_model.specs.Words.{IsIn, last}
use Rattle.lcm_model.specs.Work.{all_through, goes_before, is_through, net_after, net_before}
use Rattle.change_planner.specs.Free.{AreOfOccurrence, IsPlanWith, all_through_by, free_by, is_free_by, is_through_by, waits}
use Rattle.change_planner.proofs.NetLaws.{by_test, first-is, last-is}

-- a test of entries with their numbers, all of which pass
of_all : {A : Type 0} → (p : ℕ × A → Bool) (k : ℕ) (xs : List A) → list_all p (enumerate_from k xs) ≡ true
    → (j : ℕ) (y : A) → slice_get xs j ≡ Some y → p (k + j, y) ≡ true
of_all p k [] all j y e = cc
of_all {A} p k (x ∷ xs) all zero y e =
    let is : x ≡ y = cc in
    let here : k ≡ k + 0 = omega arith in
    subst (λ (n : ℕ). p (n, y) ≡ true) here
    (subst (λ (z : A). p (k, z) ≡ true) is (and_left (p (k, x)) (list_all p (enumerate_from (k + 1) xs)) all))
of_all p k (x ∷ xs) all (suc j) y e =
    let same : (k + 1) + j ≡ k + suc j = omega arith in
    subst (λ (n : ℕ). p (n, y) ≡ true) same
    (of_all p (k + 1) xs (and_right (p (k, x)) (list_all p (enumerate_from (k + 1) xs)) all) j y e)

all_of : {A : Type 0} → (p : ℕ × A → Bool) (k : ℕ) (xs : List A) → ((j : ℕ) (y : A) → slice_get xs j ≡ Some y → p (k + j, y) ≡ true)
    → list_all p (enumerate_from k xs) ≡ true
all_of p k [] f = refl
all_of {A} p k (x ∷ xs) f =
    let here : p (k, x) ≡ true = (let same : k + 0 ≡ k = omega arith in subst (λ (n : ℕ). p (n, x) ≡ true) same (f 0 x refl)) in
    and_true (p (k, x)) (list_all p (enumerate_from (k + 1) xs)) here
    (all_of p (k + 1) xs (λ j y e.
    let same : k + suc j ≡ (k + 1) + j = omega arith in subst (λ (n : ℕ). p (n, y) ≡ true) same (f (suc j) y e)))

-- two tests of entries with their numbers that answer alike
all_same : {A : Type 0} → (p q : ℕ × A → Bool) (k : ℕ) (xs : List A)
    → ((j : ℕ) (y : A) → slice_get xs j ≡ Some y → p (k + j, y) ≡ q (k + j, y))
    → list_all p (enumerate_from k xs) ≡ list_all q (enumerate_from k xs)
all_same p q k [] f = refl
all_same p q k (x ∷ xs) f =
    let here : p (k, x) ≡ q (k, x) = (let same : k + 0 ≡ k = omega arith in subst (λ (n : ℕ). p (n, x) ≡ q (n, x)) same (f 0 x refl)) in
    let rest : list_all p (enumerate_from (k + 1) xs) ≡ list_all q (enumerate_from (k + 1) xs) =
    all_same p q (k + 1) xs (λ j y e.
    let same : k + suc j ≡ (k + 1) + j = omega arith in subst (λ (n : ℕ). p (n, y) ≡ q (n, y)) same (f (suc j) y e)) in
    ap (λ (b : Bool). b && list_all p (enumerate_from (k + 1) xs)) here ∙ ap (λ (b : Bool). q (k, x) && b) rest

-- the numbers of the entries that pass, where a number passes with its entry as it does alone
numbers_passing : {A : Type 0} → (p : ℕ × A → Bool) (q : ℕ → Bool) (k : ℕ) (xs : List A)
    → ((j : ℕ) (y : A) → slice_get xs j ≡ Some y → p (k + j, y) ≡ q (k + j))
    → map (λ x. x.0) (filter p (enumerate_from k xs)) ≡ filter q (range_with_len k (length xs))
numbers_passing p q k [] f = refl
numbers_passing p q k (x ∷ xs) f =
    let here : p (k, x) ≡ q k = (let same : k + 0 ≡ k = omega arith in subst (λ (n : ℕ). p (n, x) ≡ q n) same (f 0 x refl)) in
    let rest : map (λ z. z.0) (filter p (enumerate_from (k + 1) xs)) ≡ filter q (range_with_len (k + 1) (length xs)) =
    numbers_passing p q (k + 1) xs (λ j y e.
    let same : k + suc j ≡ (k + 1) + j = omega arith in subst (λ (n : ℕ). p (n, y) ≡ q n) same (f (suc j) y e)) in
    by_test (q k)
    (λ holds. let too : p (k, x) ≡ true = here ∙ holds in rw (too, holds) (ap (λ (ns : List ℕ). k ∷ ns) rest))
    (λ fails. let too : p (k, x) ≡ false = here ∙ fails in rw (too, fails) rest)

-- two tests of entries with their numbers that answer alike let the same numbers pass
same_passing : {A : Type 0} → (p q : ℕ × A → Bool) (k : ℕ) (xs : List A)
    → ((j : ℕ) (y : A) → slice_get xs j ≡ Some y → p (k + j, y) ≡ q (k + j, y))
    → map (λ x. x.0) (filter p (enumerate_from k xs)) ≡ map (λ x. x.0) (filter q (enumerate_from k xs))
same_passing p q k [] f = refl
same_passing p q k (x ∷ xs) f =
    let start : k + 0 ≡ k = omega arith in
    let here : p (k, x) ≡ q (k, x) = subst (λ (n : ℕ). p (n, x) ≡ q (n, x)) start (f 0 x refl) in
    let rest : map (λ z. z.0) (filter p (enumerate_from (k + 1) xs)) ≡ map (λ z. z.0) (filter q (enumerate_from (k + 1) xs)) =
    same_passing p q (k + 1) xs (λ j y e.
    let same : k + suc j ≡ (k + 1) + j = omega arith in subst (λ (n : ℕ). p (n, y) ≡ q (n, y)) same (f (suc j) y e)) in
    by_test (q (k, x))
    (λ holds. let too : p (k, x) ≡ true = here ∙ holds in rw (too, holds) (ap (λ (ns : List ℕ). k ∷ ns) rest))
    (λ fails. let too : p (k, x) ≡ false = here ∙ fails in rw (too, fails) rest)

-- a number stands ahead of another in this way
abbrev pub Ahead : Way → ℕ → ℕ → Type 0
Ahead Forward c j = j < c
Ahead Undo c j = c < j

-- a number isn't ahead of another in this way
abbrev pub From : Way → ℕ → ℕ → Type 0
From Forward l c = l ≤ c
From Undo l c = c ≤ l

-- a number that passes, ahead of which none does, is the one that is chosen, and there is none where none passes
chosen_is : (way : Way) (q : ℕ → Bool) (n : ℕ) (r : Option ℕ) → IfSome r (λ c. c < n) → IfSome r (λ c. q c ≡ true)
    → IfSome r (λ c. (j : ℕ) → Ahead way c j → j < n → q j ≡ false) → (r ≡ None → (c : ℕ) → c < n → q c ≡ false)
    → r ≡ chosen way (filter q (range_with_len 0 n))
chosen_is Forward q n None known passes least none = first-is q n None tt tt tt none
chosen_is Forward q n (Some c) known passes least none =
    first-is q n (Some c) known passes (λ j less. least j less (omega (arith, less, known))) none
chosen_is Undo q n r known passes greatest none = last-is q n r known passes greatest none

-- of two changes of other phases one goes before the other
apart : (way : Way) (x y : Change) → (x.phase == y.phase) ≡ false
    → (goes_before way y.phase x ≡ true) ⊎ (goes_before way x.phase y ≡ true)
apart Forward x y differ = by_test (ltb x.phase y.phase) (λ less. inl less)
    (λ other. let most = ltb-false x.phase y.phase other in let ne = false-eqb x.phase y.phase (sym differ) in
    inr (lt-ltb y.phase x.phase (omega (arith, most, ne))))
apart Undo x y differ = by_test (ltb y.phase x.phase) (λ less. inl less)
    (λ other. let most = ltb-false y.phase x.phase other in let ne = false-eqb x.phase y.phase (sym differ) in
    inr (lt-ltb x.phase y.phase (omega (arith, most, ne))))

not_both_nets : (way : Way) (n : ℕ) → n ≡ net_before way → n ≡ net_after way → ⊥
not_both_nets Forward n before after = absurd (omega (arith, before, after))
not_both_nets Undo n before after = absurd (omega (arith, before, after))

-- where a change goes before those of a phase and is through, it has the net of one that is
is_after : (way : Way) (ns : List ℕ) (phase c : ℕ) (x : Change) → is_through_by way ns phase (c, x) ≡ true → goes_before way phase x ≡ true
    → get_or ns c 0 ≡ net_after way
unfolding is_through_by
is_after way ns phase c x through goes = eqb-true (get_or ns c 0) (net_after way) (sym (rw goes refl) ∙ through)

risen : (xs : List Change) (i j : ℕ) (y z : Change) → IsNonDecreasingBy (λ w. w.phase) xs → i ≤ j → slice_get xs i ≡ Some y
    → slice_get xs j ≡ Some z → y.phase ≤ z.phase
risen xs i j y z rise le ey ez =
    let more = rise i j y le (get_within z xs j ez) in
    let one = ap (λ (w : Change). w.phase) (get_or_from_slice_get xs i y y ey) in
    let other = ap (λ (w : Change). w.phase) (get_or_from_slice_get xs j z y ez) in
    omega (arith, more, one, other)

-- a change between two of one phase is of that phase
between : (way : Way) (xs : List Change) (i j k : ℕ) (x y z : Change) → IsNonDecreasingBy (λ w. w.phase) xs → slice_get xs i ≡ Some x
    → slice_get xs j ≡ Some y → slice_get xs k ≡ Some z → From way i j → From way j k → z.phase ≡ x.phase → y.phase ≡ x.phase
between Forward xs i j k x y z rise ex ey ez from on same =
    let low = risen xs i j x y rise from ex ey in
    let high = risen xs j k y z rise on ey ez in
    omega (arith, low, high, same)
between Undo xs i j k x y z rise ex ey ez from on same =
    let low = risen xs j i y x rise from ey ex in
    let high = risen xs k j z y rise on ez ey in
    omega (arith, low, high, same)

-- the changes are through that go before a change ahead of which each is
clear_before : (way : Way) (xs : List Change) (ns : List ℕ) (c : ℕ) (x : Change) → IsNonDecreasingBy (λ y. y.phase) xs
    → slice_get xs c ≡ Some x → ((j : ℕ) → Ahead way c j → j < length xs → get_or ns j 0 ≡ net_after way)
    → all_through_by way xs ns x.phase ≡ true
unfolding is_through_by
clear_before way xs ns c x rise at ahead =
    all_of (is_through_by way ns x.phase) 0 xs (λ j y e. by_test (goes_before way x.phase y)
    (λ goes.
    let shift : 0 + j ≡ j = omega arith in
    let after : (get_or ns j 0 == net_after way) ≡ true = eq-eqb (get_or ns j 0) (net_after way)
    (ahead j (stands way j y e goes) (get_within y xs j e)) in
    rw (shift, goes, after) refl)
    (λ stays. rw stays refl)) where
      stands : (way : Way) (j : ℕ) (y : Change) → slice_get xs j ≡ Some y → goes_before way x.phase y ≡ true → Ahead way c j
      stands Forward j y e goes = by_test (ltb j c) (λ less. ltb-true j c less)
          (λ other. let le = ltb-false j c other in let less = ltb-true y.phase x.phase goes in
          let most = risen xs c j x y rise le at e in absurd (omega (arith, less, most)))
      stands Undo j y e goes = by_test (ltb c j) (λ less. ltb-true c j less)
          (λ other. let le = ltb-false c j other in let less = ltb-true x.phase y.phase goes in
          let most = risen xs j c y x rise le e at in absurd (omega (arith, less, most)))

-- the change of this number is of this phase, waits and isn't busy
abbrev is_ready : Way → List Change → List ℕ → List Bool → ℕ → ℕ → Bool
is_ready way xs ns bs phase c = option_map_or (λ (x : Change). x.phase == phase) (slice_get xs c) false && waits way ns bs c

and_end : (b : Bool) → (b && true) ≡ b
and_end true = refl
and_end false = refl

waits_before : (way : Way) (ns : List ℕ) (bs : List Bool) (c : ℕ) → waits way ns bs c ≡ true → get_or ns c 0 ≡ net_before way
unfolding waits
waits_before way ns bs c is = eqb-true (get_or ns c 0) (net_before way) (and_left (get_or ns c 0 == net_before way) _ is)

-- it is the turn of a phase, by a change that isn't through where all that go before it are: a change is free where it is of this phase,
-- waits and isn't busy
free_ready : (way : Way) (xs : List Change) (ns : List ℕ) (bs : List Bool) (l : ℕ) (y : Change) → slice_get xs l ≡ Some y
    → ¬ (get_or ns l 0 ≡ net_after way) → all_through_by way xs ns y.phase ≡ true → (c : ℕ) (x : Change) → slice_get xs c ≡ Some x
    → is_free_by way xs ns bs (c, x) ≡ is_ready way xs ns bs y.phase c
unfolding is_free_by
free_ready way xs ns bs l y lead waiting clear c x at = by_test (x.phase == y.phase)
    (λ same.
    let is : x.phase ≡ y.phase = eqb-true x.phase y.phase same in
    let through : all_through_by way xs ns x.phase ≡ true = subst (λ (p : ℕ). all_through_by way xs ns p ≡ true) (sym is) clear in
    rw (through, at, same) (and_end (waits way ns bs c)))
    (λ differ. rw (at, differ) (by_test (waits way ns bs c && all_through_by way xs ns x.phase)
    (λ is. absurd (never (and_left (waits way ns bs c) (all_through_by way xs ns x.phase) is)
    (and_right (waits way ns bs c) (all_through_by way xs ns x.phase) is) (apart way x y differ)))
    (λ is. is))) where
      zeroth : (n : ℕ) → 0 + n ≡ n
      zeroth n = omega arith

      never : waits way ns bs c ≡ true → all_through_by way xs ns x.phase ≡ true
          → (goes_before way y.phase x ≡ true) ⊎ (goes_before way x.phase y ≡ true) → ⊥
      never is through (inl goes) = not_both_nets way (get_or ns c 0) (waits_before way ns bs c is)
          (is_after way ns y.phase c x
          (subst (λ (n : ℕ). is_through_by way ns y.phase (n, x) ≡ true) (zeroth c)
          (of_all (is_through_by way ns y.phase) 0 xs clear c x at))
          goes)
      never is through (inr goes) = waiting
          (is_after way ns x.phase l y
          (subst (λ (n : ℕ). is_through_by way ns x.phase (n, y) ≡ true) (zeroth l)
          (of_all (is_through_by way ns x.phase) 0 xs through l y lead))
          goes)

-- a change that isn't through, where all ahead of it are: it gives the phase whose turn it is
pub record Leads (way : Way) (xs : List Change) (ns : List ℕ) (l : ℕ) : Type 0 where
  pub known : l < length xs
  pub waiting : ¬ (get_or ns l 0 ≡ net_after way)
  pub ahead : (j : ℕ) → Ahead way l j → j < length xs → get_or ns j 0 ≡ net_after way

-- where a change of this number waits, it is busy
abbrev pub IsPassed : Way → List ℕ → List Bool → ℕ → Type 0
IsPassed way ns bs c = get_or ns c 0 ≡ net_before way → get_or bs c false ≡ true

ahead_or_from : (way : Way) (l c : ℕ) → Ahead way l c ⊎ From way l c
ahead_or_from Forward l c = by_test (ltb c l) (λ less. inl (ltb-true c l less)) (λ other. inr (ltb-false c l other))
ahead_or_from Undo l c = by_test (ltb l c) (λ less. inl (ltb-true l c less)) (λ other. inr (ltb-false l c other))

not_ready : (way : Way) (xs : List Change) (ns : List ℕ) (bs : List Bool) (phase c : ℕ) → waits way ns bs c ≡ false
    → is_ready way xs ns bs phase c ≡ false
not_ready way xs ns bs phase c idle = by_test (option_map_or (λ (x : Change). x.phase == phase) (slice_get xs c) false)
    (λ same. rw (same, idle) refl) (λ other. rw other refl)

passed_waits : (way : Way) (ns : List ℕ) (bs : List Bool) (c : ℕ) → IsPassed way ns bs c → waits way ns bs c ≡ false
unfolding waits
passed_waits way ns bs c passed = by_test (get_or ns c 0 == net_before way)
    (λ same. let busy : get_or bs c false ≡ true = passed (eqb-true (get_or ns c 0) (net_before way) same) in rw (same, busy) refl)
    (λ other. rw other refl)

module _ (way : Way) (xs : List Change) (ns : List ℕ) (bs : List Bool) (l : ℕ) (d : Change) (plan : IsPlanWith xs ns bs)
    (lead : Leads way xs ns l) where
  lead_at : slice_get xs l ≡ Some (get_or xs l d)
  lead_at = slice_get-get_or xs l d lead.known

  -- what a walk has found is of the phase whose turn it is: the first that waits and isn't busy, or nothing where none does
  chosen_ready : (r : Option ℕ) → IfSome r (λ c. c < length xs) → IfSome r (λ c. is_ready way xs ns bs (get_or xs l d).phase c ≡ true)
      → IfSome r (λ c. (j : ℕ) → Ahead way c j → j < length xs → is_ready way xs ns bs (get_or xs l d).phase j ≡ false)
      → (r ≡ None → (c : ℕ) → c < length xs → is_ready way xs ns bs (get_or xs l d).phase c ≡ false)
      → r ≡ chosen way (free_by way xs ns bs)
  chosen_ready r known ready least none =
      let clear = clear_before way xs ns l (get_or xs l d) plan.phases lead_at lead.ahead in
      chosen_is way (is_ready way xs ns bs (get_or xs l d).phase) (length xs) r known ready least none
      ∙ ap (chosen way) (sym (numbers_passing (is_free_by way xs ns bs) (is_ready way xs ns bs (get_or xs l d).phase) 0 xs
      (λ j x at.
      let shift : j ≡ 0 + j = omega arith in
      subst (λ (n : ℕ). is_free_by way xs ns bs (n, x) ≡ is_ready way xs ns bs (get_or xs l d).phase n) shift
      (free_ready way xs ns bs l (get_or xs l d) lead_at lead.waiting clear j x at))))

  passed_ready : (j : ℕ) → j < length xs → (From way l j → IsPassed way ns bs j) → is_ready way xs ns bs (get_or xs l d).phase j ≡ false
  passed_ready j less passed = not_ready way xs ns bs (get_or xs l d).phase j (passed_waits way ns bs j (by (ahead_or_from way l j))) where
    by : Ahead way l j ⊎ From way l j → IsPassed way ns bs j
    by (inl ahead) = λ before. absurd (not_both_nets way (get_or ns j 0) before (lead.ahead j ahead less))
    by (inr from) = passed from

  -- it ends at the first change that waits and isn't busy
  pub walk_found : (c : ℕ) → c < length xs → (get_or xs c d).phase ≡ (get_or xs l d).phase → get_or ns c 0 ≡ net_before way
      → get_or bs c false ≡ false → ((j : ℕ) → From way l j → Ahead way c j → IsPassed way ns bs j)
      → Some c ≡ chosen way (free_by way xs ns bs)
  unfolding waits
  walk_found c within same before idle passed =
      let at : slice_get xs c ≡ Some (get_or xs c d) = slice_get-get_or xs c d within in
      let here : ((get_or xs c d).phase == (get_or xs l d).phase) ≡ true = eq-eqb (get_or xs c d).phase (get_or xs l d).phase same in
      let net_is : (get_or ns c 0 == net_before way) ≡ true = eq-eqb (get_or ns c 0) (net_before way) before in
      chosen_ready (Some c) within (rw (at, here, net_is, idle) refl)
      (λ j ahead less. passed_ready j less (λ from. passed j from ahead)) (λ e j less. cc)

  ended : ((j : ℕ) → From way l j → j < length xs → IsPassed way ns bs j) → None ≡ chosen way (free_by way xs ns bs)
  ended passed = chosen_ready None tt tt tt (λ e j less. passed_ready j less (λ from. passed j from less))

  -- or at the end of the phase
  pub walk_left : (c : ℕ) → c < length xs → From way l c → ¬ ((get_or xs c d).phase ≡ (get_or xs l d).phase)
      → ((j : ℕ) → From way l j → Ahead way c j → IsPassed way ns bs j) → None ≡ chosen way (free_by way xs ns bs)
  walk_left c within beyond differ passed =
      chosen_ready None tt tt tt (λ e j less. by j less (ahead_or_from way c j)) where
        at : slice_get xs c ≡ Some (get_or xs c d)
        at = slice_get-get_or xs c d within

        by : (j : ℕ) → j < length xs → Ahead way c j ⊎ From way c j → is_ready way xs ns bs (get_or xs l d).phase j ≡ false
        by j less (inl ahead) = passed_ready j less (λ from. passed j from ahead)
        by j less (inr from) = elsewhere (slice_get xs j) refl where
          elsewhere : (z : Option Change) → slice_get xs j ≡ z → is_ready way xs ns bs (get_or xs l d).phase j ≡ false
          elsewhere None is = rw is refl
          elsewhere (Some z) is =
              let other : (z.phase == (get_or xs l d).phase) ≡ false = by_test (z.phase == (get_or xs l d).phase)
              (λ same. absurd (differ (between way xs l c j (get_or xs l d) (get_or xs c d) z plan.phases lead_at at is beyond from
              (eqb-true z.phase (get_or xs l d).phase same))))
              (λ other. other) in
              rw (is, other) refl

-- or where all are passed
pub walk_ended : (way : Way) (xs : List Change) (ns : List ℕ) (bs : List Bool) (l : ℕ) → IsPlanWith xs ns bs → Leads way xs ns l
    → ((j : ℕ) → From way l j → j < length xs → IsPassed way ns bs j) → None ≡ chosen way (free_by way xs ns bs)
walk_ended way xs ns bs l plan lead passed = by (slice_get_cases xs l).1 where
  by : ((x : Change) × (l < length xs) × (slice_get xs l ≡ Some x) × (get_or xs l x ≡ x)) ⊎ ((length xs ≤ l) × (slice_get xs l ≡ None))
      → None ≡ chosen way (free_by way xs ns bs)
  by (inl at) = ended way xs ns bs l at.0 plan lead passed
  by (inr at) = let most = at.0 in absurd (omega (arith, most, lead.known))

-- nothing is free where each change is through
pub none_left : (way : Way) (xs : List Change) (ns : List ℕ) (bs : List Bool)
    → ((j : ℕ) → j < length xs → get_or ns j 0 ≡ net_after way) → None ≡ chosen way (free_by way xs ns bs)
unfolding is_free_by waits
none_left way xs ns bs done =
    chosen_is way (λ c. false) (length xs) None tt tt tt (λ e c less. refl)
    ∙ ap (chosen way) (sym (numbers_passing (is_free_by way xs ns bs) (λ c. false) 0 xs (λ j x at.
    let shift : 0 + j ≡ j = omega arith in
    let after = done j (get_within x xs j at) in
    by_test (get_or ns j 0 == net_before way)
    (λ same. absurd (not_both_nets way (get_or ns j 0) (eqb-true (get_or ns j 0) (net_before way) same) after))
    (λ other. rw (shift, other) refl))))

-- of an occurrence the changes are through that are by their nets
through_of : (way : Way) (H : List Event) (o : ℕ) (xs : List Change) (ns : List ℕ) (bs : List Bool) → AreOfOccurrence H o xs ns bs
    → (phase : ℕ) → all_through_by way xs ns phase ≡ all_through H o way phase
unfolding is_through_by is_through
through_of way H o xs ns bs of phase =
    all_same (is_through_by way ns phase) (is_through H o way phase) 0 xs (λ j y e.
    let shift : 0 + j ≡ j = omega arith in
    let same : get_or ns j 0 ≡ net H o j = get_or_from_slice_get ns j (net H o j) 0 (of.nets j (get_within y xs j e)) in
    rw (shift, same) refl)
    ∙ ap (λ (ys : List Change). list_all (is_through H o way phase) (enumerate_from 0 ys)) of.changes

-- and those may be attempted that may be by their nets and by which are busy
free_of : (way : Way) (H : List Event) (o : ℕ) (xs : List Change) (ns : List ℕ) (bs : List Bool) → AreOfOccurrence H o xs ns bs
    → (c : ℕ) (x : Change) → slice_get xs c ≡ Some x → is_free_by way xs ns bs (c, x) ≡ is_free H o way (c, x)
unfolding is_free_by is_free waits
free_of way H o xs ns bs of c x at =
    let net_is : get_or ns c 0 ≡ net H o c = get_or_from_slice_get ns c (net H o c) 0 (of.nets c (get_within x xs c at)) in
    let flag_is : get_or bs c false ≡ not (is_none_open (open_attempts H o c)) =
    get_or_from_slice_get bs c (not (is_none_open (open_attempts H o c))) false (of.flags c (get_within x xs c at)) in
    rw (net_is, flag_is, through_of way H o xs ns bs of x.phase) (regroup (net H o c == net_before way) (is_none_open (open_attempts H o c))
    (all_through H o way x.phase)) where
      regroup : (a b d : Bool) → ((a && not (not b)) && d) ≡ (a && (b && d))
      regroup true true d = refl
      regroup true false d = refl
      regroup false b d = refl

-- so that what is attempted next by them is what the history says
pub chosen_in_history : (way : Way) (H : List Event) (o : ℕ) (xs : List Change) (ns : List ℕ) (bs : List Bool) (r : Option ℕ)
    → AreOfOccurrence H o xs ns bs → r ≡ chosen way (free_by way xs ns bs) → r ≡ chosen way (free H o way)
chosen_in_history way H o xs ns bs r of is =
    is
    ∙ (ap (chosen way) (same_passing (is_free_by way xs ns bs) (is_free H o way) 0 xs (λ j x at.
    let shift : j ≡ 0 + j = omega arith in
    subst (λ (n : ℕ). is_free_by way xs ns bs (n, x) ≡ is_free H o way (n, x)) shift (free_of way H o xs ns bs of j x at)))
    ∙ ap (λ (ys : List Change). chosen way (map (λ x. x.0) (filter (is_free H o way) (enumerate_from 0 ys)))) of.changes)

last_in : (c : ℕ) (ns : List ℕ) → last ns ≡ Some c → IsIn c ns
last_in c [] e = cc
last_in c (n ∷ ns) e = onward (last ns) refl (λ h. last_in c ns h) e where
  onward : (o : Option ℕ) → last ns ≡ o → (last ns ≡ Some c → IsIn c ns) → Some (unwrap_or o n) ≡ Some c → IsIn c (n ∷ ns)
  onward None is rest e = inl cc
  onward (Some m) is rest e = let same : m ≡ c = cc in inr (rest (is ∙ ap Some same))

chosen_in : (way : Way) (ns : List ℕ) (c : ℕ) → chosen way ns ≡ Some c → IsIn c ns
chosen_in Forward [] c e = cc
chosen_in Forward (n ∷ ns) c e = inl cc
chosen_in Undo ns c e = last_in c ns e

placed_below : {A : Type 0} → (k : ℕ) (xs : List A) (z : ℕ × A) → IsIn z (enumerate_from k xs) → z.0 < k + length xs
placed_below k [] z h = absurd h
placed_below k (x ∷ xs) z (inl is) = let first : k ≡ z.0 = ap (λ y. y.0) is in omega (arith, first)
placed_below k (x ∷ xs) z (inr h) = let less = placed_below (k + 1) xs z h in omega (arith, less)

-- what may be attempted next is one of the changes
pub chosen_known : (way : Way) (xs : List Change) (ns : List ℕ) (bs : List Bool) (c : ℕ) → chosen way (free_by way xs ns bs) ≡ Some c
    → c < length xs
chosen_known way xs ns bs c e =
    let from = of_map (λ (z : ℕ × Change). z.0) c (filter (is_free_by way xs ns bs) (enumerate_from 0 xs))
    (chosen_in way (free_by way xs ns bs) c e) in
    let entry = of_filter (is_free_by way xs ns bs) from.0 (enumerate_from 0 xs) from.1 in
    let less = placed_below 0 xs from.0 entry.0 in
    let is = from.2 in
    omega (arith, less, is)
