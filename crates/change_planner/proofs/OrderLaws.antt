-- Lists in order, and the order of a holding's items.
use Rattle.std.proofs.Common.{◌≡◌, ◌≤◌, ◌<◌, ◌&&◌, ◌||◌, ◌==◌, ◌∙◌, ℕ, List, [], ◌∷◌, Bool, true, false, refl, ap, sym, subst, arith, inl}
use Rattle.std.proofs.Common.{inr, ◌⊎◌, ltb, ltb-true, eqb-true, get_or, drop, zero, ◌-◌, length, suc, ◌+◌}
use Rattle.lcm_events.specs.Descriptors.{is_rising}
use Rattle.lcm_events.specs.Same.{kind_number, same_kind}
use Rattle.lcm_events.specs.declared.changes.Def.{Def}
use Rattle.lcm_events.specs.declared.descriptor.Vnfd.{Vnfd}
use Rattle.lcm_events.specs.declared.held.Held.{Held}
use Rattle.lcm_events.specs.declared.held.Holding.{Holding}
use Rattle.lcm_laws.proofs.Lists.{and_left, and_right, by_test}
use Rattle.lcm_laws.proofs.Members.{Rises}
use Rattle.lcm_laws.proofs.PlanOrder.{lead_less, lead_same}
use Rattle.lcm_model.specs.Descriptors.{IsHoldingOf, is_def_before}
use Rattle.lcm_model.specs.Planned.{is_before}
use Rattle.lcm_model.specs.Words.{IsIn}

heads : {A : Type 0} → (R : A → A → Type 0) → ((x y : A) → R x y → R y x → ⊥) → (x y : A) (xs ys : List A) → ((z : A) → IsIn z xs → R x z)
    → ((z : A) → IsIn z ys → R y z)
    → (y ≡ x) ⊎ IsIn x ys → (x ≡ y) ⊎ IsIn y xs → x ≡ y
heads R asym x y xs ys hx hy (inl e) h = sym e
heads R asym x y xs ys hx hy (inr k) (inl e) = e
heads R asym x y xs ys hx hy (inr k) (inr h) = absurd (asym x y (hx y h) (hy x k))

not_head : {A : Type 0} → (R : A → A → Type 0) → ((x y : A) → R x y → R y x → ⊥) → (x y z : A) (ys : List A) → x ≡ y → R x z
    → (y ≡ z) ⊎ IsIn z ys → IsIn z ys
not_head {A} R asym x y z ys e later (inl same) =
    let own : R x x = subst (λ (w : A). R x w) (sym (e ∙ same)) later in absurd (asym x x own own)
not_head R asym x y z ys e later (inr k) = k

cons_both : {A : Type 0} → (x y : A) (xs ys : List A) → x ≡ y → xs ≡ ys → x ∷ xs ≡ y ∷ ys
cons_both x y xs ys e k = cc

-- two lists in one order with the same entries are equal
pub unique : {A : Type 0} → (R : A → A → Type 0) → ((x y : A) → R x y → R y x → ⊥) → (xs ys : List A) → Rises R xs → Rises R ys
    → ((x : A) → IsIn x xs → IsIn x ys) → ((x : A) → IsIn x ys → IsIn x xs) → xs ≡ ys
unique R asym [] [] hx hy f g = refl
unique R asym [] (y ∷ ys) hx hy f g = absurd (g y (inl refl))
unique R asym (x ∷ xs) [] hx hy f g = absurd (f x (inl refl))
unique R asym (x ∷ xs) (y ∷ ys) hx hy f g =
    let e : x ≡ y = heads R asym x y xs ys hx.0 hy.0 (f x (inl refl)) (g y (inl refl)) in
    cons_both x y xs ys e (unique R asym xs ys hx.1 hy.1
    (λ z h. not_head R asym x y z ys e (hx.0 z h) (f z (inr h)))
    (λ z h. not_head R asym y x z xs (sym e) (hy.0 z h) (g z (inr h))))

-- of two lists the first stands before the second by their first entries, or by the others
pub leads : (m n : ℕ) (ms ns : List ℕ) → is_before (m ∷ ms) (n ∷ ns) ≡ true → (m < n) ⊎ ((m ≡ n) × (is_before ms ns ≡ true))
leads m n ms ns e = by_test (ltb m n)
    (λ less. inl (ltb-true m n less))
    (λ not_less.
    let rest : ((m == n) && is_before ms ns) ≡ true = subst (λ (b : Bool). (b || ((m == n) && is_before ms ns)) ≡ true) not_less e in
    inr (eqb-true m n (and_left _ _ rest), and_right (m == n) _ rest))

by_leads : (m n k : ℕ) (ms ns ks : List ℕ) → (is_before ms ns ≡ true → is_before ns ks ≡ true → is_before ms ks ≡ true)
    → (m < n) ⊎ ((m ≡ n) × (is_before ms ns ≡ true)) → (n < k) ⊎ ((n ≡ k) × (is_before ns ks ≡ true)) → is_before (m ∷ ms) (k ∷ ks) ≡ true
by_leads m n k ms ns ks on (inl a) (inl b) = lead_less m k ms ks (omega (arith, a, b))
by_leads m n k ms ns ks on (inl a) (inr b) = let same = b.0 in lead_less m k ms ks (omega (arith, a, same))
by_leads m n k ms ns ks on (inr a) (inl b) = let same = a.0 in lead_less m k ms ks (omega (arith, b, same))
by_leads m n k ms ns ks on (inr a) (inr b) = lead_same m k ms ks (a.0 ∙ b.0) (on a.1 b.1)

pub before_on : (a b c : List ℕ) → is_before a b ≡ true → is_before b c ≡ true → is_before a c ≡ true
before_on [] b c e f = cc
before_on (m ∷ ms) [] c e f = cc
before_on (m ∷ ms) (n ∷ ns) [] e f = cc
before_on (m ∷ ms) (n ∷ ns) (k ∷ ks) e f = by_leads m n k ms ns ks (before_on ms ns ks) (leads m n ms ns e) (leads n k ns ks f)

once_by : (m n : ℕ) (ms ns : List ℕ) → (is_before ms ns ≡ true → is_before ns ms ≡ true → ⊥)
    → (m < n) ⊎ ((m ≡ n) × (is_before ms ns ≡ true)) → (n < m) ⊎ ((n ≡ m) × (is_before ns ms ≡ true)) → ⊥
once_by m n ms ns on (inl a) (inl b) = absurd (omega (arith, a, b))
once_by m n ms ns on (inl a) (inr b) = let same = b.0 in absurd (omega (arith, a, same))
once_by m n ms ns on (inr a) (inl b) = let same = a.0 in absurd (omega (arith, b, same))
once_by m n ms ns on (inr a) (inr b) = on a.1 b.1

pub before_once : (a b : List ℕ) → is_before a b ≡ true → is_before b a ≡ true → ⊥
before_once [] b e f = cc
before_once (m ∷ ms) [] e f = cc
before_once (m ∷ ms) (n ∷ ns) e f = once_by m n ms ns (before_once ms ns) (leads m n ms ns e) (leads n m ns ms f)

-- what a holding's items are sorted by
abbrev pub def_key : Def → List ℕ
def_key x = x.vdu ∷ x.serial ∷ kind_number x.kind ∷ x.item ∷ []

-- the first item stands before the second
abbrev pub Sooner : Held → Held → Type 0
Sooner x y = is_before (def_key x.def) (def_key y.def) ≡ true

or_none : (a b : Bool) → (a || (b && false)) ≡ a
or_none true b = refl
or_none false true = refl
or_none false false = refl

by_key : (x y : Def) → is_before (def_key x) (def_key y) ≡ is_def_before x y
by_key x y =
    ap (λ b. ltb x.vdu y.vdu || ((x.vdu == y.vdu) && (ltb x.serial y.serial || ((x.serial == y.serial)
    && (ltb (kind_number x.kind) (kind_number y.kind) || (same_kind x.kind y.kind && b))))))
    (or_none (ltb x.item y.item) (x.item == y.item))

pub rising_on : (xs : List Held) → is_rising (λ x y. is_def_before x.def y.def) xs ≡ true → Rises Sooner xs
rising_on [] e = tt
rising_on (x ∷ []) e = (λ y h. absurd h, tt)
rising_on (x ∷ y ∷ xs) e = all (by_key x.def y.def ∙ and_left (is_def_before x.def y.def) _ e)
    (rising_on (y ∷ xs) (and_right (is_def_before x.def y.def) _ e)) where
      step : Sooner x y → Rises Sooner (y ∷ xs) → (z : Held) → IsIn z (y ∷ xs) → Sooner x z
      step first rest z (inl is) = subst (λ (w : Held). Sooner x w) is first
      step first rest z (inr h) = before_on (def_key x.def) (def_key y.def) (def_key z.def) first (rest.0 z h)

      all : Sooner x y → Rises Sooner (y ∷ xs) → Rises Sooner (x ∷ y ∷ xs)
      all first rest = (λ z h. step first rest z h, rest)

-- the items of a holding are in order
pub items_in_order : (d : Vnfd) (h : Holding) → IsHoldingOf d h → Rises Sooner h.items
items_in_order d h is = rising_on h.items is.rising

-- of two items of a VDU the later has no smaller serial
pub serials_in_order : (v : ℕ) (x y : Held) → Sooner x y → x.def.vdu ≡ v → y.def.vdu ≡ v → x.def.serial ≤ y.def.serial
serials_in_order v x y e hx hy =
    elim (leads x.def.vdu y.def.vdu (x.def.serial ∷ kind_number x.def.kind ∷ x.def.item ∷ [])
    (y.def.serial ∷ kind_number y.def.kind ∷ y.def.item ∷ []) e) [
      | inl less ↦ absurd (omega (arith, less, hx, hy))
      | inr same ↦ (elim (leads x.def.serial y.def.serial (kind_number x.def.kind ∷ x.def.item ∷ [])
          (kind_number y.def.kind ∷ y.def.item ∷ []) same.1) [
            | inl less ↦ omega (arith, less)
            | inr equal ↦ (let e = equal.0 in omega (arith, e))
          ])
    ]

-- two items of a holding differ
pub sooner_differs : (x y : Held) → Sooner x y → x.def ≡ y.def → ⊥
sooner_differs x y e same =
    let again : Sooner x x = subst (λ (z : Def). is_before (def_key x.def) (def_key z) ≡ true) (sym same) e in
    before_once (def_key x.def) (def_key x.def) again again

-- where two items stand in order, the rest rises as the whole does
pub rising_past : {A : Type 0} → (p : A → A → Bool) (xs : List A) (i : ℕ) (c d : A) (b : Bool) → 1 ≤ i → i < length xs
    → p (get_or xs (i - 1) c) (get_or xs i d) ≡ true
    → is_rising p (drop (i - 1) xs) ≡ b → is_rising p (drop (i + 1 - 1) xs) ≡ b
rising_past p [] i c d b from within e h = absurd (omega (arith, within))
rising_past p (x ∷ []) i c d b from within e h = absurd (omega (arith, from, within))
rising_past p (x ∷ y ∷ xs) zero c d b from within e h = absurd (omega (arith, from))
rising_past p (x ∷ y ∷ xs) (suc zero) c d b from within e h = rw e at h
rising_past p (x ∷ y ∷ xs) (suc (suc i)) c d b from within e h =
    let a : suc (suc i) - 1 ≡ suc i = omega arith in
    let k : suc (suc i) + 1 - 1 ≡ suc (suc i) = omega arith in
    let j : suc i - 1 ≡ i = omega arith in
    let m : suc i + 1 - 1 ≡ suc i = omega arith in
    let e' : p (get_or (y ∷ xs) i c) (get_or (y ∷ xs) (suc i) d) ≡ true = rw a at e in
    let h' : is_rising p (drop i (y ∷ xs)) ≡ b = rw a at h in
    rw k (rw m at (rising_past p (y ∷ xs) (suc i) c d b (omega arith) (omega (arith, within)) (rw j e') (rw j h')))
