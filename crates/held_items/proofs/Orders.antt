-- The order of definitions, and that a descriptor's definitions stand in it.
use Rattle.std.proofs.Common.{◌≡◌, ◌<◌, ◌++◌, ◌&&◌, ◌||◌, ◌==◌, ◌∙◌, ◌⊎◌, ℕ, List, Bool, true, false, inl, inr, refl, ap, sym, subst}
use Rattle.std.proofs.Common.{length, flat_map, arith, ltb, ltb-true, ltb-false, lt-ltb, eqb-true, eq-eqb}
use Rattle.std.specs.List.{range_with_len}
use Rattle.lcm_events.specs.Same.{kind_number, same_def}
use Rattle.lcm_events.specs.declared.changes.Def.{Def}
use Rattle.lcm_events.specs.declared.changes.DefKind.{DefKind}
use Rattle.lcm_events.specs.declared.changes.DefKind.TheVariants.{Compute, Port, Storage}
use Rattle.lcm_events.specs.declared.descriptor.Vnfd.{Vnfd}
use Rattle.lcm_model.specs.Descriptors.{IsValid, is_def_before}
use Rattle.lcm_model.specs.Instances.{defs_up_to}
use Rattle.lcm_model.specs.Vnfcs.{all_defs, def_of, defs, items, link_def, links, vdu_numbers}
use Rattle.lcm_model.specs.Words.{IsIn}
use Rattle.lcm_laws.proofs.BoundLaws.{all_parts}
use Rattle.lcm_laws.proofs.HoldingLaws.{few_vdus}
use Rattle.lcm_laws.proofs.Lists.{and_left, and_right, and_true, by_test}
use Rattle.lcm_laws.proofs.Members.{Less, Rises, in_either, of_flat_map, of_map, of_range, rises_append, rises_flat_map, rises_map}
use Rattle.lcm_laws.proofs.Members.{rises_range}
use Rattle.lcm_laws.proofs.PlanMembers.{of_defs}
use Rattle.lcm_laws.proofs.PlanOrder.{items_rise}

-- by two numbers, and where they are equal by the rest
abbrev by_number : ℕ → ℕ → Bool → Bool
by_number m n rest = ltb m n || ((m == n) && rest)

numbers : (m n : ℕ) (rest : Bool) → by_number m n rest ≡ true → (m < n) ⊎ ((m ≡ n) × (rest ≡ true))
numbers m n rest e = by_test (ltb m n)
    (λ less. inl (ltb-true m n less))
    (λ no.
    let both : ((m == n) && rest) ≡ true = subst (λ (c : Bool). (c || ((m == n) && rest)) ≡ true) no e in
    inr (eqb-true m n (and_left (m == n) rest both), and_right (m == n) rest both))

by_less : (m n : ℕ) (rest : Bool) → m < n → by_number m n rest ≡ true
by_less m n rest h = let less : ltb m n ≡ true = lt-ltb m n h in rw less refl

by_rest : (m n : ℕ) (rest : Bool) → m ≡ n → rest ≡ true → by_number m n rest ≡ true
by_rest m n rest h e =
    let both : ((m == n) && rest) ≡ true = and_true (m == n) rest (eq-eqb m n h) e in
    by_test (ltb m n) (λ less. rw less refl) (λ no. rw no both)

on_by : (m n k : ℕ) (a b c : Bool) → (a ≡ true → b ≡ true → c ≡ true) → (m < n) ⊎ ((m ≡ n) × (a ≡ true)) → (n < k) ⊎ ((n ≡ k) × (b ≡ true))
    → by_number m k c ≡ true
on_by m n k a b c f (inl h) (inl g) = by_less m k c (omega (arith, h, g))
on_by m n k a b c f (inl h) (inr g) = let same = g.0 in by_less m k c (omega (arith, h, same))
on_by m n k a b c f (inr h) (inl g) = let same = h.0 in by_less m k c (omega (arith, g, same))
on_by m n k a b c f (inr h) (inr g) = by_rest m k c (h.0 ∙ g.0) (f h.1 g.1)

on : (m n k : ℕ) (a b c : Bool) → (a ≡ true → b ≡ true → c ≡ true) → by_number m n a ≡ true → by_number n k b ≡ true
    → by_number m k c ≡ true
on m n k a b c f e g = on_by m n k a b c f (numbers m n a e) (numbers n k b g)

once_by : (m n : ℕ) (a b : Bool) → (a ≡ true → b ≡ true → ⊥) → (m < n) ⊎ ((m ≡ n) × (a ≡ true)) → (n < m) ⊎ ((n ≡ m) × (b ≡ true)) → ⊥
once_by m n a b f (inl h) (inl g) = absurd (omega (arith, h, g))
once_by m n a b f (inl h) (inr g) = let same = g.0 in absurd (omega (arith, h, same))
once_by m n a b f (inr h) (inl g) = let same = h.0 in absurd (omega (arith, g, same))
once_by m n a b f (inr h) (inr g) = f h.1 g.1

once : (m n : ℕ) (a b : Bool) → (a ≡ true → b ≡ true → ⊥) → by_number m n a ≡ true → by_number n m b ≡ true → ⊥
once m n a b f e g = once_by m n a b f (numbers m n a e) (numbers n m b g)

-- neither way: the numbers are equal, and the rest is neither way either
neither : (m n : ℕ) (a b : Bool) → by_number m n a ≡ false → by_number n m b ≡ false → (m ≡ n) × (a ≡ false) × (b ≡ false)
neither m n a b e g = by_test (ltb m n)
    (λ less. let clash : true ≡ false = sym (by_less m n a (ltb-true m n less)) ∙ e in cc)
    (λ low. by_test (ltb n m)
    (λ more. let clash : true ≡ false = sym (by_less n m b (ltb-true n m more)) ∙ g in cc)
    (λ high.
    let ge = ltb-false m n low in
    let le = ltb-false n m high in
    let same : m ≡ n = omega (arith, ge, le) in
    (same, not_so (λ h. by_rest m n a same h) e, not_so (λ h. by_rest n m b (sym same) h) g))) where
      not_so : {c d : Bool} → (c ≡ true → d ≡ true) → d ≡ false → c ≡ false
      not_so {c = true} f h = let clash : true ≡ false = sym (f refl) ∙ h in cc
      not_so {c = false} f h = refl

-- the first definition stands before the second
abbrev pub DefBefore : Def → Def → Type 0
DefBefore x y = is_def_before x y ≡ true

-- what is before something that is before a definition is before it
pub before_on : (x y z : Def) → DefBefore x y → DefBefore y z → DefBefore x z
before_on x y z e f =
    on x.vdu y.vdu z.vdu _ _ _
    (on x.serial y.serial z.serial _ _ _
    (on (kind_number x.kind) (kind_number y.kind) (kind_number z.kind) (ltb x.item y.item) (ltb y.item z.item) (ltb x.item z.item)
    (λ h g. lt-ltb x.item z.item (let less = ltb-true x.item y.item h in let more = ltb-true y.item z.item g in
    omega (arith, less, more))))) e f

-- of two definitions not each is before the other
pub before_once : (x y : Def) → DefBefore x y → DefBefore y x → ⊥
before_once x y e f =
    once x.vdu y.vdu _ _
    (once x.serial y.serial _ _
    (once (kind_number x.kind) (kind_number y.kind) (ltb x.item y.item) (ltb y.item x.item)
    (λ h g. let less = ltb-true x.item y.item h in let more = ltb-true y.item x.item g in absurd (omega (arith, less, more))))) e f

pub not_before : (x y : Def) → DefBefore x y → is_def_before y x ≡ false
not_before x y e = by_test (is_def_before y x) (λ back. absurd (before_once x y e back)) (λ no. no)

-- no definition is before itself
pub not_before_itself : (x : Def) → is_def_before x x ≡ false
not_before_itself x = by_test (is_def_before x x) (λ own. absurd (before_once x x own own)) (λ no. no)

-- a definition that is before another isn't it
pub before_differs : (x y : Def) → DefBefore x y → same_def x y ≡ false
before_differs x y e = grind arith

pub differs_back : (x y : Def) → same_def x y ≡ false → same_def y x ≡ false
differs_back x y e = grind arith

-- of two definitions that differ one is before the other
pub before_or : (x y : Def) → is_def_before x y ≡ false → same_def x y ≡ false → DefBefore y x
before_or x y unless differ = by_test (is_def_before y x)
    (λ back. back)
    (λ none.
    let v = neither x.vdu y.vdu _ _ unless none in
    let s = neither x.serial y.serial _ _ v.1 v.2 in
    let k = neither (kind_number x.kind) (kind_number y.kind) (ltb x.item y.item) (ltb y.item x.item) s.1 s.2 in
    let ge = ltb-false x.item y.item k.1 in
    let le = ltb-false y.item x.item k.2 in
    let same : same_def x y ≡ true =
    and_true _ _ (and_true _ _ (and_true _ _ (eq-eqb (kind_number x.kind) (kind_number y.kind) k.0)
    (eq-eqb x.item y.item (omega (arith, ge, le)))) (eq-eqb x.vdu y.vdu v.0))
    (eq-eqb x.serial y.serial s.0) in
    let clash : true ≡ false = sym same ∙ differ in cc)

by_vdu : (x y : Def) → x.vdu < y.vdu → DefBefore x y
by_vdu x y h = by_less x.vdu y.vdu _ h

by_serial : (x y : Def) → x.vdu ≡ y.vdu → x.serial < y.serial → DefBefore x y
by_serial x y v h = by_rest x.vdu y.vdu _ v (by_less x.serial y.serial _ h)

by_kind : (x y : Def) → x.vdu ≡ y.vdu → x.serial ≡ y.serial → kind_number x.kind < kind_number y.kind → DefBefore x y
by_kind x y v s h = by_rest x.vdu y.vdu _ v (by_rest x.serial y.serial _ s (by_less (kind_number x.kind) (kind_number y.kind) _ h))

by_item : (x y : Def) → x.vdu ≡ y.vdu → x.serial ≡ y.serial → x.kind ≡ y.kind → x.item < y.item → DefBefore x y
by_item x y v s k h =
    by_rest x.vdu y.vdu _ v (by_rest x.serial y.serial _ s (by_rest (kind_number x.kind) (kind_number y.kind) _ (ap kind_number k)
    (lt-ltb x.item y.item h)))

kinds_before : (d : Vnfd) (j k : DefKind) (v s : ℕ) (x y : Def) → kind_number j < kind_number k → IsIn x (defs d j v s)
    → IsIn y (defs d k v s) → DefBefore x y
kinds_before d j k v s x y less hx hy =
    let px = of_defs d j v s x hx in
    let py = of_defs d k v s y hy in
    let a : kind_number x.kind ≡ kind_number j = ap kind_number px.0 in
    let b : kind_number y.kind ≡ kind_number k = ap kind_number py.0 in
    by_kind x y (px.1 ∙ sym py.1) (px.2 ∙ sym py.2) (omega (arith, a, b, less))

items_before : (d : Vnfd) (kind : DefKind) (v s : ℕ) → IsValid d → Rises DefBefore (defs d kind v s)
items_before d kind v s valid =
    rises_map Less DefBefore (def_of kind v s) (items d kind v) (λ a b ha hb less.
    by_item (def_of kind v s a) (def_of kind v s b) refl refl refl less)
    (items_rise d kind v valid)

machine_before : (d : Vnfd) (v s : ℕ) → IsValid d → Rises DefBefore (all_defs d v s)
machine_before d v s valid =
    rises_append DefBefore (defs d Storage v s ++ defs d Compute v s) (defs d Port v s)
    (rises_append DefBefore (defs d Storage v s) (defs d Compute v s) (items_before d Storage v s valid) (items_before d Compute v s valid)
    (λ x y hx hy. kinds_before d Storage Compute v s x y (omega arith) hx hy))
    (items_before d Port v s valid)
    (λ x y hx hy. elim (in_either x (defs d Storage v s) (defs d Compute v s) hx) [
      | inl g ↦ kinds_before d Storage Port v s x y (omega arith) g hy
      | inr g ↦ kinds_before d Compute Port v s x y (omega arith) g hy
    ])

-- the definitions of the machines of a VDU, up to a serial
abbrev pub machines : Vnfd → (ℕ → ℕ) → ℕ → List Def
machines d top v = flat_map (all_defs d v) (range_with_len 1 (top v))

of_machines : (d : Vnfd) (top : ℕ → ℕ) (v : ℕ) (x : Def) → IsIn x (machines d top v) → x.vdu ≡ v
of_machines d top v x h =
    let from = of_flat_map (all_defs d v) x (range_with_len 1 (top v)) h in (all_parts d v from.0 x from.2).1

machines_before : (d : Vnfd) (top : ℕ → ℕ) (v : ℕ) → IsValid d → Rises DefBefore (machines d top v)
machines_before d top v valid =
    rises_flat_map Less DefBefore (all_defs d v) (range_with_len 1 (top v)) (rises_range 1 (top v)) (λ s inside. machine_before d v s valid)
    (λ r s x y less hx hy.
    let a = all_parts d v r x hx in
    let b = all_parts d v s y hy in
    let ra = a.2 in
    let rb = b.2 in
    by_serial x y (a.1 ∙ sym b.1) (omega (arith, less, ra, rb)))

link_vdu : (d : Vnfd) (y : Def) → IsIn y (links d) → y.vdu ≡ 65535
link_vdu d y h = let from = of_map link_def y (range_with_len 0 (length d.links)) h in sym (ap (λ (z : Def). z.vdu) from.2)

-- the definitions of a valid descriptor, up to some serials, stand in order
pub up_to_before : (d : Vnfd) (top : ℕ → ℕ) → IsValid d → Rises DefBefore (defs_up_to d top)
up_to_before d top valid =
    rises_append DefBefore (flat_map (machines d top) (vdu_numbers d)) (links d)
    (rises_flat_map Less DefBefore (machines d top) (vdu_numbers d) (rises_range 0 (length d.vdus))
    (λ v within. machines_before d top v valid)
    (λ u v x y less hx hy.
    let a = of_machines d top u x hx in
    let b = of_machines d top v y hy in
    by_vdu x y (omega (arith, less, a, b))))
    (rises_map Less DefBefore link_def (range_with_len 0 (length d.links))
    (λ a b ha hb less. by_item (link_def a) (link_def b) refl refl refl less)
    (rises_range 0 (length d.links)))
    (λ x y hx hy.
    let from = of_flat_map (machines d top) x (vdu_numbers d) hx in
    let a = of_machines d top from.0 x from.2 in
    let low = (of_range from.0 0 (length d.vdus) from.1).1 in
    let few = few_vdus d valid in
    let b = link_vdu d y hy in
    by_vdu x y (omega (arith, a, low, few, b)))
