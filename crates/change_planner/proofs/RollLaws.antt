-- What stands of the machines of a VDU, read off a holding's items.
use Rattle.std.proofs.Common.{◌≡◌, ◌≤◌, ◌<◌, ◌+◌, ◌++◌, ◌&&◌, ◌||◌, ◌==◌, ◌∙◌, ℕ, List, [], ◌∷◌, Bool, true, false, not, Option, None, Some}
use Rattle.std.proofs.Common.{refl, ap, sym, subst, length, map, filter, arith, inl, inr, ◌⊎◌, ltb, ltb-true, lt-ltb, eqb-true, eq-eqb}
use Rattle.std.proofs.Common.{slice_get, length-append, ◌-◌, append_assoc}
use Rattle.std.proofs.lemmas.Bool.{leb-true}
use Rattle.std.proofs.lemmas.List.{length-map}
use Rattle.std.specs.List.{list_all, range_with_len}
use Rattle.std.specs.Option.{option_map_or}
use Rattle.std.specs.Prelude.{if◌then◌else◌, nat_le, unwrap_or}
use Rattle.lcm_events.specs.Same.{same_kind}
use Rattle.lcm_events.specs.declared.changes.Def.{Def}
use Rattle.lcm_events.specs.declared.changes.DefKind.{DefKind}
use Rattle.lcm_events.specs.declared.changes.DefKind.TheVariants.{Compute, Link, Port, Storage}
use Rattle.lcm_events.specs.declared.descriptor.Vdu.{Vdu}
use Rattle.lcm_events.specs.declared.descriptor.Vnfd.{Vnfd}
use Rattle.lcm_events.specs.declared.held.Held.{Held}
use Rattle.lcm_events.specs.declared.held.Holding.{Holding}
use Rattle.lcm_laws.proofs.AskLaws.{item_in}
use Rattle.lcm_laws.proofs.BoundLaws.{Differ, all_parts, few, machine_differs}
use Rattle.lcm_laws.proofs.CoverLaws.{all_in}
use Rattle.lcm_laws.proofs.HoldingLaws.{all_of, few_vdus}
use Rattle.lcm_laws.proofs.Lists.{and_left, and_right, and_true, by_test}
use Rattle.lcm_laws.proofs.Members.{Less, Rises, among_in, any_in, get_in, in_filter, in_map, in_range, of_filter, of_map, of_range}
use Rattle.lcm_laws.proofs.Members.{rises_filter, rises_map, rises_range, rising_rises}
use Rattle.lcm_laws.proofs.PlanMembers.{OfMachine, in_all}
use Rattle.lcm_model.specs.Descriptors.{IsHoldingOf, IsValid, is_def_up_to, is_valid_vdu}
use Rattle.lcm_model.specs.Instances.{inventory_of}
use Rattle.lcm_model.specs.Vnfcs.{all_defs, def_of, defs, is_def_in, is_def_of, is_there, is_whole, items, storages_of, there}
use Rattle.lcm_model.specs.Words.{IsIn, is_among}
use Rattle.lcm_laws.proofs.SerialLaws.{range_length}
use Rattle.lcm_model.proofs.ListLaws.{range_step}
use Rattle.change_planner.specs.Rolls.{CanBePlanned, distinct, has_vdu, is_at, parts_of}
use Rattle.change_planner.proofs.InventoryLaws.{of_any, said, same_test, says}
use Rattle.change_planner.proofs.OrderLaws.{Sooner, items_in_order, serials_in_order, sooner_differs, unique}

-- the serials that are read are above the one before them, and rise
distinct_rises : (v last : ℕ) (ys : List Held) → Rises Sooner ys → ((y : Held) → IsIn y ys → y.def.vdu ≡ v → last ≤ y.def.serial)
    → Rises Less (distinct v last ys) × ((s : ℕ) → IsIn s (distinct v last ys) → last < s)
distinct_rises v last [] h f = (tt, λ s k. absurd k)
distinct_rises v last (y ∷ ys) h f = by_test ((y.def.vdu == v) && not (y.def.serial == last))
    (λ new.
    let at : y.def.vdu ≡ v = eqb-true y.def.vdu v (and_left _ _ new) in
    let other : not (y.def.serial == last) ≡ true = and_right (y.def.vdu == v) _ new in
    let low : last ≤ y.def.serial = f y (inl refl) at in
    let less : last < y.def.serial = is_above last y.def.serial low other in
    let rest = distinct_rises v y.def.serial ys h.1 (λ z k e. serials_in_order v y z (h.0 z k) at e) in
    rw new ((rest.1, rest.0), λ s k. above last y.def.serial s (distinct v y.def.serial ys) less rest.1 k))
    (λ old. rw old (distinct_rises v last ys h.1 (λ z k e. f z (inr k) e))) where
      is_above : (m n : ℕ) → m ≤ n → not (n == m) ≡ true → m < n
      is_above m n low other = by_test (n == m)
          (λ same. let never : not true ≡ true = subst (λ (b : Bool). not b ≡ true) same other in absurd cc)
          (λ apart. grind arith)

      above : (m n s : ℕ) (ns : List ℕ) → m < n → ((s : ℕ) → IsIn s ns → n < s) → (n ≡ s) ⊎ IsIn s ns → m < s
      above m n s ns less g (inl e) = omega (arith, less, e)
      above m n s ns less g (inr k) = let more = g s k in omega (arith, less, more)

-- a serial that is read is one of an item
distinct_from : (v last s : ℕ) (ys : List Held) → IsIn s (distinct v last ys)
    → (y : Held) × IsIn y ys × (y.def.vdu ≡ v) × (y.def.serial ≡ s)
distinct_from v last s [] k = absurd k
distinct_from v last s (y ∷ ys) k = by_test ((y.def.vdu == v) && not (y.def.serial == last))
    (λ new. here (eqb-true y.def.vdu v (and_left _ _ new)) (subst (λ (b : Bool). IsIn s (if_then b)) new k)
    (λ j. distinct_from v y.def.serial s ys j))
    (λ old. later (distinct_from v last s ys (subst (λ (b : Bool). IsIn s (if_then b)) old k))) where
      if_then : Bool → List ℕ
      if_then b = if b then y.def.serial ∷ distinct v y.def.serial ys else distinct v last ys

      later : (z : Held) × IsIn z ys × (z.def.vdu ≡ v) × (z.def.serial ≡ s)
          → (z : Held) × IsIn z (y ∷ ys) × (z.def.vdu ≡ v) × (z.def.serial ≡ s)
      later f = (f.0, inr f.1, f.2, f.3)

      here : y.def.vdu ≡ v → (y.def.serial ≡ s) ⊎ IsIn s (distinct v y.def.serial ys)
          → (IsIn s (distinct v y.def.serial ys) → (z : Held) × IsIn z ys × (z.def.vdu ≡ v) × (z.def.serial ≡ s))
          → (z : Held) × IsIn z (y ∷ ys) × (z.def.vdu ≡ v) × (z.def.serial ≡ s)
      here at (inl e) on = (y, inl refl, at, e)
      here at (inr j) on = later (on j)

-- the serial of an item is read, where it isn't the one before
distinct_has : (v last : ℕ) (y : Held) (ys : List Held) → IsIn y ys → y.def.vdu ≡ v
    → (y.def.serial ≡ last) ⊎ IsIn y.def.serial (distinct v last ys)
distinct_has v last y [] k at = absurd k
distinct_has v last y (z ∷ ys) k at = by_test ((z.def.vdu == v) && not (z.def.serial == last))
    (λ new. rw new (at_new k (λ j. distinct_has v z.def.serial y ys j at)))
    (λ old. rw old (at_old k old (λ j. distinct_has v last y ys j at))) where
      at_new : (z ≡ y) ⊎ IsIn y ys → (IsIn y ys → (y.def.serial ≡ z.def.serial) ⊎ IsIn y.def.serial (distinct v z.def.serial ys))
          → (y.def.serial ≡ last) ⊎ ((z.def.serial ≡ y.def.serial) ⊎ IsIn y.def.serial (distinct v z.def.serial ys))
      at_new (inl e) on = inr (inl (ap (λ (w : Held). w.def.serial) e))
      at_new (inr j) on = elim (on j) [ inl e ↦ inr (inl (sym e)) | inr i ↦ inr (inr i) ]

      at_old : (z ≡ y) ⊎ IsIn y ys → ((z.def.vdu == v) && not (z.def.serial == last)) ≡ false
          → (IsIn y ys → (y.def.serial ≡ last) ⊎ IsIn y.def.serial (distinct v last ys))
          → (y.def.serial ≡ last) ⊎ IsIn y.def.serial (distinct v last ys)
      at_old (inr j) old on = on j
      at_old (inl e) old on = by_test (y.def.serial == last)
          (λ same. inl (eqb-true y.def.serial last same))
          (λ apart.
          let here : (y.def.vdu == v) ≡ true = eq-eqb y.def.vdu v at in
          let test : ((y.def.vdu == v) && not (y.def.serial == last)) ≡ false =
          subst (λ (w : Held). ((w.def.vdu == v) && not (w.def.serial == last)) ≡ false) e old in
          let yes : ((y.def.vdu == v) && not (y.def.serial == last)) ≡ true = and_true _ _ here (ap not apart) in
          let clash : true ≡ false = sym yes ∙ test in absurd cc)

-- what is known of an item that is no link
pub record IsOfVdu (d : Vnfd) (h : Holding) (y : Held) : Type 0 where
  pub vdu : y.def.vdu < length d.vdus
  pub among : IsIn y.def (all_defs d y.def.vdu y.def.serial)
  pub above : 0 < y.def.serial
  pub low : y.def.serial ≤ (inventory_of h).top y.def.vdu

machine_item : (d : Vnfd) (kind : DefKind) (x : Def) → x.kind ≡ kind
    → (ltb x.vdu (length d.vdus) && is_among (items d kind x.vdu) x.item && ltb 0 x.serial) ≡ true
    → (x.vdu < length d.vdus) × IsIn x (all_defs d x.vdu x.serial) × (0 < x.serial)
machine_item d kind x is e = (
  ltb-true x.vdu (length d.vdus) (and_left _ _ (and_left _ _ e)),
  in_all d kind x.vdu x.serial x (item_in d kind x is (among_in (items d kind x.vdu) x.item (and_right _ _ (and_left _ _ e)))),
  ltb-true 0 x.serial (and_right _ _ e),
)

kind_item : (d : Vnfd) (kind : DefKind) (x : Def) → x.kind ≡ kind → (same_kind kind Link ≡ false) → is_def_in d kind x ≡ true
    → (x.vdu < length d.vdus) × IsIn x (all_defs d x.vdu x.serial) × (0 < x.serial)
kind_item d Link x is other e = absurd cc
kind_item d Storage x is other e = machine_item d Storage x is e
kind_item d Compute x is other e = machine_item d Compute x is e
kind_item d Port x is other e = machine_item d Port x is e

pub known_item : (d : Vnfd) (h : Holding) (y : Held) → IsHoldingOf d h → IsIn y h.items → is_def_up_to d h.top y.def ≡ true
known_item d h y is k = all_in (λ x. is_def_up_to d h.top x.def) y h.items is.known k

pub machine_of : (d : Vnfd) (h : Holding) (y : Held) → IsHoldingOf d h → IsIn y h.items → same_kind y.def.kind Link ≡ false → IsOfVdu d h y
machine_of d h y is k other =
    let known = known_item d h y is k in
    let facts = kind_item d y.def.kind y.def refl other (and_left _ _ known) in
    let low : (same_kind y.def.kind Link || nat_le y.def.serial (unwrap_or (slice_get h.top y.def.vdu) 0)) ≡ true =
    and_right (is_def_of d y.def) _ known in
    record {
      vdu = facts.0;
      among = facts.1;
      above = facts.2;
      low = leb-true y.def.serial (unwrap_or (slice_get h.top y.def.vdu) 0)
          (subst (λ (b : Bool). (b || nat_le y.def.serial (unwrap_or (slice_get h.top y.def.vdu) 0)) ≡ true) other low);
    }

link_item : (d : Vnfd) (kind : DefKind) (x : Def) → (same_kind kind Link ≡ true) → is_def_in d kind x ≡ true → x.vdu ≡ 65535
link_item d Link x is e = eqb-true x.vdu 65535 (and_right _ _ (and_left _ _ e))
link_item d Storage x is e = absurd cc
link_item d Compute x is e = absurd cc
link_item d Port x is e = absurd cc

-- an item of a VDU of the descriptor is no link
pub no_link : (d : Vnfd) (h : Holding) (y : Held) → IsValid d → IsHoldingOf d h → IsIn y h.items → y.def.vdu < length d.vdus
    → same_kind y.def.kind Link ≡ false
no_link d h y valid is k within = by_test (same_kind y.def.kind Link)
    (λ link.
    let far = link_item d y.def.kind y.def link (and_left _ _ (known_item d h y is k)) in
    let most = few_vdus d valid in
    absurd (omega (arith, within, far, most)))
    (λ other. other)

-- an item of a machine says that something of it stands
pub item_there : (d : Vnfd) (h : Holding) (y : Held) → IsOfVdu d h y → IsIn y h.items
    → is_there d (inventory_of h) y.def.vdu y.def.serial ≡ true
item_there d h y is k =
    any_in (inventory_of h).stands y.def (all_defs d y.def.vdu y.def.serial) is.among
    (said h.items y.def (in_map (λ (z : Held). z.def) y h.items k))

-- where something of a machine stands, an item says so
there_item : (d : Vnfd) (h : Holding) (v s : ℕ) → is_there d (inventory_of h) v s ≡ true
    → (y : Held) × IsIn y h.items × OfMachine y.def.kind × (y.def.vdu ≡ v) × (y.def.serial ≡ s)
there_item d h v s e =
    let some = of_any (inventory_of h).stands (all_defs d v s) e in
    let parts = all_parts d v s some.0 some.1 in
    let from = of_map (λ (z : Held). z.def) some.0 h.items (says h.items some.0 some.2) in
    let same : some.0 ≡ from.0.def = sym from.2 in (
      from.0,
      from.1,
      subst (λ (x : Def). OfMachine x.kind) same parts.0,
      ap (λ (x : Def). x.vdu) from.2 ∙ parts.1,
      ap (λ (x : Def). x.serial) from.2 ∙ parts.2,
    )

less_once : (m n : ℕ) → m < n → n < m → ⊥
less_once m n a b = absurd (omega (arith, a, b))

-- the serials that are read off the items are those of which something stands
pub distinct_there : (d : Vnfd) (h : Holding) (to : List ℕ) (v : ℕ) → CanBePlanned d h to → v < length d.vdus
    → distinct v 0 h.items ≡ there d (inventory_of h) v
distinct_there d h to v can within =
    let rises = distinct_rises v 0 h.items (items_in_order d h can.held) (λ y k e. omega arith) in
    unique Less less_once (distinct v 0 h.items) (there d (inventory_of h) v) rises.0
    (rises_filter Less (is_there d (inventory_of h) v) (range_with_len 1 ((inventory_of h).top v)) (rises_range 1 ((inventory_of h).top v)))
    (λ s k.
    let from = distinct_from v 0 s h.items k in
    let y = from.0 in
    let at : y.def.vdu ≡ v = from.2 in
    let is : y.def.serial ≡ s = from.3 in
    let other = no_link d h y can.valid can.held from.1 (omega (arith, at, within)) in
    let facts = machine_of d h y can.held from.1 other in
    let above = facts.above in
    let low : y.def.serial ≤ (inventory_of h).top v = subst (λ (n : ℕ). y.def.serial ≤ (inventory_of h).top n) at facts.low in
    let stands : is_there d (inventory_of h) v y.def.serial ≡ true =
    subst (λ (n : ℕ). is_there d (inventory_of h) n y.def.serial ≡ true) at (item_there d h y facts from.1) in
    in_filter (is_there d (inventory_of h) v) s (range_with_len 1 ((inventory_of h).top v))
    (in_range s 1 ((inventory_of h).top v) (omega (arith, is, above)) (omega (arith, is, low)))
    (subst (λ (n : ℕ). is_there d (inventory_of h) v n ≡ true) is stands))
    (λ s k.
    let both = of_filter (is_there d (inventory_of h) v) s (range_with_len 1 ((inventory_of h).top v)) k in
    let low = (of_range s 1 ((inventory_of h).top v) both.0).0 in
    let item = there_item d h v s both.1 in
    let is : item.0.def.serial ≡ s = item.4 in
    elim (distinct_has v 0 item.0 h.items item.1 item.3) [
      | inl none ↦ absurd (omega (arith, low, is, none))
      | inr read ↦ subst (λ (n : ℕ). IsIn n (distinct v 0 h.items)) is read
    ])

-- the serials of a VDU are read off its own items
pub distinct_own : (v last : ℕ) (ys : List Held) → distinct v last (filter (has_vdu v) ys) ≡ distinct v last ys
distinct_own v last [] = refl
distinct_own v last (y ∷ ys) = by_test (y.def.vdu == v)
    (λ own. by_test (y.def.serial == last)
    (λ same. rw own (rw own (rw same (distinct_own v last ys))))
    (λ new. rw own (rw own (rw new (ap (λ ns. y.def.serial ∷ ns) (distinct_own v y.def.serial ys))))))
    (λ other. rw other (distinct_own v last ys))

pub own_there : (d : Vnfd) (h : Holding) (to : List ℕ) (v : ℕ) (ys : List Held) → CanBePlanned d h to → v < length d.vdus
    → ys ≡ filter (has_vdu v) h.items
    → distinct v 0 ys ≡ there d (inventory_of h) v
own_there d h to v ys can within own = ap (distinct v 0) own ∙ (distinct_own v 0 h.items ∙ distinct_there d h to v can within)

of_machine-no_link : (kind : DefKind) → OfMachine kind → same_kind kind Link ≡ false
of_machine-no_link Link (inl e) = cc
of_machine-no_link Link (inr (inl e)) = cc
of_machine-no_link Link (inr (inr e)) = cc
of_machine-no_link Storage h = refl
of_machine-no_link Compute h = refl
of_machine-no_link Port h = refl

-- an entry that a list has
some_of : {A : Type 0} → (xs : List A) → 0 < length xs → (x : A) × IsIn x xs
some_of [] h = absurd (omega (arith, h))
some_of (x ∷ xs) h = (x, inl refl)

has_some : {A : Type 0} → (x : A) (xs : List A) → IsIn x xs → 0 < length xs
has_some x [] h = absurd h
has_some x (y ∷ xs) h = omega arith

-- something of a machine stands where its VDU is the descriptor's and has an item with its serial
pub there_at : (d : Vnfd) (h : Holding) (to : List ℕ) (v s : ℕ) (ys : List Held) → CanBePlanned d h to → ys ≡ filter (is_at v s) h.items
    → (ltb v (length d.vdus) && ltb 0 (length ys)) ≡ is_there d (inventory_of h) v s
there_at d h to v s ys can own = same_test (ltb v (length d.vdus) && ltb 0 (length ys)) (is_there d (inventory_of h) v s)
    (λ e.
    let within = ltb-true v (length d.vdus) (and_left _ _ e) in
    let some = some_of ys (ltb-true 0 (length ys) (and_right (ltb v (length d.vdus)) _ e)) in
    let y = some.0 in
    let from = of_filter (is_at v s) y h.items (subst (λ (zs : List Held). IsIn y zs) own some.1) in
    let at : y.def.vdu ≡ v = eqb-true y.def.vdu v (and_left _ _ from.1) in
    let is : y.def.serial ≡ s = eqb-true y.def.serial s (and_right (y.def.vdu == v) _ from.1) in
    let facts = machine_of d h y can.held from.0 (no_link d h y can.valid can.held from.0 (omega (arith, at, within))) in
    let there : is_there d (inventory_of h) y.def.vdu y.def.serial ≡ true = item_there d h y facts from.0 in
    subst (λ (n : ℕ). is_there d (inventory_of h) v n ≡ true) is (subst
    (λ (n : ℕ). is_there d (inventory_of h) n y.def.serial ≡ true) at there))
    (λ e.
    let item = there_item d h v s e in
    let y = item.0 in
    let at : y.def.vdu ≡ v = item.3 in
    let facts = machine_of d h y can.held item.1 (of_machine-no_link y.def.kind item.2) in
    let low = facts.vdu in
    let passes : is_at v s y ≡ true = and_true _ _ (eq-eqb y.def.vdu v at) (eq-eqb y.def.serial s item.4) in
    let among : IsIn y ys = subst (λ (zs : List Held). IsIn y zs) (sym own) (in_filter (is_at v s) y h.items item.1 passes) in
    and_true _ _ (lt-ltb v (length d.vdus) (omega (arith, at, low))) (lt-ltb 0 (length ys) (has_some y ys among)))

second_is : (a b r : Bool) → a ≡ true → (a && b) ≡ r → b ≡ r
second_is true b r e f = f
second_is false b r e f = absurd cc

first_is : (a b r : Bool) → a ≡ false → (a && b) ≡ r → a ≡ r
first_is true b r e f = absurd cc
first_is false b r e f = f

pub there_known : (d : Vnfd) (h : Holding) (to : List ℕ) (v s : ℕ) (ys : List Held) → CanBePlanned d h to → ys ≡ filter (is_at v s) h.items
    → v < length d.vdus
    → ltb 0 (length ys) ≡ is_there d (inventory_of h) v s
there_known d h to v s ys can own within =
    second_is (ltb v (length d.vdus)) (ltb 0 (length ys)) (is_there d (inventory_of h) v s) (lt-ltb v (length d.vdus) within)
    (there_at d h to v s ys can own)

pub there_unknown : (d : Vnfd) (h : Holding) (to : List ℕ) (v s : ℕ) (ys : List Held) → CanBePlanned d h to
    → ys ≡ filter (is_at v s) h.items → length d.vdus ≤ v
    → ltb v (length d.vdus) ≡ is_there d (inventory_of h) v s
there_unknown d h to v s ys can own past = by_test (ltb v (length d.vdus))
    (λ within. let less = ltb-true v (length d.vdus) within in absurd (omega (arith, less, past)))
    (λ beyond. first_is (ltb v (length d.vdus)) (ltb 0 (length ys)) (is_there d (inventory_of h) v s) beyond
    (there_at d h to v s ys can own))

-- the definitions of the items that pass a test
abbrev pub defs_where : (Held → Bool) → List Held → List Def
defs_where p ys = map (λ y. y.def) (filter p ys)

pub where_differ : (d : Vnfd) (h : Holding) (p : Held → Bool) → IsHoldingOf d h → Rises Differ (defs_where p h.items)
where_differ d h p is =
    rises_map Sooner Differ (λ y. y.def) (filter p h.items) (λ x y hx hy sooner. sooner_differs x y sooner)
    (rises_filter Sooner p h.items (items_in_order d h is))

pub where_stands : (h : Holding) (p : Held → Bool) (x : Def) → IsIn x (defs_where p h.items) → (inventory_of h).stands x ≡ true
where_stands h p x k =
    let from = of_map (λ (y : Held). y.def) x (filter p h.items) k in
    let own = of_filter p from.0 h.items from.1 in
    said h.items x (subst (λ (z : Def). IsIn z (map (λ y. y.def) h.items)) from.2 (in_map (λ (y : Held). y.def) from.0 h.items own.0))

pub standing_where : (h : Holding) (p : Held → Bool) (x : Def) → ((y : Held) → y.def ≡ x → p y ≡ true) → (inventory_of h).stands x ≡ true
    → IsIn x (defs_where p h.items)
standing_where h p x passes stands =
    let from = of_map (λ (y : Held). y.def) x h.items (says h.items x stands) in
    subst (λ (z : Def). IsIn z (defs_where p h.items)) from.2 (in_map (λ (y : Held). y.def) from.0 (filter p h.items)
    (in_filter p from.0 h.items from.1 (passes from.0 from.2)))

with_first : {A : Type 0} → (z x : A) (ys zs : List A) → (x ≡ z) ⊎ IsIn z ys → IsIn x zs → (IsIn z ys → IsIn z zs) → IsIn z zs
with_first {A} z x ys zs (inl e) among f = subst (λ (w : A). IsIn w zs) e among
with_first z x ys zs (inr k) among f = f k

-- of these definitions as many stand as there are, exactly where all do
pub counted_all : (h : Holding) (xs ds : List Def) → Rises Differ xs → Rises Differ ds → ((x : Def) → IsIn x xs → IsIn x ds)
    → ((x : Def) → IsIn x xs → (inventory_of h).stands x ≡ true)
    → ((x : Def) → IsIn x ds → (inventory_of h).stands x ≡ true → IsIn x xs)
    → (length xs == length ds) ≡ list_all (inventory_of h).stands ds
counted_all h xs ds hx hd among stands standing =
    let most : length xs ≤ length ds = few xs ds hx among in
    same_test (length xs == length ds) (list_all (inventory_of h).stands ds)
    (λ e.
    let equal = eqb-true (length xs) (length ds) e in
    all_of (inventory_of h).stands ds (λ x own. by_test ((inventory_of h).stands x)
    (λ yes. yes)
    (λ missing.
    let more : length (x ∷ xs) ≤ length ds = few (x ∷ xs) ds (
      λ z k same. let has : (inventory_of h).stands x ≡ true = subst (λ (w : Def). (inventory_of h).stands w ≡ true) (sym same)
          (stands z k) in
          let clash : true ≡ false = sym has ∙ missing in absurd cc,
      hx,
    )
    (λ z k. with_first z x xs ds k own (λ g. among z g)) in
    absurd (omega (arith, more, equal)))))
    (λ whole.
    let least : length ds ≤ length xs = few ds xs hd (λ x own. standing x own (all_in (inventory_of h).stands x ds whole own)) in
    eq-eqb (length xs) (length ds) (omega (arith, least, most)))

pub size_all : (d : Vnfd) (v s : ℕ) → length (all_defs d v s) ≡ parts_of d v
size_all d v s =
    let a = length-append (defs d Storage v s ++ defs d Compute v s) (defs d Port v s) in
    let b = length-append (defs d Storage v s) (defs d Compute v s) in
    let m = length-map (items d Storage v) (def_of Storage v s) in
    let n = length-map (items d Compute v) (def_of Compute v s) in
    let k = length-map (items d Port v) (def_of Port v s) in
    omega (arith, a, b, m, n, k)

-- an item of a machine has one of its definitions
part_among : (d : Vnfd) (h : Holding) (v s : ℕ) (x : Def) → IsValid d → IsHoldingOf d h → v < length d.vdus
    → IsIn x (defs_where (is_at v s) h.items) → IsIn x (all_defs d v s)
part_among d h v s x valid is within k =
    let from = of_map (λ (y : Held). y.def) x (filter (is_at v s) h.items) k in
    let own = of_filter (is_at v s) from.0 h.items from.1 in
    let y = from.0 in
    let at : y.def.vdu ≡ v = eqb-true y.def.vdu v (and_left _ _ own.1) in
    let same : y.def.serial ≡ s = eqb-true y.def.serial s (and_right (y.def.vdu == v) _ own.1) in
    let facts = machine_of d h y is own.0 (no_link d h y valid is own.0 (omega (arith, at, within))) in
    let here : IsIn y.def (all_defs d v s) = subst (λ (n : ℕ). IsIn y.def (all_defs d v n)) same
    (subst (λ (n : ℕ). IsIn y.def (all_defs d n y.def.serial)) at facts.among) in
    subst (λ (z : Def). IsIn z (all_defs d v s)) from.2 here

among_part : (d : Vnfd) (h : Holding) (v s : ℕ) (x : Def) → IsIn x (all_defs d v s) → (inventory_of h).stands x ≡ true
    → IsIn x (defs_where (is_at v s) h.items)
among_part d h v s x among stands =
    let parts = all_parts d v s x among in
    standing_where h (is_at v s) x (λ y e. and_true _ _ (eq-eqb y.def.vdu v (ap (λ (z : Def). z.vdu) e ∙ parts.1))
    (eq-eqb y.def.serial s (ap (λ (z : Def). z.serial) e ∙ parts.2))) stands

-- a machine is whole where as many of its definitions stand as it has
pub counted_whole : (d : Vnfd) (h : Holding) (to : List ℕ) (v s : ℕ) (ys : List Held) → CanBePlanned d h to → v < length d.vdus
    → ys ≡ filter (is_at v s) h.items
    → (length ys == parts_of d v) ≡ is_whole d (inventory_of h) v s
counted_whole d h to v s ys can within own =
    ap (λ (zs : List Held). length zs == parts_of d v) own
    ∙ (ap (λ n. n == parts_of d v) (sym (length-map (filter (is_at v s) h.items) (λ y. y.def)))
    ∙ (ap (λ n. length (defs_where (is_at v s) h.items) == n) (sym (size_all d v s))
    ∙ counted_all h (defs_where (is_at v s) h.items) (all_defs d v s) (where_differ d h (is_at v s) can.held)
    (machine_differs d v s can.valid)
    (λ x k. part_among d h v s x can.valid can.held within k) (λ x k. where_stands h (is_at v s) x k)
    (λ x k stands. among_part d h v s x k stands)))

map_same : (xs : List ℕ) → map (λ x. x) xs ≡ xs
map_same [] = refl
map_same (x ∷ xs) = ap (λ ys. x ∷ ys) (map_same xs)

less_differs : (xs : List ℕ) → Rises Less xs → Rises Differ xs
less_differs xs h =
    subst (λ (ys : List ℕ). Rises Differ ys) (map_same xs) (rises_map Less Differ (λ x. x) xs
    (λ a b ha hb less e. absurd (omega (arith, less, e))) h)

rising_few : (n : ℕ) (xs : List ℕ) → Rises Less xs → ((x : ℕ) → IsIn x xs → x < n) → length xs ≤ n
rising_few n xs h f =
    let most = few xs (range_with_len 0 n) (less_differs xs h) (λ x k. let low = f x k in in_range x 0 n (omega arith) (omega (arith, low)))
    in
    let size = range_length 0 n in
    omega (arith, most, size)

storages_by : (d : Vnfd) (o : Option Vdu) → ((u : Vdu) → o ≡ Some u → is_valid_vdu d u ≡ true) → length d.storages ≤ 128
    → length (option_map_or (λ u. u.storages) o []) ≤ 128
storages_by d None f few_storages = omega arith
storages_by d (Some u) f few_storages =
    let valid = f u refl in
    rising_few 128 u.storages (rising_rises u.storages (and_right _ _ (and_left _ _ valid)))
    (λ x k. let low = ltb-true x (length d.storages) (all_in (λ n. ltb n (length d.storages)) x u.storages (and_right _ _ valid) k) in
    omega (arith, low, few_storages))

-- a machine has few storages
pub storages_few : (d : Vnfd) (v : ℕ) → IsValid d → length (storages_of d v) ≤ 128
storages_few d v valid =
    storages_by d (slice_get d.vdus v) (λ u e. all_in (is_valid_vdu d) u d.vdus valid.vdus (get_in u d.vdus v e))
    (leb-true (length d.storages) 128 (and_right _ _ (and_left _ _
    (and_left _ _ (and_left _ _ (and_left _ _ (and_left _ _ valid.counts)))))))

pub ports_few : (d : Vnfd) → IsValid d → length d.ports ≤ 256
ports_few d valid = leb-true (length d.ports) 256 (and_right _ _ (and_left _ _ (and_left _ _ (and_left _ _ valid.counts))))

-- all pass, and one more does
pub all_more : {A : Type 0} → (p : A → Bool) (xs : List A) (x : A) → list_all p xs ≡ true → p x ≡ true → list_all p (xs ++ x ∷ []) ≡ true
all_more p [] x h e = and_true (p x) true e refl
all_more p (y ∷ xs) x h e = and_true (p y) _ (and_left (p y) _ h) (all_more p xs x (and_right (p y) _ h) e)

-- what a function gives of a number, and then of the next ones, is what it gives of all
pub map_range_on : {A : Type 0} → (f : ℕ → A) (made whole : List A) (x : A) (i n : ℕ) → i < n → x ≡ f i
    → made ++ map f (range_with_len i (n - i)) ≡ whole
    → (made ++ x ∷ []) ++ map f (range_with_len (i + 1) (n - (i + 1))) ≡ whole
map_range_on f made whole x i n h is e =
    let step : map f (range_with_len i (n - i)) ≡ f i ∷ map f (range_with_len (i + 1) (n - (i + 1))) = ap (map f) (range_step i n h) in
    append_assoc made (x ∷ []) (map f (range_with_len (i + 1) (n - (i + 1))))
    ∙ (ap (λ y. made ++ y ∷ map f (range_with_len (i + 1) (n - (i + 1)))) is ∙ (ap (λ ys. made ++ ys) (sym step) ∙ e))

-- the greatest serial of a holding's VDU is within the limit
pub small_top : (d : Vnfd) (h : Holding) (to : List ℕ) (v : ℕ) → CanBePlanned d h to → (inventory_of h).top v < 2147483648
small_top d h to v can = by_answer (slice_get h.top v) refl where
  by_answer : (o : Option ℕ) → slice_get h.top v ≡ o → unwrap_or (slice_get h.top v) 0 < 2147483648
  by_answer None e = rw e (omega arith)
  by_answer (Some n) e = rw e (ltb-true n 2147483648 (all_in (λ n. ltb n 2147483648) n h.top can.held.small (get_in n h.top v e)))
