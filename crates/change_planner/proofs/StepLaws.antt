-- A VDU is in step where its items are as many as its machines have.
use Rattle.std.proofs.Common.{◌≡◌, ◌≤◌, ◌<◌, ◌*◌, ◌++◌, ◌&&◌, ◌||◌, ◌==◌, ◌∙◌, ℕ, List, [], ◌∷◌, Bool, true, false, not, refl, ap, sym}
use Rattle.std.proofs.Common.{subst, length, filter, flat_map, arith, inl, inr, eqb-true, eq-eqb, length-append}
use Rattle.std.proofs.Math.Nat.{suc-mul}
use Rattle.std.proofs.lemmas.List.{length-map}
use Rattle.std.specs.List.{list_all, range_with_len}
use Rattle.lcm_events.specs.Same.{same_kind}
use Rattle.lcm_events.proofs.SameLaws.{same_kind-true}
use Rattle.lcm_events.specs.declared.changes.Def.{Def}
use Rattle.lcm_events.specs.declared.changes.DefKind.{DefKind}
use Rattle.lcm_events.specs.declared.changes.DefKind.TheVariants.{Compute, Link, Port, Storage}
use Rattle.lcm_events.specs.declared.descriptor.Vnfd.{Vnfd}
use Rattle.lcm_events.specs.declared.held.Held.{Held}
use Rattle.lcm_events.specs.declared.held.Holding.{Holding}
use Rattle.lcm_laws.proofs.BoundLaws.{Differ, all_parts, machine_differs}
use Rattle.lcm_laws.proofs.CoverLaws.{all_in}
use Rattle.lcm_laws.proofs.HoldingLaws.{all_of, few_vdus}
use Rattle.lcm_laws.proofs.Lists.{and_left, by_test}
use Rattle.lcm_laws.proofs.Members.{Less, Rises, in_back, in_filter, in_flat_map, in_front, of_filter, of_flat_map, of_map, rises_filter}
use Rattle.lcm_laws.proofs.Members.{rises_flat_map, rises_map, rises_range}
use Rattle.lcm_laws.proofs.PlanMembers.{of_all}
use Rattle.lcm_laws.proofs.SerialLaws.{range_length}
use Rattle.lcm_model.specs.Descriptors.{IsHoldingOf, IsValid}
use Rattle.lcm_model.specs.Instances.{inventory_of}
use Rattle.lcm_model.specs.Levels.{count}
use Rattle.lcm_model.specs.Vnfcs.{all_defs, compute_def, defs, is_there, is_vdu_in_step, is_whole, link_def, links, there}
use Rattle.lcm_model.specs.Words.{IsIn, same_bool}
use Rattle.change_planner.specs.Rolls.{CanBePlanned, distinct, has_vdu, parts_of, runs_as_meant}
use Rattle.change_planner.proofs.InventoryLaws.{same_test}
use Rattle.change_planner.proofs.OrderLaws.{items_in_order}
use Rattle.change_planner.proofs.RollLaws.{counted_all, defs_where, known_item, machine_of, no_link, own_there, size_all, standing_where}
use Rattle.change_planner.proofs.RollLaws.{where_differ, where_stands}
use Rattle.change_planner.proofs.SectionLaws.{item_of, link_known, moves, serial_there, still}

-- a holding can be planned at its own levels
own_case : (d : Vnfd) (h : Holding) → IsValid d → IsHoldingOf d h → CanBePlanned d h h.levels
own_case d h valid held = record { valid = valid; levels = held.levels; held = held }

-- what the machines of a VDU that are there have, whole
abbrev meant_defs : Vnfd → Holding → ℕ → List Def
meant_defs d h v = flat_map (all_defs d v) (there d (inventory_of h) v)

there_rises : (d : Vnfd) (h : Holding) (v : ℕ) → Rises Less (there d (inventory_of h) v)
there_rises d h v = rises_filter Less (is_there d (inventory_of h) v) (range_with_len 1 ((inventory_of h).top v))
    (rises_range 1 ((inventory_of h).top v))

meant_differ : (d : Vnfd) (h : Holding) (v : ℕ) → IsValid d → Rises Differ (meant_defs d h v)
meant_differ d h v valid =
    rises_flat_map Less Differ (all_defs d v) (there d (inventory_of h) v) (there_rises d h v) (λ s inside. machine_differs d v s valid)
    (λ r s x y less hx hy e.
    let a = (all_parts d v r x hx).2 in let b = (all_parts d v s y hy).2 in let same : x.serial ≡ y.serial = ap (λ (z : Def). z.serial) e in
    absurd (omega (arith, less, a, b, same)))

meant_size : (d : Vnfd) (v : ℕ) (ns : List ℕ) → length (flat_map (all_defs d v) ns) ≡ length ns * parts_of d v
meant_size d v [] = omega arith
meant_size d v (s ∷ ns) =
    let rest = meant_size d v ns in
    let here = size_all d v s in
    omega (arith, rest, here, length-append (all_defs d v s) (flat_map (all_defs d v) ns), suc-mul (length ns) (parts_of d v))

all_both : {A : Type 0} → (p : A → Bool) (xs ys : List A) → list_all p (xs ++ ys) ≡ (list_all p xs && list_all p ys)
all_both p [] ys = refl
all_both p (x ∷ xs) ys = by_test (p x) (λ passes. rw passes (all_both p xs ys)) (λ fails. rw fails refl)

meant_stand : (d : Vnfd) (h : Holding) (v : ℕ) (ns : List ℕ) → list_all (inventory_of h).stands (flat_map (all_defs d v) ns)
    ≡ list_all (is_whole d (inventory_of h) v) ns
meant_stand d h v [] = refl
meant_stand d h v (s ∷ ns) =
    all_both (inventory_of h).stands (all_defs d v s) (flat_map (all_defs d v) ns)
    ∙ ap (λ b. is_whole d (inventory_of h) v s && b) (meant_stand d h v ns)

-- the items of a VDU are of its machines
item_meant : (d : Vnfd) (h : Holding) (v : ℕ) (x : Def) → IsValid d → IsHoldingOf d h → v < length d.vdus
    → IsIn x (defs_where (has_vdu v) h.items) → IsIn x (meant_defs d h v)
item_meant d h v x valid is within k =
    let from = of_map (λ (y : Held). y.def) x (filter (has_vdu v) h.items) k in
    let own = of_filter (has_vdu v) from.0 h.items from.1 in
    let y = from.0 in
    let at : y.def.vdu ≡ v = eqb-true y.def.vdu v own.1 in
    let facts = machine_of d h y is own.0 (no_link d h y valid is own.0 (omega (arith, at, within))) in
    let serial = serial_there d h y facts own.0 in
    let here : IsIn y.def (meant_defs d h y.def.vdu) = in_flat_map (all_defs d y.def.vdu) y.def.serial y.def
    (there d (inventory_of h) y.def.vdu) serial facts.among in
    subst (λ (z : Def). IsIn z (meant_defs d h v)) from.2 (subst (λ (n : ℕ). IsIn y.def (meant_defs d h n)) at here)

meant_item : (d : Vnfd) (h : Holding) (v : ℕ) (x : Def) → IsIn x (meant_defs d h v) → (inventory_of h).stands x ≡ true
    → IsIn x (defs_where (has_vdu v) h.items)
meant_item d h v x k stands =
    let from = of_flat_map (all_defs d v) x (there d (inventory_of h) v) k in
    let parts = all_parts d v from.0 x from.2 in
    standing_where h (has_vdu v) x (λ y e. eq-eqb y.def.vdu v (ap (λ (z : Def). z.vdu) e ∙ parts.1)) stands

-- the machines of a VDU that are there are whole exactly where it has as many items as they have
whole_counted : (d : Vnfd) (h : Holding) (v : ℕ) → IsValid d → IsHoldingOf d h → v < length d.vdus
    → (length (filter (has_vdu v) h.items) == length (there d (inventory_of h) v) * parts_of d v)
    ≡ list_all (is_whole d (inventory_of h) v) (there d (inventory_of h) v)
whole_counted d h v valid is within =
    ap (λ n. n == length (there d (inventory_of h) v) * parts_of d v) (sym (length-map (filter (has_vdu v) h.items) (λ y. y.def)))
    ∙ (ap (λ n. length (defs_where (has_vdu v) h.items) == n) (sym (meant_size d v (there d (inventory_of h) v)))
    ∙ (counted_all h (defs_where (has_vdu v) h.items) (meant_defs d h v) (where_differ d h (has_vdu v) is) (meant_differ d h v valid)
    (λ x k. item_meant d h v x valid is within k) (λ x k. where_stands h (has_vdu v) x k) (λ x k stands. meant_item d h v x k stands)
    ∙ meant_stand d h v (there d (inventory_of h) v)))

-- an item says whether its compute runs
runs_is : (d : Vnfd) (h : Holding) (y : Held) → IsHoldingOf d h → IsIn y h.items → (inventory_of h).runs y.def ≡ y.running
runs_is d h y is k = by_test y.running
    (λ running. moves h.items y k running ∙ sym running)
    (λ off. still h.items y (items_in_order d h is) k (ap not off) ∙ sym off)

-- the compute of a machine is one of its definitions
compute_in : (d : Vnfd) (v s : ℕ) → IsIn (compute_def v s) (all_defs d v s)
compute_in d v s =
    in_front (compute_def v s) (defs d Storage v s ++ defs d Compute v s) (defs d Port v s)
    (in_back (compute_def v s) (defs d Storage v s) (defs d Compute v s) (inl refl))

compute_of : (d : Vnfd) (v s : ℕ) (x : Def) → x.kind ≡ Compute → IsIn x (all_defs d v s) → x ≡ compute_def v s
compute_of d v s x is k =
    let own : IsIn x (defs d Compute v s) = subst (λ (kind : DefKind). IsIn x (defs d kind v s)) is (of_all d v s x k).1 in
    elim own [ inl e ↦ sym e | inr none ↦ absurd none ]

-- where the machines of a VDU are whole, its items say which computes run
running_told : (d : Vnfd) (h : Holding) (v : ℕ) → IsValid d → IsHoldingOf d h → v < length d.vdus
    → list_all (is_whole d (inventory_of h) v) (there d (inventory_of h) v) ≡ true
    → list_all (runs_as_meant h.started) (filter (has_vdu v) h.items)
    ≡ list_all (λ s. same_bool h.started ((inventory_of h).runs (compute_def v s))) (there d (inventory_of h) v)
running_told d h v valid is within all =
    same_test (list_all (runs_as_meant h.started) (filter (has_vdu v) h.items))
    (list_all (λ s. same_bool h.started ((inventory_of h).runs (compute_def v s))) (there d (inventory_of h) v))
    (λ e. all_of (λ s. same_bool h.started ((inventory_of h).runs (compute_def v s))) (there d (inventory_of h) v) (λ s k.
    let whole = all_in (is_whole d (inventory_of h) v) s (there d (inventory_of h) v) all k in
    let item = item_of h.items (compute_def v s) (all_in (inventory_of h).stands (compute_def v s) (all_defs d v s) whole
    (compute_in d v s)) in
    let at : has_vdu v item.0 ≡ true = eq-eqb item.0.def.vdu v (ap (λ (z : Def). z.vdu) item.2) in
    let meant : runs_as_meant h.started item.0 ≡ true = all_in (runs_as_meant h.started) item.0 (filter (has_vdu v) h.items) e
    (in_filter (has_vdu v) item.0 h.items item.1 at) in
    let kind : same_kind item.0.def.kind Compute ≡ true = subst (λ (x : Def). same_kind x.kind Compute ≡ true) (sym item.2) refl in
    let run : same_bool h.started item.0.running ≡ true = subst (λ (b : Bool). (not b || same_bool h.started item.0.running) ≡ true) kind
    meant in
    let told : same_bool h.started ((inventory_of h).runs item.0.def) ≡ true =
    subst (λ (b : Bool). same_bool h.started b ≡ true) (sym (runs_is d h item.0 is item.1)) run in
    subst (λ (x : Def). same_bool h.started ((inventory_of h).runs x) ≡ true) item.2 told))
    (λ e. all_of (runs_as_meant h.started) (filter (has_vdu v) h.items) (λ y k. by_test (same_kind y.def.kind Compute)
    (λ compute.
    let own = of_filter (has_vdu v) y h.items k in
    let at : y.def.vdu ≡ v = eqb-true y.def.vdu v own.1 in
    let facts = machine_of d h y is own.0 (no_link d h y valid is own.0 (omega (arith, at, within))) in
    let serial : IsIn y.def.serial (there d (inventory_of h) v) = subst (λ (n : ℕ). IsIn y.def.serial (there d (inventory_of h) n)) at
    (serial_there d h y facts own.0) in
    let run : same_bool h.started ((inventory_of h).runs (compute_def v y.def.serial)) ≡ true =
    all_in (λ s. same_bool h.started ((inventory_of h).runs (compute_def v s))) y.def.serial (there d (inventory_of h) v) e serial in
    let among : IsIn y.def (all_defs d v y.def.serial) = subst (λ (n : ℕ). IsIn y.def (all_defs d n y.def.serial)) at facts.among in
    let same : y.def ≡ compute_def v y.def.serial = compute_of d v y.def.serial y.def (same_kind-true y.def.kind Compute compute) among in
    let told : same_bool h.started ((inventory_of h).runs y.def) ≡ true =
    subst (λ (x : Def). same_bool h.started ((inventory_of h).runs x) ≡ true) (sym same) run in
    let runs : same_bool h.started y.running ≡ true = subst (λ (b : Bool). same_bool h.started b ≡ true) (runs_is d h y is own.0) told in
    rw compute runs)
    (λ other. rw other refl)))

same_whole : (c b m r : Bool) → (b ≡ true → m ≡ r) → ((c && b) && m) ≡ (c && (b && r))
same_whole true true m r f = f refl
same_whole true false m r f = refl
same_whole false true m r f = refl
same_whole false false m r f = refl

all_pair : (p q : ℕ → Bool) (ns : List ℕ) → list_all (λ s. p s && q s) ns ≡ (list_all p ns && list_all q ns)
all_pair p q [] = refl
all_pair p q (s ∷ ns) = by_test (p s)
    (λ passes. by_test (q s) (λ also. rw passes (rw also (all_pair p q ns)))
    (λ fails. rw passes (rw fails (sym (and_none (list_all p ns))))))
    (λ fails. rw fails refl) where
      and_none : (b : Bool) → (b && false) ≡ false
      and_none true = refl
      and_none false = refl

-- a VDU is in step exactly where its own items are as many as its machines have, its machines as many as the levels say, and each
-- compute runs as meant
pub vdu_steps : (d : Vnfd) (h : Holding) (v : ℕ) (ys : List Held) → IsValid d → IsHoldingOf d h → v < length d.vdus
    → ys ≡ filter (has_vdu v) h.items
    → (((length (distinct v 0 ys) == count d v h.levels) && (length ys == length (distinct v 0 ys) * parts_of d v))
    && list_all (runs_as_meant h.started) ys)
    ≡ is_vdu_in_step d (inventory_of h) h.levels h.started v
vdu_steps d h v ys valid is within own =
    let t = there d (inventory_of h) v in
    let size = parts_of d v in
    let read : distinct v 0 ys ≡ t = own_there d h h.levels v ys (own_case d h valid is) within own in
    let whole : (length ys == length t * size) ≡ list_all (is_whole d (inventory_of h) v) t =
    ap (λ (zs : List Held). length zs == length t * size) own ∙ whole_counted d h v valid is within in
    let runs = list_all (λ s. same_bool h.started ((inventory_of h).runs (compute_def v s))) t in
    ap (λ (ns : List ℕ). ((length ns == count d v h.levels) && (length ys == length ns * size)) && list_all (runs_as_meant h.started) ys)
    read
    ∙ (ap (λ (b : Bool). ((length t == count d v h.levels) && b) && list_all (runs_as_meant h.started) ys) whole
    ∙ (same_whole (length t == count d v h.levels) (list_all (is_whole d (inventory_of h) v) t) (list_all (runs_as_meant h.started) ys) runs
    (λ all. ap (list_all (runs_as_meant h.started)) own ∙ running_told d h v valid is within all)
    ∙ ap (λ (b : Bool). (length t == count d v h.levels) && b) (sym
    (all_pair (is_whole d (inventory_of h) v) (λ s. same_bool h.started ((inventory_of h).runs (compute_def v s))) t))))

links_differ : (d : Vnfd) → Rises Differ (links d)
links_differ d =
    rises_map Less Differ link_def (range_with_len 0 (length d.links)) (λ a b ha hb less e.
    let same : a ≡ b = ap (λ (x : Def). x.item) e in absurd (omega (arith, less, same))) (rises_range 0 (length d.links))

item_link : (d : Vnfd) (h : Holding) (x : Def) → IsValid d → IsHoldingOf d h → IsIn x (defs_where (has_vdu 65535) h.items)
    → IsIn x (links d)
item_link d h x valid is k =
    let from = of_map (λ (y : Held). y.def) x (filter (has_vdu 65535) h.items) k in
    let own = of_filter (has_vdu 65535) from.0 h.items from.1 in
    let at = eqb-true from.0.def.vdu 65535 own.1 in
    let here : IsIn from.0.def (links d) = by_test (same_kind from.0.def.kind Link)
    (λ link. link_known d from.0.def.kind from.0.def refl link (and_left _ _ (known_item d h from.0 is own.0)))
    (λ other. let low = (machine_of d h from.0 is own.0 other).vdu in let most = few_vdus d valid in absurd (omega (arith, at, low, most)))
    in
    subst (λ (z : Def). IsIn z (links d)) from.2 here

link_item : (d : Vnfd) (h : Holding) (x : Def) → IsIn x (links d) → (inventory_of h).stands x ≡ true
    → IsIn x (defs_where (has_vdu 65535) h.items)
link_item d h x k stands =
    let from = of_map link_def x (range_with_len 0 (length d.links)) k in
    standing_where h (has_vdu 65535) x (λ y e. eq-eqb y.def.vdu 65535 (ap (λ (z : Def). z.vdu) e ∙ sym (ap (λ (z : Def). z.vdu) from.2)))
    stands

-- every link stands exactly where as many stand as the descriptor has
pub links_step : (d : Vnfd) (h : Holding) (ys : List Held) → IsValid d → IsHoldingOf d h → ys ≡ filter (has_vdu 65535) h.items
    → (length ys == length d.links) ≡ list_all (inventory_of h).stands (links d)
links_step d h ys valid is own =
    ap (λ (zs : List Held). length zs == length d.links) own
    ∙ (ap (λ n. n == length d.links) (sym (length-map (filter (has_vdu 65535) h.items) (λ y. y.def)))
    ∙ (ap (λ n. length (defs_where (has_vdu 65535) h.items) == n) (sym
    (length-map (range_with_len 0 (length d.links)) link_def ∙ range_length 0 (length d.links)))
    ∙ counted_all h (defs_where (has_vdu 65535) h.items) (links d) (where_differ d h (has_vdu 65535) is) (links_differ d)
    (λ x k. item_link d h x valid is k) (λ x k. where_stands h (has_vdu 65535) x k) (λ x k stands. link_item d h x k stands)))

-- a VDU has no more machines than a holding may have items
filter_few : (p : Held → Bool) (ys : List Held) → length (filter p ys) ≤ length ys
filter_few p [] = omega arith
filter_few p (y ∷ ys) = let rest = filter_few p ys in by_test (p y) (λ passes. rw passes (omega (arith, rest)))
    (λ fails. rw fails (omega (arith, rest)))

pub machines_few : (d : Vnfd) (h : Holding) (v : ℕ) (ys : List Held) → IsHoldingOf d h → ys ≡ filter (has_vdu v) h.items → length ys ≤ 2500
machines_few d h v ys is own =
    let a = ap length own in let b = filter_few (has_vdu v) h.items in let most = is.few in omega (arith, a, b, most)
