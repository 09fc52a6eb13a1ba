-- How much stands, and what the rolls of a case are.
use Rattle.std.proofs.Common.{◌≡◌, ◌≤◌, ◌+◌, ◌&&◌, ◌∙◌, ℕ, List, [], ◌∷◌, Bool, true, false, Option, None, Some, refl, ap, sym, subst}
use Rattle.std.proofs.Common.{length, map, filter, flat_map, arith, inl, ltb, lt-ltb, ltb-false}
use Rattle.std.proofs.lemmas.List.{length-map}
use Rattle.std.specs.List.{enumerate_from, range_with_len}
use Rattle.lcm_events.specs.Descriptors.{is_rising}
use Rattle.lcm_events.specs.Same.{same_kind}
use Rattle.lcm_events.specs.declared.asks.Ask.{Ask}
use Rattle.lcm_events.specs.declared.asks.Ask.TheVariants.{Heal, Instantiate, Operate, Scale, ScaleToLevel, Terminate}
use Rattle.lcm_events.specs.declared.changes.Def.{Def}
use Rattle.lcm_events.specs.declared.changes.DefKind.TheVariants.{Link}
use Rattle.lcm_events.specs.declared.descriptor.Vnfd.{Vnfd}
use Rattle.lcm_events.specs.declared.held.Held.{Held}
use Rattle.lcm_events.specs.declared.held.Holding.{Holding}
use Rattle.lcm_laws.proofs.BoundLaws.{Differ, few, up_to_differ, vdu_in}
use Rattle.lcm_laws.proofs.HoldingLaws.{all_of, few_vdus}
use Rattle.lcm_laws.proofs.Lists.{and_left, and_true, by_test}
use Rattle.lcm_laws.proofs.Members.{Less, Rises, in_back, in_filter, in_flat_map, in_front, in_range, of_filter, of_map, rises_filter}
use Rattle.lcm_laws.proofs.Members.{rises_map, rises_take}
use Rattle.lcm_laws.proofs.PlanOrder.{may_stay_rises}
use Rattle.lcm_laws.proofs.SerialLaws.{range_length}
use Rattle.lcm_model.specs.Descriptors.{IsHoldingOf, IsValid}
use Rattle.lcm_model.specs.Instances.{defs_up_to, inventory_of}
use Rattle.lcm_model.specs.Plans.{may_stay, plan, stay, stay_by, want}
use Rattle.lcm_model.specs.Refusals.{created, standing}
use Rattle.lcm_model.specs.Vnfcs.{all_defs, links, vdu_numbers}
use Rattle.lcm_model.specs.Words.{IsIn, first_some, when}
use Rattle.change_planner.specs.Inventories.{case_of}
use Rattle.change_planner.specs.Planning.{IsTooMany, is_oversized, planned_size}
use Rattle.change_planner.specs.Rolls.{CanBePlanned, are_rising, links_to_make, parts_made, plan_by, roll_of}
use Rattle.change_planner.specs.declared.refusals.PlanRefusal.TheVariants.{TooMany}
use Rattle.change_planner.specs.declared.rolls.Roll.{Roll}
use Rattle.change_planner.proofs.InventoryLaws.{said, says}
use Rattle.change_planner.proofs.OrderLaws.{Sooner, items_in_order, sooner_differs}
use Rattle.change_planner.proofs.PlanLaws.{created_is, plan_is, plan_size}
use Rattle.change_planner.proofs.RollLaws.{known_item, machine_of}
use Rattle.change_planner.proofs.SectionLaws.{link_known, rolls_of}

item_up_to : (d : Vnfd) (h : Holding) (y : Held) → IsHoldingOf d h → IsIn y h.items → IsIn y.def (defs_up_to d (inventory_of h).top)
item_up_to d h y is k = by_test (same_kind y.def.kind Link)
    (λ link.
    in_back y.def (flat_map (λ v. flat_map (all_defs d v) (range_with_len 1 ((inventory_of h).top v))) (vdu_numbers d)) (links d)
    (link_known d y.def.kind y.def refl link (and_left _ _ (known_item d h y is k))))
    (λ other.
    let facts = machine_of d h y is k other in
    let above = facts.above in let low = facts.low in
    in_front y.def (flat_map (λ v. flat_map (all_defs d v) (range_with_len 1 ((inventory_of h).top v))) (vdu_numbers d)) (links d)
    (in_flat_map (λ v. flat_map (all_defs d v) (range_with_len 1 ((inventory_of h).top v))) y.def.vdu y.def (vdu_numbers d)
    (vdu_in y.def.vdu (length d.vdus) facts.vdu)
    (in_flat_map (all_defs d y.def.vdu) y.def.serial y.def (range_with_len 1 ((inventory_of h).top y.def.vdu))
    (in_range y.def.serial 1 ((inventory_of h).top y.def.vdu) (omega (arith, above)) (omega (arith, low))) facts.among)))

-- as many definitions stand as a holding has items
pub standing_is : (d : Vnfd) (h : Holding) (to : List ℕ) → CanBePlanned d h to → standing d (inventory_of h) ≡ length h.items
standing_is d h to can =
    let ds = filter (inventory_of h).stands (defs_up_to d (inventory_of h).top) in
    let items_differ : Rises Differ (map (λ y. y.def) h.items) =
    rises_map Sooner Differ (λ y. y.def) h.items (λ x y hx hy sooner. sooner_differs x y sooner) (items_in_order d h can.held) in
    let most : length (map (λ y. y.def) h.items) ≤ length ds = few (map (λ y. y.def) h.items) ds items_differ (λ x k.
    let from = of_map (λ (y : Held). y.def) x h.items k in
    let here : IsIn x (defs_up_to d (inventory_of h).top) = subst (λ (z : Def). IsIn z (defs_up_to d (inventory_of h).top)) from.2
    (item_up_to d h from.0 can.held from.1) in
    in_filter (inventory_of h).stands x (defs_up_to d (inventory_of h).top) here (said h.items x k)) in
    let least : length ds ≤ length (map (λ y. y.def) h.items) =
    few ds (map (λ y. y.def) h.items) (rises_filter Differ (inventory_of h).stands (defs_up_to d (inventory_of h).top)
    (up_to_differ d (inventory_of h).top can.valid))
    (λ x k. says h.items x (of_filter (inventory_of h).stands x (defs_up_to d (inventory_of h).top) k).1) in
    let size = length-map h.items (λ y. y.def) in
    omega (arith, most, least, size)

-- how many definitions the plan of a case makes
pub made_size : (d : Vnfd) (h : Holding) (ask : Ask) (to : List ℕ) → CanBePlanned d h to
    → created (plan (case_of d h ask to)) ≡ length (links_to_make d ask h.items)
    + parts_made d (enumerate_from 0 (rolls_of (case_of d h ask to)))
made_size d h ask to can = ap created (sym (plan_is d h ask to can)) ∙ created_is d ask (rolls_of (case_of d h ask to)) h.items

pub whole_size : (d : Vnfd) (h : Holding) (ask : Ask) (to : List ℕ) → CanBePlanned d h to
    → planned_size d h ask to ≡ length h.items + (length (links_to_make d ask h.items)
    + parts_made d (enumerate_from 0 (rolls_of (case_of d h ask to))))
whole_size d h ask to can =
    let a = standing_is d h to can in let b = made_size d h ask to can in omega (arith, a, b)

-- a plan that is not too large is small
pub plan_small : (d : Vnfd) (h : Holding) (ask : Ask) (to : List ℕ) → CanBePlanned d h to → is_oversized d h ask to ≡ false
    → length (plan (case_of d h ask to)) ≤ 5000
plan_small d h ask to can e =
    let p = case_of d h ask to in
    let made = made_size d h ask to can in
    let whole = whole_size d h ask to can in
    let stands = can.held.few in
    let size = plan_size d ask (rolls_of p) h.items in
    let same = ap length (plan_is d h ask to can) in
    let sized : created (plan p) + length h.items ≤ 2500 = by_test (ltb 0 (created (plan p)))
    (λ some.
    let fits : ltb 2500 (planned_size d h ask to) ≡ false = subst (λ (b : Bool). (b && ltb 2500 (planned_size d h ask to)) ≡ false) some e
    in
    let bound = ltb-false 2500 (planned_size d h ask to) fits in
    omega (arith, bound, whole, made))
    (λ none. let zero_made = ltb-false 0 (created (plan p)) none in omega (arith, zero_made, stands)) in
    omega (arith, made, stands, size, same, sized)

-- the serials of a VDU that stay rise
stay_rises : (d : Vnfd) (h : Holding) (to : List ℕ) (whole ask : Ask) (v : ℕ) → Rises Less (stay_by ask (case_of d h whole to) v)
stay_rises d h to whole (Operate started stop) v = may_stay_rises (case_of d h whole to) (Operate started stop) v
stay_rises d h to whole (Instantiate flavour level) v = rises_take Less (want (case_of d h whole to) v)
    (may_stay (Instantiate flavour level) (case_of d h whole to) v) (may_stay_rises (case_of d h whole to) (Instantiate flavour level) v)
stay_rises d h to whole (Terminate mode timeout) v = rises_take Less (want (case_of d h whole to) v)
    (may_stay (Terminate mode timeout) (case_of d h whole to) v) (may_stay_rises (case_of d h whole to) (Terminate mode timeout) v)
stay_rises d h to whole (Heal cause named) v = rises_take Less (want (case_of d h whole to) v)
    (may_stay (Heal cause named) (case_of d h whole to) v) (may_stay_rises (case_of d h whole to) (Heal cause named) v)
stay_rises d h to whole (Scale way aspect steps) v = rises_take Less (want (case_of d h whole to) v)
    (may_stay (Scale way aspect steps) (case_of d h whole to) v) (may_stay_rises (case_of d h whole to) (Scale way aspect steps) v)
stay_rises d h to whole (ScaleToLevel aim) v = rises_take Less (want (case_of d h whole to) v)
    (may_stay (ScaleToLevel aim) (case_of d h whole to) v) (may_stay_rises (case_of d h whole to) (ScaleToLevel aim) v)

rising_of : (ns : List ℕ) → Rises Less ns → is_rising ltb ns ≡ true
rising_of [] h = refl
rising_of (n ∷ []) h = refl
rising_of (m ∷ n ∷ ns) h = and_true (ltb m n) _ (lt-ltb m n (h.0 n (inl refl))) (rising_of (n ∷ ns) h.1)

-- in each roll of a case the serials that stay rise
pub rolls_rise : (d : Vnfd) (h : Holding) (ask : Ask) (to : List ℕ) → are_rising (rolls_of (case_of d h ask to)) ≡ true
rolls_rise d h ask to =
    all_of (λ r. is_rising ltb r.staying) (rolls_of (case_of d h ask to)) (λ r k.
    let from = of_map (roll_of (case_of d h ask to)) r (vdu_numbers d) k in
    let rises : is_rising ltb (stay (case_of d h ask to) from.0) ≡ true =
    rising_of (stay (case_of d h ask to) from.0) (stay_rises d h to ask ask from.0) in
    subst (λ (x : Roll). is_rising ltb x.staying ≡ true) from.2 rises)

pub rolls_few : (d : Vnfd) (h : Holding) (ask : Ask) (to : List ℕ) → IsValid d → length (rolls_of (case_of d h ask to)) ≤ 64
rolls_few d h ask to valid =
    let a = length-map (vdu_numbers d) (roll_of (case_of d h ask to)) in
    let b = range_length 0 (length d.vdus) in
    let c = few_vdus d valid in
    omega (arith, a, b, c)

-- the first of two answers
pub first_there : {A : Type 0} → (a b : Option A) (x : A) → a ≡ Some x → first_some (a ∷ b ∷ []) ≡ Some x
first_there a b x e = rw e refl

pub second_there : {A : Type 0} → (a : Option A) (b : Bool) (x : A) → a ≡ None → b ≡ true → first_some (a ∷ when b x ∷ []) ≡ Some x
second_there a b x e f = rw (e, f) refl

pub none_there : {A : Type 0} → (a : Option A) (b : Bool) (x : A) → a ≡ None → b ≡ false → first_some (a ∷ when b x ∷ []) ≡ None
none_there a b x e f = rw (e, f) refl

-- the values of a case's program are those of its definition
pub record IsCounted (d : Vnfd) (h : Holding) (ask : Ask) (to : List ℕ) (m n : ℕ) : Type 0 where
  pub made : created (plan (case_of d h ask to)) ≡ m
  pub size : planned_size d h ask to ≡ n

pub counted : (d : Vnfd) (h : Holding) (ask : Ask) (to : List ℕ) (rolls : List Roll) (ys : List Held) (links : List ℕ) (parts : ℕ)
    → CanBePlanned d h to
    → rolls ≡ rolls_of (case_of d h ask to) → links ≡ links_to_make d ask h.items → ys ≡ h.items
    → parts ≡ parts_made d (enumerate_from 0 rolls)
    → IsCounted d h ask to (length links + parts) (length ys + (length links + parts))
counted d h ask to rolls ys links parts can a b c e =
    let a' : parts ≡ parts_made d (enumerate_from 0 (rolls_of (case_of d h ask to))) =
    e ∙ ap (λ rs. parts_made d (enumerate_from 0 rs)) a in
    let b' = ap length b in
    let c' = ap length c in
    let m = made_size d h ask to can in
    let w = whole_size d h ask to can in
    record { made = omega (arith, a', b', m); size = omega (arith, a', b', c', w) }

pub oversized_is : (d : Vnfd) (h : Holding) (ask : Ask) (to : List ℕ) (made size : ℕ) → IsCounted d h ask to made size
    → is_oversized d h ask to ≡ (ltb 0 made && ltb 2500 size)
oversized_is d h ask to made size is = ap (λ n. ltb 0 n && ltb 2500 (planned_size d h ask to)) is.made
    ∙ ap (λ n. ltb 0 made && ltb 2500 n) is.size

pub too_many : (d : Vnfd) (h : Holding) (ask : Ask) (to : List ℕ) (made size : ℕ) (b : Bool) → IsCounted d h ask to made size
    → b ≡ (ltb 0 made && ltb 2500 size) → b ≡ true
    → IsTooMany d h ask to (TooMany size)
too_many d h ask to made size b is e f = (oversized_is d h ask to made size is ∙ (sym e ∙ f), ap TooMany (sym is.size))

pub not_too_many : (d : Vnfd) (h : Holding) (ask : Ask) (to : List ℕ) (made size : ℕ) (b : Bool) → IsCounted d h ask to made size
    → b ≡ (ltb 0 made && ltb 2500 size) → b ≡ false
    → is_oversized d h ask to ≡ false
not_too_many d h ask to made size b is e f = oversized_is d h ask to made size is ∙ (sym e ∙ f)

pub plan_from : (d : Vnfd) (h : Holding) (ask : Ask) (to : List ℕ) (rolls : List Roll) (ys : List Held) → CanBePlanned d h to
    → rolls ≡ rolls_of (case_of d h ask to) → ys ≡ h.items → plan_by d ask rolls ys ≡ plan (case_of d h ask to)
plan_from d h ask to rolls ys can a b = ap (λ rs. plan_by d ask rs ys) a
    ∙ (ap (plan_by d ask (rolls_of (case_of d h ask to))) b ∙ plan_is d h ask to can)
