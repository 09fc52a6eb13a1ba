-- The changes that items give are those of the plan, phase by phase.
use Rattle.std.proofs.Common.{◌≡◌, ◌<◌, ◌+◌, ◌++◌, ◌&&◌, ◌∙◌, ℕ, List, [], ◌∷◌, Bool, true, false, not, Some, refl, ap, sym, subst, length}
use Rattle.std.proofs.Common.{map, filter, arith, inl, inr, ◌⊎◌, ltb-true, eqb-true, slice_get}
use Rattle.std.specs.List.{list_any, range_with_len}
use Rattle.std.specs.Option.{option_map_or}
use Rattle.lcm_events.specs.Same.{kind_number, same_def, same_kind}
use Rattle.lcm_events.proofs.SameLaws.{def_ext, same_def-refl, same_def-true, same_kind-refl, same_kind-true}
use Rattle.lcm_events.specs.declared.asks.Ask.{Ask}
use Rattle.lcm_events.specs.declared.changes.Change.{Change}
use Rattle.lcm_events.specs.declared.changes.Def.{Def}
use Rattle.lcm_events.specs.declared.changes.DefKind.{DefKind}
use Rattle.lcm_events.specs.declared.changes.DefKind.TheVariants.{Compute, Link, Port, Storage}
use Rattle.lcm_events.specs.declared.changes.Verb.{Verb}
use Rattle.lcm_events.specs.declared.changes.Verb.TheVariants.{Remove, Start, Stop}
use Rattle.lcm_events.specs.declared.descriptor.Vnfd.{Vnfd}
use Rattle.lcm_events.specs.declared.held.Held.{Held}
use Rattle.lcm_events.specs.declared.held.Holding.{Holding}
use Rattle.lcm_laws.proofs.HoldingLaws.{map_get, range_get}
use Rattle.lcm_laws.proofs.Lists.{and_left, and_right, and_true, by_test}
use Rattle.lcm_laws.proofs.Members.{Rises, any_in, among_in, in_among, in_filter, in_front, in_map, in_range, of_filter, of_map}
use Rattle.lcm_laws.proofs.Members.{rises_filter, rises_map}
use Rattle.lcm_laws.proofs.PlanMembers.{in_defs_of, of_defs_of}
use Rattle.lcm_laws.proofs.PlanOrder.{Before, lead_less, lead_same, plan_rises}
use Rattle.lcm_model.specs.Descriptors.{IsValid}
use Rattle.lcm_model.specs.Instances.{inventory_of}
use Rattle.lcm_model.specs.Planned.{is_before, key}
use Rattle.lcm_model.specs.Plans.{Case, change, defs_of, leaving, links_removed, phase, plan, removed, removes_links, started, starts, stay}
use Rattle.lcm_model.specs.Plans.{stopped, stops}
use Rattle.lcm_model.specs.Vnfcs.{is_def_in, is_there, link_def, links, there, vdu_numbers}
use Rattle.lcm_model.specs.Words.{IsIn, is_among}
use Rattle.change_planner.specs.Inventories.{case_of}
use Rattle.change_planner.specs.Rolls.{CanBePlanned, changes_if, changes_where, is_link, is_running, is_stopped, leaves, roll_of, stays_by}
use Rattle.change_planner.specs.declared.rolls.Roll.{Roll}
use Rattle.change_planner.proofs.InventoryLaws.{of_any, said, says, says_runs}
use Rattle.change_planner.proofs.OrderLaws.{Sooner, before_once, def_key, items_in_order, leads, sooner_differs, unique}
use Rattle.change_planner.proofs.RollLaws.{IsOfVdu, item_there, known_item, machine_of}

-- no two changes stand before each other
never_both : (x y : Change) → Before x y → Before y x → ⊥
never_both x y a b = before_once (key x) (key y) a b

-- of two items of one kind, the changes with one verb stand in the order of the items
kept_order : (v : Verb) (x y : Def) → x.kind ≡ y.kind → is_before (def_key x) (def_key y) ≡ true → Before (change v x) (change v y)
kept_order v x y kinds e =
    lead_same (phase v x.kind) (phase v y.kind) (x.vdu ∷ x.serial ∷ x.item ∷ []) (y.vdu ∷ y.serial ∷ y.item ∷ []) (ap (phase v) kinds)
    (elim (leads x.vdu y.vdu (x.serial ∷ kind_number x.kind ∷ x.item ∷ []) (y.serial ∷ kind_number y.kind ∷ y.item ∷ []) e) [
      | inl less ↦ lead_less x.vdu y.vdu (x.serial ∷ x.item ∷ []) (y.serial ∷ y.item ∷ []) less
      | inr same ↦
          lead_same x.vdu y.vdu (x.serial ∷ x.item ∷ []) (y.serial ∷ y.item ∷ []) same.0
          (elim (leads x.serial y.serial (kind_number x.kind ∷ x.item ∷ []) (kind_number y.kind ∷ y.item ∷ []) same.1) [
            | inl less ↦ lead_less x.serial y.serial (x.item ∷ []) (y.item ∷ []) less
            | inr equal ↦ lead_same x.serial y.serial (x.item ∷ []) (y.item ∷ []) equal.0
                (by_item x y kinds (leads (kind_number x.kind) (kind_number y.kind) (x.item ∷ []) (y.item ∷ []) equal.1))
          ])
    ]) where
      by_item : (x y : Def) → x.kind ≡ y.kind → (kind_number x.kind < kind_number y.kind)
          ⊎ ((kind_number x.kind ≡ kind_number y.kind) × (is_before (x.item ∷ []) (y.item ∷ []) ≡ true))
          → is_before (x.item ∷ []) (y.item ∷ []) ≡ true
      by_item x y kinds (inl less) = let same : kind_number x.kind ≡ kind_number y.kind = ap kind_number kinds in
          absurd (omega (arith, less, same))
      by_item x y kinds (inr equal) = equal.1

-- the items that pass a test are of one kind
abbrev pub OfKind : DefKind → (Held → Bool) → Type 0
OfKind kind test = (y : Held) → test y ≡ true → y.def.kind ≡ kind

-- the changes at the items that pass a test are in order
pub where_rises : (v : Verb) (kind : DefKind) (test : Held → Bool) (ys : List Held) → OfKind kind test → Rises Sooner ys
    → Rises Before (changes_where v test ys)
where_rises v kind test ys kinds h =
    rises_map DefSooner Before (change v) (map (λ y. y.def) (filter test ys))
    (λ a b ha hb sooner. kept_order v a b (of_kind a ha ∙ sym (of_kind b hb)) sooner)
    (rises_map Sooner DefSooner (λ y. y.def) (filter test ys) (λ x y hx hy sooner. sooner) (rises_filter Sooner test ys h)) where
      DefSooner : Def → Def → Type 0
      DefSooner a b = is_before (def_key a) (def_key b) ≡ true

      of_kind : (a : Def) → IsIn a (map (λ y. y.def) (filter test ys)) → a.kind ≡ kind
      of_kind a k =
          let from = of_map (λ (y : Held). y.def) a (filter test ys) k in
          sym (ap (λ (x : Def). x.kind) from.2) ∙ kinds from.0 (of_filter test from.0 ys from.1).1

-- a change at an item that passes
abbrev pub AtItem : Verb → (Held → Bool) → List Held → Change → Type 0
AtItem v test ys c = (y : Held) × IsIn y ys × (test y ≡ true) × (change v y.def ≡ c)

pub where_from : (v : Verb) (test : Held → Bool) (ys : List Held) (c : Change) → IsIn c (changes_where v test ys) → AtItem v test ys c
where_from v test ys c k =
    let at = of_map (change v) c (map (λ y. y.def) (filter test ys)) k in
    let from = of_map (λ (y : Held). y.def) at.0 (filter test ys) at.1 in
    let own = of_filter test from.0 ys from.1 in
    (from.0, own.0, own.1, ap (change v) from.2 ∙ at.2)

pub where_has : (v : Verb) (test : Held → Bool) (ys : List Held) (y : Held) → IsIn y ys → test y ≡ true
    → IsIn (change v y.def) (changes_where v test ys)
where_has v test ys y k e = in_map (change v) y.def (map (λ y. y.def) (filter test ys))
    (in_map (λ (y : Held). y.def) y (filter test ys) (in_filter test y ys k e))

-- changes with a verb at definitions that items say, and at no others, are those of the items
same_changes : (v : Verb) (kind : DefKind) (test : Held → Bool) (ys : List Held) (ds : List Def) → OfKind kind test → Rises Sooner ys
    → Rises Before (map (change v) ds)
    → ((y : Held) → IsIn y ys → test y ≡ true → IsIn y.def ds) → ((x : Def) → IsIn x ds
    → (y : Held) × IsIn y ys × (test y ≡ true) × (y.def ≡ x))
    → changes_where v test ys ≡ map (change v) ds
same_changes v kind test ys ds kinds h rises f g =
    unique Before never_both (changes_where v test ys) (map (change v) ds) (where_rises v kind test ys kinds h) rises
    (λ c k.
    let at = where_from v test ys c k in
    subst (λ (z : Change). IsIn z (map (change v) ds)) at.3 (in_map (change v) at.0.def ds (f at.0 at.1 at.2)))
    (λ c k.
    let from = of_map (change v) c ds k in
    let item = g from.0 from.1 in
    subst (λ (z : Change). IsIn z (changes_where v test ys)) (ap (change v) item.3 ∙ from.2) (where_has v test ys item.0 item.1 item.2))

-- the parts of a plan are in order
front_rises : (xs ys : List Change) → Rises Before (xs ++ ys) → Rises Before xs
front_rises [] ys h = tt
front_rises (x ∷ xs) ys h = (λ z k. h.0 z (in_front z xs ys k), front_rises xs ys h.1)

back_rises : (xs ys : List Change) → Rises Before (xs ++ ys) → Rises Before ys
back_rises [] ys h = h
back_rises (x ∷ xs) ys h = back_rises xs ys h.1

pub record InOrder (p : Case) : Type 0 where
  pub started : Rises Before (map (change Start) (started p))
  pub stopped : Rises Before (map (change Stop) (stopped p))
  pub ports : Rises Before (removed p Port)
  pub computes : Rises Before (removed p Compute)
  pub storages : Rises Before (removed p Storage)
  pub links : Rises Before (map (change Remove) (links_removed p))

pub parts_rise : (p : Case) → IsValid p.vnfd → InOrder p
parts_rise p valid =
    let a : Rises Before (plan p) = plan_rises p valid in
    let b = front_rises _ (map (change Remove) (links_removed p)) a in
    let c = front_rises _ (removed p Storage) b in
    let d = front_rises _ (removed p Compute) c in
    let e = front_rises _ (removed p Port) d in
    let f = front_rises _ (map (change Stop) (stopped p)) e in
    record {
      started = back_rises _ (map (change Start) (started p)) f;
      stopped = back_rises _ (map (change Stop) (stopped p)) e;
      ports = back_rises _ (removed p Port) d;
      computes = back_rises _ (removed p Compute) c;
      storages = back_rises _ (removed p Storage) b;
      links = back_rises _ (map (change Remove) (links_removed p)) a;
    }

-- the rolls of a case
abbrev pub rolls_of : Case → List Roll
rolls_of p = map (roll_of p) (vdu_numbers p.vnfd)

-- the machine of an item stays where its serial does
pub stays_is : (p : Case) (y : Held) → y.def.vdu < length p.vnfd.vdus → stays_by (rolls_of p) y ≡ is_among (stay p y.def.vdu) y.def.serial
stays_is p y h =
    let same : 0 + y.def.vdu ≡ y.def.vdu = omega arith in
    let at : slice_get (rolls_of p) y.def.vdu ≡ Some (roll_of p (0 + y.def.vdu)) =
    map_get (roll_of p) (vdu_numbers p.vnfd) y.def.vdu (0 + y.def.vdu) (range_get 0 (length p.vnfd.vdus) y.def.vdu h) in
    ap (λ o. option_map_or (λ r. is_among r.staying y.def.serial) o false) at ∙ ap (λ n. is_among (stay p n) y.def.serial) same

-- of a definition there is one item
one_item : (ys : List Held) (x y : Held) → Rises Sooner ys → IsIn x ys → IsIn y ys → x.def ≡ y.def → x ≡ y
one_item [] x y h hx hy e = absurd hx
one_item (z ∷ ys) x y h (inl a) (inl b) e = sym a ∙ b
one_item (z ∷ ys) x y h (inl a) (inr b) e = absurd (sooner_differs z y (h.0 y b) (ap (λ (w : Held). w.def) a ∙ e))
one_item (z ∷ ys) x y h (inr a) (inl b) e = absurd (sooner_differs z x (h.0 x a) (ap (λ (w : Held). w.def) b ∙ sym e))
one_item (z ∷ ys) x y h (inr a) (inr b) e = one_item ys x y h.1 a b e

-- an item that doesn't run says that its compute doesn't
pub still : (ys : List Held) (y : Held) → Rises Sooner ys → IsIn y ys → not y.running ≡ true → says_runs ys y.def ≡ false
still ys y h k e = by_test (says_runs ys y.def)
    (λ runs.
    let from = of_any (λ (z : Held). same_def z.def y.def && z.running) ys runs in
    let same : from.0 ≡ y = one_item ys from.0 y h from.1 k (same_def-true from.0.def y.def (and_left _ _ from.2)) in
    let running : y.running ≡ true = subst (λ (z : Held). z.running ≡ true) same
    (and_right (same_def from.0.def y.def) from.0.running from.2) in
    let clash : not true ≡ true = subst (λ (b : Bool). not b ≡ true) running e in absurd cc)
    (λ none. none)

-- an item that runs says that its compute does
pub moves : (ys : List Held) (y : Held) → IsIn y ys → y.running ≡ true → says_runs ys y.def ≡ true
moves ys y k e = any_in (λ z. same_def z.def y.def && z.running) y ys k (and_true _ _ (same_def-refl y.def) e)

item_stands : (ys : List Held) (y : Held) → IsIn y ys → list_any (λ z. same_def z.def y.def) ys ≡ true
item_stands ys y k = said ys y.def (in_map (λ (z : Held). z.def) y ys k)

pub item_of : (ys : List Held) (x : Def) → list_any (λ y. same_def y.def x) ys ≡ true → (y : Held) × IsIn y ys × (y.def ≡ x)
item_of ys x e = let from = of_map (λ (y : Held). y.def) x ys (says ys x e) in (from.0, from.1, from.2)

not_link-by : (kind : DefKind) (y : Held) → same_kind kind Link ≡ false → same_kind y.def.kind kind ≡ true
    → same_kind y.def.kind Link ≡ false
not_link-by kind y other e = subst (λ (k : DefKind). same_kind k Link ≡ false) (sym (same_kind-true y.def.kind kind e)) other

-- the serial of an item's machine is there
pub serial_there : (d : Vnfd) (h : Holding) (y : Held) → IsOfVdu d h y → IsIn y h.items
    → IsIn y.def.serial (there d (inventory_of h) y.def.vdu)
serial_there d h y is k =
    let above = is.above in let low = is.low in
    in_filter (is_there d (inventory_of h) y.def.vdu) y.def.serial (range_with_len 1 ((inventory_of h).top y.def.vdu))
    (in_range y.def.serial 1 ((inventory_of h).top y.def.vdu) (omega (arith, above)) (omega (arith, low))) (item_there d h y is k)

-- what is removed of one kind
pub removed_is : (d : Vnfd) (h : Holding) (ask : Ask) (to : List ℕ) (kind : DefKind) → CanBePlanned d h to → same_kind kind Link ≡ false
    → Rises Before (removed (case_of d h ask to) kind)
    → changes_where Remove (leaves kind (rolls_of (case_of d h ask to))) h.items ≡ removed (case_of d h ask to) kind
removed_is d h ask to kind can other rises =
    let p = case_of d h ask to in
    same_changes Remove kind (leaves kind (rolls_of p)) h.items (filter p.held.stands (defs_of p kind (leaving p)))
    (λ y e. same_kind-true y.def.kind kind (and_left _ _ e)) (items_in_order d h can.held) rises
    (λ y k e.
    let is = machine_of d h y can.held k (not_link-by kind y other (and_left _ _ e)) in
    let gone : not (is_among (stay p y.def.vdu) y.def.serial) ≡ true =
    subst (λ (b : Bool). not b ≡ true) (stays_is p y is.vdu) (and_right (same_kind y.def.kind kind) _ e) in
    let serial : IsIn y.def.serial (leaving p y.def.vdu) = in_filter (λ s. not (is_among (stay p y.def.vdu) s)) y.def.serial
    (there d p.held y.def.vdu) (serial_there d h y is k) gone in
    in_filter p.held.stands y.def (defs_of p kind (leaving p))
    (in_defs_of p kind (leaving p) y.def (is.vdu, serial, is.among) (same_kind-true y.def.kind kind (and_left _ _ e)))
    (item_stands h.items y k))
    (λ x k.
    let own = of_filter p.held.stands x (defs_of p kind (leaving p)) k in
    let of = of_defs_of p kind (leaving p) x own.0 in
    let item = item_of h.items x own.1 in
    let serial = of_filter (λ s. not (is_among (stay p x.vdu) s)) x.serial (there d p.held x.vdu) of.1.1 in
    let same_is : same_kind x.kind kind ≡ true = subst (λ (j : DefKind). same_kind j kind ≡ true) (sym of.0) (same_kind-refl kind) in
    let vdu : item.0.def.vdu < length d.vdus = subst (λ (z : Def). z.vdu < length d.vdus) (sym item.2) of.1.0 in
    let gone : not (stays_by (rolls_of p) item.0) ≡ true =
    subst (λ (b : Bool). not b ≡ true) (sym (stays_is p item.0 vdu))
    (subst (λ (z : Def). not (is_among (stay p z.vdu) z.serial) ≡ true) (sym item.2) serial.1) in
    (item.0, item.1, and_true _ _ (subst (λ (z : Def). same_kind z.kind kind ≡ true) (sym item.2) same_is) gone, item.2))

-- what is started
pub started_is : (d : Vnfd) (h : Holding) (ask : Ask) (to : List ℕ) → CanBePlanned d h to
    → Rises Before (map (change Start) (started (case_of d h ask to)))
    → changes_if (starts ask) Start (is_stopped (rolls_of (case_of d h ask to))) h.items ≡ map (change Start) (started (case_of d h ask to))
started_is d h ask to can rises = by_test (starts ask)
    (λ asked. rw asked (all (rw asked at rises)))
    (λ none. rw none refl) where
      all : Rises Before (map (change Start) (filter (λ x. (case_of d h ask to).held.stands x && not ((case_of d h ask to).held.runs x))
          (defs_of (case_of d h ask to) Compute (stay (case_of d h ask to)))))
          → changes_where Start (is_stopped (rolls_of (case_of d h ask to))) h.items
          ≡ map (change Start) (filter (λ x. (case_of d h ask to).held.stands x && not ((case_of d h ask to).held.runs x))
          (defs_of (case_of d h ask to) Compute (stay (case_of d h ask to))))
      all rises =
          let p = case_of d h ask to in
          let test = λ (x : Def). p.held.stands x && not (p.held.runs x) in
          same_changes Start Compute (is_stopped (rolls_of p)) h.items (filter test (defs_of p Compute (stay p)))
          (λ y e. same_kind-true y.def.kind Compute (and_left _ _ (and_left _ _ e))) (items_in_order d h can.held) rises
          (λ y k e.
          let is = machine_of d h y can.held k (not_link-by Compute y refl (and_left _ _ (and_left _ _ e))) in
          let stays : is_among (stay p y.def.vdu) y.def.serial ≡ true =
          sym (stays_is p y is.vdu) ∙ and_right (same_kind y.def.kind Compute) _ (and_left _ _ e) in
          in_filter test y.def (defs_of p Compute (stay p))
          (in_defs_of p Compute (stay p) y.def (is.vdu, among_in (stay p y.def.vdu) y.def.serial stays, is.among)
          (same_kind-true y.def.kind Compute (and_left _ _ (and_left _ _ e))))
          (and_true _ _ (item_stands h.items y k) (ap not (still h.items y (items_in_order d h can.held) k
          (and_right (same_kind y.def.kind Compute && stays_by (rolls_of p) y) (not y.running) e)))))
          (λ x k.
          let own = of_filter test x (defs_of p Compute (stay p)) k in
          let of = of_defs_of p Compute (stay p) x own.0 in
          let item = item_of h.items x (and_left _ _ own.1) in
          let same_is : same_kind x.kind Compute ≡ true = subst (λ (j : DefKind). same_kind j Compute ≡ true) (sym of.0) refl in
          let vdu : item.0.def.vdu < length d.vdus = subst (λ (z : Def). z.vdu < length d.vdus) (sym item.2) of.1.0 in
          let stays : stays_by (rolls_of p) item.0 ≡ true =
          stays_is p item.0 vdu ∙ subst (λ (z : Def). is_among (stay p z.vdu) z.serial ≡ true) (sym item.2)
          (in_among (stay p x.vdu) x.serial of.1.1) in
          let rests : not item.0.running ≡ true = by_test item.0.running
          (λ running.
          let runs : says_runs h.items item.0.def ≡ true = moves h.items item.0 item.1 running in
          let moving : p.held.runs x ≡ true = subst (λ (z : Def). says_runs h.items z ≡ true) item.2 runs in
          let clash : not true ≡ true = subst (λ (b : Bool). not b ≡ true) moving (and_right (p.held.stands x) _ own.1) in absurd cc)
          (λ off. ap not off) in (
            item.0,
            item.1,
            and_true _ _ (and_true _ _ (subst (λ (z : Def). same_kind z.kind Compute ≡ true) (sym item.2) same_is) stays)
                rests,
            item.2,
          ))

-- what is stopped
pub stopped_is : (d : Vnfd) (h : Holding) (ask : Ask) (to : List ℕ) → CanBePlanned d h to
    → Rises Before (map (change Stop) (stopped (case_of d h ask to)))
    → changes_if (stops ask) Stop is_running h.items ≡ map (change Stop) (stopped (case_of d h ask to))
stopped_is d h ask to can rises = by_test (stops ask)
    (λ asked. rw asked (all (rw asked at rises)))
    (λ none. rw none refl) where
      all : Rises Before (map (change Stop) (filter (case_of d h ask to).held.runs
          (defs_of (case_of d h ask to) Compute (there d (inventory_of h)))))
          → changes_where Stop is_running h.items ≡ map (change Stop)
          (filter (case_of d h ask to).held.runs (defs_of (case_of d h ask to) Compute (there d (inventory_of h))))
      all rises =
          let p = case_of d h ask to in
          same_changes Stop Compute is_running h.items (filter p.held.runs (defs_of p Compute (there d p.held)))
          (λ y e. same_kind-true y.def.kind Compute (and_left (same_kind y.def.kind Compute) y.running e))
          (items_in_order d h can.held) rises
          (λ y k e.
          let is = machine_of d h y can.held k (not_link-by Compute y refl (and_left (same_kind y.def.kind Compute) y.running e)) in
          in_filter p.held.runs y.def (defs_of p Compute (there d p.held))
          (in_defs_of p Compute (there d p.held) y.def (is.vdu, serial_there d h y is k, is.among)
          (same_kind-true y.def.kind Compute (and_left (same_kind y.def.kind Compute) y.running e)))
          (moves h.items y k (and_right (same_kind y.def.kind Compute) y.running e)))
          (λ x k.
          let own = of_filter p.held.runs x (defs_of p Compute (there d p.held)) k in
          let of = of_defs_of p Compute (there d p.held) x own.0 in
          let from = of_any (λ (z : Held). same_def z.def x && z.running) h.items own.1 in
          let same : from.0.def ≡ x = same_def-true from.0.def x (and_left (same_def from.0.def x) from.0.running from.2) in
          let same_is : same_kind x.kind Compute ≡ true = subst (λ (j : DefKind). same_kind j Compute ≡ true) (sym of.0) refl in (
            from.0,
            from.1,
            and_true _ _ (subst (λ (z : Def). same_kind z.kind Compute ≡ true) (sym same) same_is)
                (and_right (same_def from.0.def x) from.0.running from.2),
            same,
          ))

pub link_known : (d : Vnfd) (kind : DefKind) (x : Def) → x.kind ≡ kind → same_kind kind Link ≡ true → is_def_in d kind x ≡ true
    → IsIn x (links d)
link_known d Link x is same e =
    let low = ltb-true x.item (length d.links) (and_left _ _ (and_left _ _ e)) in
    let own : link_def x.item ≡ x = sym (def_ext is refl (eqb-true x.vdu 65535 (and_right _ _ (and_left _ _ e)))
    (eqb-true x.serial 0 (and_right _ _ e))) in
    subst (λ (y : Def). IsIn y (links d)) own (in_map link_def x.item (range_with_len 0 (length d.links))
    (in_range x.item 0 (length d.links) (omega arith) (omega (arith, low))))
link_known d Storage x is same e = absurd cc
link_known d Compute x is same e = absurd cc
link_known d Port x is same e = absurd cc

-- the links that are removed
pub links_removed_is : (d : Vnfd) (h : Holding) (ask : Ask) (to : List ℕ) → CanBePlanned d h to
    → Rises Before (map (change Remove) (links_removed (case_of d h ask to)))
    → changes_if (removes_links ask) Remove is_link h.items ≡ map (change Remove) (links_removed (case_of d h ask to))
links_removed_is d h ask to can rises = by_test (removes_links ask)
    (λ asked. rw asked (all (rw asked at rises)))
    (λ none. rw none refl) where
      all : Rises Before (map (change Remove) (filter (inventory_of h).stands (links d)))
          → changes_where Remove is_link h.items ≡ map (change Remove) (filter (inventory_of h).stands (links d))
      all rises =
          same_changes Remove Link is_link h.items (filter (inventory_of h).stands (links d))
          (λ y e. same_kind-true y.def.kind Link e) (items_in_order d h can.held) rises
          (λ y k e.
          in_filter (inventory_of h).stands y.def (links d) (link_known d y.def.kind y.def refl e
          (and_left _ _ (known_item d h y can.held k))) (item_stands h.items y k))
          (λ x k.
          let own = of_filter (inventory_of h).stands x (links d) k in
          let from = of_map link_def x (range_with_len 0 (length d.links)) own.0 in
          let item = item_of h.items x own.1 in
          let kind : item.0.def.kind ≡ Link = ap (λ (z : Def). z.kind) item.2 ∙ sym (ap (λ (z : Def). z.kind) from.2) in
          (item.0, item.1, subst (λ (j : DefKind). same_kind j Link ≡ true) (sym kind) refl, item.2))
