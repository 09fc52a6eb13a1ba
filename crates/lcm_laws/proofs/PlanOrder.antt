-- A plan over a valid descriptor is sorted, so no two of its changes are equal.
use Rattle.std.proofs.Common.{◌≡◌, ◌≤◌, ◌<◌, ◌+◌, ◌++◌, ◌&&◌, ◌||◌, ◌==◌, ◌∙◌, ℕ, List, [], ◌∷◌, Bool, true, false, not, refl, ap, sym}
use Rattle.std.proofs.Common.{subst, length, map, filter, flat_map, arith, zero, suc, ◌⊎◌, inl, inr, ltb, lt-ltb, le-ltb, eq-eqb, slice_get}
use Rattle.std.specs.List.{enumerate_from, list_all, range_with_len}
use Rattle.std.specs.Option.{option_map_or}
use Rattle.lcm_events.specs.declared.asks.Ask.{Ask}
use Rattle.lcm_events.specs.declared.asks.Ask.TheVariants.{Heal, Instantiate, Operate, Scale, ScaleToLevel, Terminate}
use Rattle.lcm_events.specs.declared.changes.Change.{Change}
use Rattle.lcm_events.specs.declared.changes.Def.{Def}
use Rattle.lcm_events.specs.declared.changes.DefKind.{DefKind}
use Rattle.lcm_events.specs.declared.changes.DefKind.TheVariants.{Compute, Link, Port, Storage}
use Rattle.lcm_events.specs.declared.changes.Verb.{Verb}
use Rattle.lcm_events.specs.declared.changes.Verb.TheVariants.{Create, Remove, Start, Stop}
use Rattle.lcm_events.specs.declared.descriptor.Vdu.{Vdu}
use Rattle.lcm_events.specs.declared.descriptor.Vnfd.{Vnfd}
use Rattle.lcm_model.specs.Words.{IsIn, is_among}
use Rattle.lcm_model.specs.Vnfcs.{def_of, defs, is_there, is_whole, items, link_def, links, ports_of, there, vdu_numbers}
use Rattle.lcm_model.specs.Plans.{Case, change, defs_of, is_named, leaving, links_made, links_removed, made, makes_links, may_stay, new}
use Rattle.lcm_model.specs.Plans.{new_by, phase, plan, removed, removes_links, started, starts, stay, stay_by, stopped, stops, want}
use Rattle.lcm_model.specs.Planned.{AreInOrder, IsBeforeAll, is_before, key}
use Rattle.lcm_model.specs.Descriptors.{IsValid, is_valid_vdu}
use Rattle.lcm_laws.specs.Planning.{AreDistinct}
use Rattle.lcm_laws.proofs.Lists.{and_left, and_right, and_true, by_test}
use Rattle.lcm_laws.proofs.Members.{Less, Rises, in_either, of_filter, of_flat_map, of_if, of_map, rises_append, rises_filter}
use Rattle.lcm_laws.proofs.Members.{rises_flat_map, rises_if, rises_map, rises_range, rises_take, rising_rises}
use Rattle.lcm_laws.proofs.PlanMembers.{from_computes, from_links, from_new_computes, from_new_ports, from_new_storages, from_ports}
use Rattle.lcm_laws.proofs.PlanMembers.{from_start, from_starts, from_stops, from_storages, of_defs, of_defs_of, plan-nested}

-- the items of a kind rise
vdu_storages : (d : Vnfd) (u : Vdu) → is_valid_vdu d u ≡ true → Rises Less u.storages
vdu_storages d u h = rising_rises u.storages (and_right _ _ (and_left _ _ h))

storages_rise : (d : Vnfd) (us : List Vdu) (v : ℕ) → list_all (is_valid_vdu d) us ≡ true
    → Rises Less (option_map_or (λ u. u.storages) (slice_get us v) [])
storages_rise d [] v h = tt
storages_rise d (u ∷ us) zero h = vdu_storages d u (and_left (is_valid_vdu d u) (list_all (is_valid_vdu d) us) h)
storages_rise d (u ∷ us) (suc v) h = storages_rise d us v (and_right (is_valid_vdu d u) (list_all (is_valid_vdu d) us) h)

abbrev Placed : {A : Type 0} → ℕ × A → ℕ × A → Type 0
Placed a b = a.0 < b.0

places_from : {A : Type 0} → (k : ℕ) (xs : List A) (y : ℕ × A) → IsIn y (enumerate_from k xs) → k ≤ y.0
places_from k [] y h = absurd h
places_from {A} k (x ∷ xs) y (inl e) = let same : k ≡ y.0 = ap (λ (z : ℕ × A). z.0) e in omega (arith, same)
places_from k (x ∷ xs) y (inr h) = let more = places_from (k + 1) xs y h in omega (arith, more)

places_rise : {A : Type 0} → (k : ℕ) (xs : List A) → Rises Placed (enumerate_from k xs)
places_rise k [] = tt
places_rise k (x ∷ xs) = (λ y h. let more = places_from (k + 1) xs y h in omega (arith, more), places_rise (k + 1) xs)

ports_rise : (d : Vnfd) (v : ℕ) → Rises Less (ports_of d v)
ports_rise d v =
    rises_map Placed Less (λ x. x.0) (filter (λ x. x.1.vdu == v) (enumerate_from 0 d.ports)) (λ a b ha hb less. less)
    (rises_filter Placed (λ x. x.1.vdu == v) (enumerate_from 0 d.ports) (places_rise 0 d.ports))

pub items_rise : (d : Vnfd) (kind : DefKind) (v : ℕ) → IsValid d → Rises Less (items d kind v)
items_rise d Compute v valid = (λ y h. absurd h, tt)
items_rise d Storage v valid = storages_rise d d.vdus v valid.vdus
items_rise d Port v valid = ports_rise d v
items_rise d Link v valid = tt

-- of two definitions of one kind the first comes earlier: by VDU, serial and item
abbrev Earlier : Def → Def → Type 0
Earlier x y =
    (x.kind ≡ y.kind)
    × ((x.vdu < y.vdu) ⊎ ((x.vdu ≡ y.vdu) × ((x.serial < y.serial) ⊎ ((x.serial ≡ y.serial) × (x.item < y.item)))))

defs_rise : (d : Vnfd) (kind : DefKind) (v s : ℕ) → IsValid d → Rises Earlier (defs d kind v s)
defs_rise d kind v s valid =
    rises_map Less Earlier (def_of kind v s) (items d kind v) (λ a b ha hb less. (refl, inr (refl, inr (refl, less))))
    (items_rise d kind v valid)

by_serial : (d : Vnfd) (kind : DefKind) (v r s : ℕ) (x y : Def) → r < s → IsIn x (defs d kind v r) → IsIn y (defs d kind v s) → Earlier x y
by_serial d kind v r s x y less hx hy =
    let a = of_defs d kind v r x hx in
    let b = of_defs d kind v s y hy in
    (a.0 ∙ sym b.0, inr (a.1 ∙ sym b.1, inl (omega (arith, less, a.2, b.2))))

by_vdu : (d : Vnfd) (kind : DefKind) (serials : ℕ → List ℕ) (u v : ℕ) (x y : Def) → u < v
    → IsIn x (flat_map (defs d kind u) (serials u)) → IsIn y (flat_map (defs d kind v) (serials v)) → Earlier x y
by_vdu d kind serials u v x y less hx hy =
    let from_x = of_flat_map (defs d kind u) x (serials u) hx in
    let from_y = of_flat_map (defs d kind v) y (serials v) hy in
    let a = of_defs d kind u from_x.0 x from_x.2 in
    let b = of_defs d kind v from_y.0 y from_y.2 in
    (a.0 ∙ sym b.0, inl (omega (arith, less, a.1, b.1)))

machines_rise : (p : Case) (kind : DefKind) (serials : ℕ → List ℕ) → IsValid p.vnfd → ((v : ℕ) → Rises Less (serials v))
    → Rises Earlier (defs_of p kind serials)
machines_rise p kind serials valid h =
    rises_flat_map Less Earlier (λ v. flat_map (defs p.vnfd kind v) (serials v)) (vdu_numbers p.vnfd) (rises_range 0 (length p.vnfd.vdus))
    (λ v within.
    rises_flat_map Less Earlier (defs p.vnfd kind v) (serials v) (h v) (λ s in_serials. defs_rise p.vnfd kind v s valid)
    (λ r s x y less hx hy. by_serial p.vnfd kind v r s x y less hx hy))
    (λ u v x y less hx hy. by_vdu p.vnfd kind serials u v x y less hx hy)

links_rise : (p : Case) → Rises Earlier (links p.vnfd)
links_rise p =
    rises_map Less Earlier link_def (range_with_len 0 (length p.vnfd.links)) (λ a b ha hb less. (refl, inr (refl, inr (refl, less))))
    (rises_range 0 (length p.vnfd.links))

-- the serials of each set of machines rise
pub there_rises : (p : Case) (v : ℕ) → Rises Less (there p.vnfd p.held v)
there_rises p v = rises_filter Less (is_there p.vnfd p.held v) (range_with_len 1 (p.held.top v)) (rises_range 1 (p.held.top v))

pub may_stay_rises : (p : Case) (ask : Ask) (v : ℕ) → Rises Less (may_stay ask p v)
may_stay_rises p (Instantiate flavour level) v = tt
may_stay_rises p (Terminate mode timeout) v = tt
may_stay_rises p (Heal cause []) v = tt
may_stay_rises p (Heal cause (x ∷ named)) v =
    rises_filter Less (λ s. is_whole p.vnfd p.held v s && not (is_named (x ∷ named) v s)) (there p.vnfd p.held v) (there_rises p v)
may_stay_rises p (Scale way aspect steps) v = there_rises p v
may_stay_rises p (ScaleToLevel aim) v = there_rises p v
may_stay_rises p (Operate started stop) v = there_rises p v

stay_by_rises : (p : Case) (ask : Ask) (v : ℕ) → Rises Less (stay_by ask p v)
stay_by_rises p (Operate started stop) v = may_stay_rises p (Operate started stop) v
stay_by_rises p (Instantiate flavour level) v = rises_take Less (want p v) (may_stay (Instantiate flavour level) p v)
    (may_stay_rises p (Instantiate flavour level) v)
stay_by_rises p (Terminate mode timeout) v = rises_take Less (want p v) (may_stay (Terminate mode timeout) p v)
    (may_stay_rises p (Terminate mode timeout) v)
stay_by_rises p (Heal cause named) v = rises_take Less (want p v) (may_stay (Heal cause named) p v) (may_stay_rises p (Heal cause named) v)
stay_by_rises p (Scale way aspect steps) v = rises_take Less (want p v) (may_stay (Scale way aspect steps) p v)
    (may_stay_rises p (Scale way aspect steps) v)
stay_by_rises p (ScaleToLevel aim) v = rises_take Less (want p v) (may_stay (ScaleToLevel aim) p v) (may_stay_rises p (ScaleToLevel aim) v)

leaving_rises : (p : Case) (v : ℕ) → Rises Less (leaving p v)
leaving_rises p v = rises_filter Less (λ s. not (is_among (stay p v) s)) (there p.vnfd p.held v) (there_rises p v)

new_by_rises : (p : Case) (ask : Ask) (v : ℕ) → Rises Less (new_by ask p v)
new_by_rises p (Operate started stop) v = tt
new_by_rises p (Terminate mode timeout) v = tt
new_by_rises p _ v = rises_range _ _

-- the first change stands before the second
abbrev pub Before : Change → Change → Type 0
Before x y = is_before (key x) (key y) ≡ true

or_right : (a b : Bool) → b ≡ true → (a || b) ≡ true
or_right true b e = refl
or_right false b e = e

pub lead_less : (k n : ℕ) (ks ns : List ℕ) → k < n → is_before (k ∷ ks) (n ∷ ns) ≡ true
lead_less k n ks ns h = let e : ltb k n ≡ true = lt-ltb k n h in rw e refl

pub lead_same : (k n : ℕ) (ks ns : List ℕ) → k ≡ n → is_before ks ns ≡ true → is_before (k ∷ ks) (n ∷ ns) ≡ true
lead_same k n ks ns e h = or_right (ltb k n) ((k == n) && is_before ks ns) (and_true (k == n) (is_before ks ns) (eq-eqb k n e) h)

earlier_before : (verb : Verb) (x y : Def) → Earlier x y → Before (change verb x) (change verb y)
earlier_before verb x y h =
    lead_same (phase verb x.kind) (phase verb y.kind) (x.vdu ∷ x.serial ∷ x.item ∷ []) (y.vdu ∷ y.serial ∷ y.item ∷ [])
    (ap (phase verb) h.0)
    (elim h.1 [
      | inl less ↦ lead_less x.vdu y.vdu (x.serial ∷ x.item ∷ []) (y.serial ∷ y.item ∷ []) less
      | inr same ↦
          lead_same x.vdu y.vdu (x.serial ∷ x.item ∷ []) (y.serial ∷ y.item ∷ []) same.0
          (elim same.1 [
            | inl less ↦ lead_less x.serial y.serial (x.item ∷ []) (y.item ∷ []) less
            | inr equal ↦ lead_same x.serial y.serial (x.item ∷ []) (y.item ∷ []) equal.0 (lead_less x.item y.item [] [] equal.1)
          ])
    ])

-- all changes have this phase, or at least this one
abbrev PhaseIs : ℕ → List Change → Type 0
PhaseIs n xs = (x : Change) → IsIn x xs → x.phase ≡ n

abbrev PhaseFrom : ℕ → List Change → Type 0
PhaseFrom n xs = (x : Change) → IsIn x xs → n ≤ x.phase

-- changes in order, of phases from this one on
abbrev Ordered : ℕ → List Change → Type 0
Ordered n xs = Rises Before xs × PhaseFrom n xs

-- changes in order, of this phase
abbrev Group : ℕ → List Change → Type 0
Group n xs = Rises Before xs × PhaseIs n xs

phase_either : (n k : ℕ) (xs ys : List Change) → n < k → PhaseIs n xs → PhaseFrom k ys → (x : Change) → IsIn x xs ⊎ IsIn x ys → n ≤ x.phase
phase_either n k xs ys less here later x (inl h) = let e = here x h in omega (arith, e)
phase_either n k xs ys less here later x (inr h) = let e = later x h in omega (arith, e, less)

join : (n k : ℕ) (xs ys : List Change) → n < k → Group n xs → Ordered k ys → Ordered n (xs ++ ys)
join n k xs ys less here later = (
  rises_append Before xs ys here.0 later.0 (λ x y hx hy.
      let a = here.1 x hx in let b = later.1 y hy in
      let first : x.phase < y.phase = omega (arith, a, b, less) in
      lead_less x.phase y.phase (x.def.vdu ∷ x.def.serial ∷ x.def.item ∷ []) (y.def.vdu ∷ y.def.serial ∷ y.def.item ∷ []) first),
  λ x h. phase_either n k xs ys less here.1 later.1 x (in_either x xs ys h),
)

last_group : (n : ℕ) (xs : List Change) → Group n xs → Ordered n xs
last_group n xs h = (h.0, λ x within. let e = h.1 x within in omega (arith, e))

-- the changes with one verb at definitions of one kind in order are a group
group : (verb : Verb) (kind : DefKind) (n : ℕ) (ds : List Def) → phase verb kind ≡ n → Rises Earlier ds
    → ((x : Def) → IsIn x ds → x.kind ≡ kind)
    → Group n (map (change verb) ds)
group verb kind n ds is h kinds = (
  rises_map Earlier Before (change verb) ds (λ x y hx hy earlier. earlier_before verb x y earlier) h,
  λ x within.
      let from = of_map (change verb) x ds within in
      sym (ap (λ (c : Change). c.phase) from.2) ∙ (ap (phase verb) (kinds from.0 from.1) ∙ is),
)

link_kind : (p : Case) (x : Def) → IsIn x (links p.vnfd) → x.kind ≡ Link
link_kind p x h = let from = of_map link_def x (range_with_len 0 (length p.vnfd.links)) h in sym (ap (λ (d : Def). d.kind) from.2)

made_group : (p : Case) (kind : DefKind) (n : ℕ) → IsValid p.vnfd → phase Create kind ≡ n → Group n (made p kind)
made_group p kind n valid is =
    group Create kind n (defs_of p kind (new p)) is (machines_rise p kind (new p) valid (λ v. new_by_rises p p.ask v))
    (λ x h. (of_defs_of p kind (new p) x h).0)

removed_group : (p : Case) (kind : DefKind) (n : ℕ) → IsValid p.vnfd → phase Remove kind ≡ n → Group n (removed p kind)
removed_group p kind n valid is =
    group Remove kind n (filter p.held.stands (defs_of p kind (leaving p))) is
    (rises_filter Earlier p.held.stands (defs_of p kind (leaving p)) (machines_rise p kind (leaving p) valid (leaving_rises p)))
    (λ x h. (of_defs_of p kind (leaving p) x (of_filter p.held.stands x (defs_of p kind (leaving p)) h).0).0)

links_made_group : (p : Case) → Group 0 (map (change Create) (links_made p))
links_made_group p =
    group Create Link 0 (links_made p) refl
    (rises_if Earlier (makes_links p.ask) _ (rises_filter Earlier (λ x. not (p.held.stands x)) (links p.vnfd) (links_rise p)))
    (λ x h. link_kind p x (of_filter (λ x. not (p.held.stands x)) x (links p.vnfd)
    (of_if x (makes_links p.ask) (filter (λ x. not (p.held.stands x)) (links p.vnfd)) h).1).0)

links_removed_group : (p : Case) → Group 8 (map (change Remove) (links_removed p))
links_removed_group p =
    group Remove Link 8 (links_removed p) refl
    (rises_if Earlier (removes_links p.ask) _ (rises_filter Earlier p.held.stands (links p.vnfd) (links_rise p)))
    (λ x h. link_kind p x (of_filter p.held.stands x (links p.vnfd)
    (of_if x (removes_links p.ask) (filter p.held.stands (links p.vnfd)) h).1).0)

started_group : (p : Case) → IsValid p.vnfd → Group 4 (map (change Start) (started p))
started_group p valid =
    group Start Compute 4 (started p) refl
    (rises_if Earlier (starts p.ask) _
    (rises_filter Earlier (λ x. p.held.stands x && not (p.held.runs x)) (defs_of p Compute (stay p))
    (machines_rise p Compute (stay p) valid (stay_by_rises p p.ask))))
    (λ x h. (of_defs_of p Compute (stay p) x (of_filter (λ x. p.held.stands x && not (p.held.runs x)) x (defs_of p Compute (stay p))
    (of_if x (starts p.ask) (filter (λ x. p.held.stands x && not (p.held.runs x)) (defs_of p Compute (stay p))) h).1).0).0)

stopped_group : (p : Case) → IsValid p.vnfd → Group 4 (map (change Stop) (stopped p))
stopped_group p valid =
    group Stop Compute 4 (stopped p) refl
    (rises_if Earlier (stops p.ask) _
    (rises_filter Earlier p.held.runs (defs_of p Compute (there p.vnfd p.held))
    (machines_rise p Compute (there p.vnfd p.held) valid (there_rises p))))
    (λ x h. (of_defs_of p Compute (there p.vnfd p.held) x (of_filter p.held.runs x (defs_of p Compute (there p.vnfd p.held))
    (of_if x (stops p.ask) (filter p.held.runs (defs_of p Compute (there p.vnfd p.held))) h).1).0).0)

ports_ordered : (p : Case) → IsValid p.vnfd → Ordered 5 (from_ports p)
ports_ordered p valid =
    let links : Ordered 8 (from_links p) = last_group 8 (from_links p) (links_removed_group p) in
    let storages : Ordered 7 (from_storages p) = join 7 8 (removed p Storage) (from_links p) (omega arith)
    (removed_group p Storage 7 valid refl) links in
    let computes : Ordered 6 (from_computes p) = join 6 7 (removed p Compute) (from_storages p) (omega arith)
    (removed_group p Compute 6 valid refl) storages in
    join 5 6 (removed p Port) (from_computes p) (omega arith) (removed_group p Port 5 valid refl) computes

-- no ask both starts and stops
pub one_way : (ask : Ask) → starts ask ≡ true → stops ask ≡ false
one_way (Heal cause named) e = refl
one_way (Operate started stop) e = rw e refl
one_way (Instantiate flavour level) e = refl
one_way (Scale way aspect steps) e = refl
one_way (ScaleToLevel aim) e = refl
one_way (Terminate mode timeout) e = cc

starts_ordered : (p : Case) → IsValid p.vnfd → Ordered 4 (from_starts p)
starts_ordered p valid = by_test (starts p.ask)
    (λ start.
    let none : stopped p ≡ [] = rw (one_way p.ask start) refl in
    let stops : Ordered 5 (from_stops p) =
    subst (λ (ds : List Def). Ordered 5 (map (change Stop) ds ++ from_ports p)) (sym none) (ports_ordered p valid) in
    join 4 5 (map (change Start) (started p)) (from_stops p) (omega arith) (started_group p valid) stops)
    (λ still.
    let none : started p ≡ [] = rw still refl in
    let stops : Ordered 4 (from_stops p) = join 4 5 (map (change Stop) (stopped p)) (from_ports p) (omega arith) (stopped_group p valid)
    (ports_ordered p valid) in
    subst (λ (ds : List Def). Ordered 4 (map (change Start) ds ++ from_stops p)) (sym none) stops)

groups_ordered : (p : Case) → IsValid p.vnfd → Ordered 0 (from_start p)
groups_ordered p valid =
    let ports : Ordered 3 (from_new_ports p) = join 3 4 (made p Port) (from_starts p) (omega arith) (made_group p Port 3 valid refl)
    (starts_ordered p valid) in
    let computes : Ordered 2 (from_new_computes p) = join 2 3 (made p Compute) (from_new_ports p) (omega arith)
    (made_group p Compute 2 valid refl) ports in
    let storages : Ordered 1 (from_new_storages p) = join 1 2 (made p Storage) (from_new_computes p) (omega arith)
    (made_group p Storage 1 valid refl) computes in
    join 0 1 (map (change Create) (links_made p)) (from_new_storages p) (omega arith) (links_made_group p) storages

pub plan_rises : (p : Case) → IsValid p.vnfd → Rises Before (plan p)
plan_rises p valid = subst (λ (xs : List Change). Rises Before xs) (sym (plan-nested p)) (groups_ordered p valid).0

before_all : (x : Change) (ys : List Change) → ((y : Change) → IsIn y ys → Before x y) → IsBeforeAll x ys
before_all x [] f = tt
before_all x (y ∷ ys) f = (f y (inl refl), before_all x ys (λ z h. f z (inr h)))

rises-in_order : (xs : List Change) → Rises Before xs → AreInOrder xs
rises-in_order [] h = tt
rises-in_order (x ∷ xs) h = (before_all x xs h.0, rises-in_order xs h.1)

-- the plan over a valid descriptor is sorted
pub plan_sorted : (p : Case) → IsValid p.vnfd → AreInOrder (plan p)
plan_sorted p valid = rises-in_order (plan p) (plan_rises p valid)

pub not_before : (ks : List ℕ) → is_before ks ks ≡ true → ⊥
not_before [] e = cc
not_before (k ∷ ks) e =
    let not_less : ltb k k ≡ false = le-ltb k k (omega arith) in
    let rest : ((k == k) && is_before ks ks) ≡ true = subst (λ (b : Bool). (b || ((k == k) && is_before ks ks)) ≡ true) not_less e in
    not_before ks (and_right (k == k) (is_before ks ks) rest)

rises-distinct : (xs : List Change) → Rises Before xs → AreDistinct xs
rises-distinct [] h = tt
rises-distinct (x ∷ xs) h = (λ again. not_before (key x) (h.0 x again), rises-distinct xs h.1)

-- no two changes of the plan over a valid descriptor are equal
pub plan_distinct : (p : Case) → IsValid p.vnfd → AreDistinct (plan p)
plan_distinct p valid = rises-distinct (plan p) (plan_rises p valid)
