-- A change is in the plan exactly where it is planned.
use Rattle.std.proofs.Common.{◌≡◌, ◌≤◌, ◌<◌, ◌+◌, ◌++◌, ◌&&◌, ℕ, List, true, not, refl, ap, sym, subst, length, map, filter, flat_map}
use Rattle.std.proofs.Common.{arith, ◌⊎◌, inl, inr, ◌↔◌, append_assoc}
use Rattle.std.specs.List.{range_with_len}
use Rattle.lcm_events.proofs.SameLaws.{change_ext}
use Rattle.lcm_events.specs.declared.changes.Change.{Change}
use Rattle.lcm_events.specs.declared.changes.Def.{Def}
use Rattle.lcm_events.specs.declared.changes.DefKind.{DefKind}
use Rattle.lcm_events.specs.declared.changes.DefKind.TheVariants.{Compute, Link, Port, Storage}
use Rattle.lcm_events.specs.declared.changes.Verb.{Verb}
use Rattle.lcm_events.specs.declared.changes.Verb.TheVariants.{Create, Remove, Start, Stop}
use Rattle.lcm_events.specs.declared.descriptor.Vnfd.{Vnfd}
use Rattle.lcm_model.specs.Words.{IsIn}
use Rattle.lcm_model.specs.Vnfcs.{all_defs, def_of, defs, items, link_def, links, there, vdu_numbers}
use Rattle.lcm_model.specs.Plans.{Case, change, defs_of, leaving, links_made, links_removed, made, makes_links, new, plan, removed}
use Rattle.lcm_model.specs.Plans.{removes_links, started, starts, stay, stopped, stops}
use Rattle.lcm_model.specs.Planned.{IsLink, IsOf, IsPlanned, IsPlannedBy}
use Rattle.lcm_laws.proofs.Lists.{and_left, and_right, and_true, not-false, not-true}
use Rattle.lcm_laws.proofs.Members.{in_back, in_either, in_filter, in_flat_map, in_front, in_if, in_map, in_range, of_filter, of_flat_map}
use Rattle.lcm_laws.proofs.Members.{of_if, of_map, of_range}

-- what the definitions of one kind of a machine have in common
pub of_defs : (d : Vnfd) (kind : DefKind) (v s : ℕ) (x : Def) → IsIn x (defs d kind v s) → (x.kind ≡ kind) × (x.vdu ≡ v) × (x.serial ≡ s)
of_defs d kind v s x h =
    let from = of_map (def_of kind v s) x (items d kind v) h in
    (sym (ap (λ (y : Def). y.kind) from.2), sym (ap (λ (y : Def). y.vdu) from.2), sym (ap (λ (y : Def). y.serial) from.2))

-- a definition of one kind is one of the machine's
pub in_all : (d : Vnfd) (kind : DefKind) (v s : ℕ) (x : Def) → IsIn x (defs d kind v s) → IsIn x (all_defs d v s)
in_all d Link v s x h = absurd h
in_all d Storage v s x h = in_front x (defs d Storage v s ++ defs d Compute v s) (defs d Port v s)
    (in_front x (defs d Storage v s) (defs d Compute v s) h)
in_all d Compute v s x h = in_front x (defs d Storage v s ++ defs d Compute v s) (defs d Port v s)
    (in_back x (defs d Storage v s) (defs d Compute v s) h)
in_all d Port v s x h = in_back x (defs d Storage v s ++ defs d Compute v s) (defs d Port v s) h

-- a kind of definition that a machine has
abbrev pub OfMachine : DefKind → Type 0
OfMachine kind = (kind ≡ Storage) ⊎ (kind ≡ Compute) ⊎ (kind ≡ Port)

-- a definition of a machine is of one of the three kinds, and among those of its kind
abbrev pub IsSorted : Vnfd → ℕ → ℕ → Def → Type 0
IsSorted d v s x = OfMachine x.kind × IsIn x (defs d x.kind v s)

own_kind : (d : Vnfd) (kind : DefKind) (v s : ℕ) (x : Def) → OfMachine kind → IsIn x (defs d kind v s) → IsSorted d v s x
own_kind d kind v s x machine h =
    let is : kind ≡ x.kind = sym (of_defs d kind v s x h).0 in
    (subst (λ (k : DefKind). OfMachine k) is machine, subst (λ (k : DefKind). IsIn x (defs d k v s)) is h)

pub of_all : (d : Vnfd) (v s : ℕ) (x : Def) → IsIn x (all_defs d v s) → IsSorted d v s x
of_all d v s x h = second (in_either x (defs d Storage v s ++ defs d Compute v s) (defs d Port v s) h) where
  first : IsIn x (defs d Storage v s) ⊎ IsIn x (defs d Compute v s) → IsSorted d v s x
  first (inl g) = own_kind d Storage v s x (inl refl) g
  first (inr g) = own_kind d Compute v s x (inr (inl refl)) g

  second : IsIn x (defs d Storage v s ++ defs d Compute v s) ⊎ IsIn x (defs d Port v s) → IsSorted d v s x
  second (inl g) = first (in_either x (defs d Storage v s) (defs d Compute v s) g)
  second (inr g) = own_kind d Port v s x (inr (inr refl)) g

-- the definitions of one kind of some machines
pub of_defs_of : (p : Case) (kind : DefKind) (serials : ℕ → List ℕ) (x : Def) → IsIn x (defs_of p kind serials)
    → (x.kind ≡ kind) × IsOf serials p x
of_defs_of p kind serials x h =
    let at = of_flat_map (λ v. flat_map (defs p.vnfd kind v) (serials v)) x (vdu_numbers p.vnfd) h in
    let machine = of_flat_map (defs p.vnfd kind at.0) x (serials at.0) at.2 in
    let same = of_defs p.vnfd kind at.0 machine.0 x machine.2 in
    let range = of_range at.0 0 (length p.vnfd.vdus) at.1 in
    let within : at.0 < length p.vnfd.vdus = omega (arith, range.1) in
    let all : IsIn x (all_defs p.vnfd at.0 machine.0) = in_all p.vnfd kind at.0 machine.0 x machine.2 in
    let of_serial : IsIn x (all_defs p.vnfd at.0 x.serial) = subst (λ (s : ℕ). IsIn x (all_defs p.vnfd at.0 s)) (sym same.2) all in
    let serial : IsIn x.serial (serials at.0) = subst (λ (s : ℕ). IsIn s (serials at.0)) (sym same.2) machine.1 in (
      same.0,
      (
        subst (λ (v : ℕ). v < length p.vnfd.vdus) (sym same.1) within,
        subst (λ (v : ℕ). IsIn x.serial (serials v)) (sym same.1) serial,
        subst (λ (v : ℕ). IsIn x (all_defs p.vnfd v x.serial)) (sym same.1) of_serial,
      ),
    )

pub in_defs_of : (p : Case) (kind : DefKind) (serials : ℕ → List ℕ) (x : Def) → IsOf serials p x → x.kind ≡ kind
    → IsIn x (defs_of p kind serials)
in_defs_of p kind serials x h is =
    let within : x.vdu < 0 + length p.vnfd.vdus = omega (arith, h.0) in
    let low : 0 ≤ x.vdu = omega arith in
    let own : IsIn x (defs p.vnfd kind x.vdu x.serial) =
    subst (λ (k : DefKind). IsIn x (defs p.vnfd k x.vdu x.serial)) is (of_all p.vnfd x.vdu x.serial x h.2).1 in
    in_flat_map (λ v. flat_map (defs p.vnfd kind v) (serials v)) x.vdu x (vdu_numbers p.vnfd)
    (in_range x.vdu 0 (length p.vnfd.vdus) low within)
    (in_flat_map (defs p.vnfd kind x.vdu) x.serial x (serials x.vdu) h.1 own)

-- the links
of_links : (p : Case) (x : Def) → IsIn x (links p.vnfd) → IsLink p x
of_links p x h =
    let from = of_map link_def x (range_with_len 0 (length p.vnfd.links)) h in
    let range = of_range from.0 0 (length p.vnfd.links) from.1 in
    let within : from.0 < length p.vnfd.links = omega (arith, range.1) in
    (from.0, within, sym from.2)

in_links : (p : Case) (x : Def) → IsLink p x → IsIn x (links p.vnfd)
in_links p x h =
    let low : 0 ≤ h.0 = omega arith in
    let within : h.0 < 0 + length p.vnfd.links = omega (arith, h.1) in
    subst (λ (y : Def). IsIn y (links p.vnfd)) (sym h.2) (in_map link_def h.0 (range_with_len 0 (length p.vnfd.links))
    (in_range h.0 0 (length p.vnfd.links) low within))

-- changes with one verb at some definitions are planned where the definitions are
all_planned : (p : Case) (v : Verb) (ds : List Def) (x : Change) → ((y : Def) → IsIn y ds → IsPlannedBy p v y) → IsIn x (map (change v) ds)
    → IsPlanned p x
all_planned p v ds x f h =
    let from = of_map (change v) x ds h in
    subst (λ (z : Change). IsPlanned p z) from.2 (refl, f from.0 from.1)

link_made : (p : Case) (y : Def) → IsIn y (links_made p) → IsPlannedBy p Create y
link_made p y h =
    let make = of_if y (makes_links p.ask) (filter (λ x. not (p.held.stands x)) (links p.vnfd)) h in
    let gone = of_filter (λ x. not (p.held.stands x)) y (links p.vnfd) make.1 in
    inr (make.0, of_links p y gone.0, not-true (p.held.stands y) gone.1)

made_planned : (p : Case) (kind : DefKind) (y : Def) → IsIn y (defs_of p kind (new p)) → IsPlannedBy p Create y
made_planned p kind y h = inl (of_defs_of p kind (new p) y h).1

started_planned : (p : Case) (y : Def) → IsIn y (started p) → IsPlannedBy p Start y
started_planned p y h =
    let start = of_if y (starts p.ask) (filter (λ x. p.held.stands x && not (p.held.runs x)) (defs_of p Compute (stay p))) h in
    let stopped = of_filter (λ x. p.held.stands x && not (p.held.runs x)) y (defs_of p Compute (stay p)) start.1 in
    let is = of_defs_of p Compute (stay p) y stopped.0 in (
      start.0,
      is.0,
      is.1,
      and_left (p.held.stands y) (not (p.held.runs y)) stopped.1,
      not-true (p.held.runs y) (and_right (p.held.stands y) (not (p.held.runs y)) stopped.1),
    )

stopped_planned : (p : Case) (y : Def) → IsIn y (stopped p) → IsPlannedBy p Stop y
stopped_planned p y h =
    let stop = of_if y (stops p.ask) (filter p.held.runs (defs_of p Compute (there p.vnfd p.held))) h in
    let runs = of_filter p.held.runs y (defs_of p Compute (there p.vnfd p.held)) stop.1 in
    let is = of_defs_of p Compute (there p.vnfd p.held) y runs.0 in
    (stop.0, is.0, is.1, runs.1)

removed_planned : (p : Case) (kind : DefKind) (y : Def) → IsIn y (filter p.held.stands (defs_of p kind (leaving p)))
    → IsPlannedBy p Remove y
removed_planned p kind y h =
    let stands = of_filter p.held.stands y (defs_of p kind (leaving p)) h in
    (stands.1, inl (of_defs_of p kind (leaving p) y stands.0).1)

link_removed : (p : Case) (y : Def) → IsIn y (links_removed p) → IsPlannedBy p Remove y
link_removed p y h =
    let remove = of_if y (removes_links p.ask) (filter p.held.stands (links p.vnfd)) h in
    let stands = of_filter p.held.stands y (links p.vnfd) remove.1 in
    (stands.1, inr (remove.0, of_links p y stands.0))

-- the rest of the plan, from its removals of links back to its storages
abbrev pub from_links : Case → List Change
from_links p = map (change Remove) (links_removed p)

abbrev pub from_storages : Case → List Change
from_storages p = removed p Storage ++ from_links p

abbrev pub from_computes : Case → List Change
from_computes p = removed p Compute ++ from_storages p

abbrev pub from_ports : Case → List Change
from_ports p = removed p Port ++ from_computes p

abbrev pub from_stops : Case → List Change
from_stops p = map (change Stop) (stopped p) ++ from_ports p

abbrev pub from_starts : Case → List Change
from_starts p = map (change Start) (started p) ++ from_stops p

abbrev pub from_new_ports : Case → List Change
from_new_ports p = made p Port ++ from_starts p

abbrev pub from_new_computes : Case → List Change
from_new_computes p = made p Compute ++ from_new_ports p

abbrev pub from_new_storages : Case → List Change
from_new_storages p = made p Storage ++ from_new_computes p

nested : {A : Type 0} → (a b c d e f g h i j : List A)
    → a ++ b ++ c ++ d ++ e ++ f ++ g ++ h ++ i ++ j ≡ a ++ (b ++ (c ++ (d ++ (e ++ (f ++ (g ++ (h ++ (i ++ j))))))))
nested a b c d e f g h i j = simp append_assoc

-- the plan, its groups nested to the right
abbrev pub from_start : Case → List Change
from_start p = map (change Create) (links_made p) ++ from_new_storages p

pub plan-nested : (p : Case) → plan p ≡ from_start p
plan-nested p =
    nested (map (change Create) (links_made p)) (made p Storage) (made p Compute) (made p Port) (map (change Start) (started p))
    (map (change Stop) (stopped p)) (removed p Port) (removed p Compute) (removed p Storage) (map (change Remove) (links_removed p))

either : {P : Type 0} → (x : Change) (xs ys : List Change) → (IsIn x xs → P) → (IsIn x ys → P) → IsIn x (xs ++ ys) → P
either x xs ys f g h = elim (in_either x xs ys h) [ inl k ↦ f k | inr k ↦ g k ]

-- what is in the plan is planned
in_groups-planned : (p : Case) (x : Change) → IsIn x (from_start p) → IsPlanned p x
in_groups-planned p x h =
    either x (map (change Create) (links_made p)) (from_new_storages p) (all_planned p Create (links_made p) x (link_made p))
    (either x (made p Storage) (from_new_computes p) (all_planned p Create (defs_of p Storage (new p)) x (made_planned p Storage))
    (either x (made p Compute) (from_new_ports p) (all_planned p Create (defs_of p Compute (new p)) x (made_planned p Compute))
    (either x (made p Port) (from_starts p) (all_planned p Create (defs_of p Port (new p)) x (made_planned p Port))
    (either x (map (change Start) (started p)) (from_stops p) (all_planned p Start (started p) x (started_planned p))
    (either x (map (change Stop) (stopped p)) (from_ports p) (all_planned p Stop (stopped p) x (stopped_planned p))
    (either x (removed p Port) (from_computes p) (all_planned p Remove (filter p.held.stands (defs_of p Port (leaving p))) x
    (removed_planned p Port))
    (either x (removed p Compute) (from_storages p) (all_planned p Remove (filter p.held.stands (defs_of p Compute (leaving p))) x
    (removed_planned p Compute))
    (either x (removed p Storage) (from_links p) (all_planned p Remove (filter p.held.stands (defs_of p Storage (leaving p))) x
    (removed_planned p Storage))
    (all_planned p Remove (links_removed p) x (link_removed p)))))))))) h

-- each group is in the plan
at_new_storages : (p : Case) (x : Change) → IsIn x (from_new_storages p) → IsIn x (from_start p)
at_new_storages p x h = in_back x (map (change Create) (links_made p)) (from_new_storages p) h

at_new_computes : (p : Case) (x : Change) → IsIn x (from_new_computes p) → IsIn x (from_start p)
at_new_computes p x h = at_new_storages p x (in_back x (made p Storage) (from_new_computes p) h)

at_new_ports : (p : Case) (x : Change) → IsIn x (from_new_ports p) → IsIn x (from_start p)
at_new_ports p x h = at_new_computes p x (in_back x (made p Compute) (from_new_ports p) h)

at_starts : (p : Case) (x : Change) → IsIn x (from_starts p) → IsIn x (from_start p)
at_starts p x h = at_new_ports p x (in_back x (made p Port) (from_starts p) h)

at_stops : (p : Case) (x : Change) → IsIn x (from_stops p) → IsIn x (from_start p)
at_stops p x h = at_starts p x (in_back x (map (change Start) (started p)) (from_stops p) h)

at_ports : (p : Case) (x : Change) → IsIn x (from_ports p) → IsIn x (from_start p)
at_ports p x h = at_stops p x (in_back x (map (change Stop) (stopped p)) (from_ports p) h)

at_computes : (p : Case) (x : Change) → IsIn x (from_computes p) → IsIn x (from_start p)
at_computes p x h = at_ports p x (in_back x (removed p Port) (from_computes p) h)

at_storages : (p : Case) (x : Change) → IsIn x (from_storages p) → IsIn x (from_start p)
at_storages p x h = at_computes p x (in_back x (removed p Compute) (from_storages p) h)

at_links : (p : Case) (x : Change) → IsIn x (from_links p) → IsIn x (from_start p)
at_links p x h = at_storages p x (in_back x (removed p Storage) (from_links p) h)

made_in_plan : (p : Case) (y : Def) → IsOf (new p) p y → OfMachine y.kind → IsIn (change Create y) (from_start p)
made_in_plan p y h (inl is) =
    at_new_storages p (change Create y) (in_front (change Create y) (made p Storage) (from_new_computes p)
    (in_map (change Create) y (defs_of p Storage (new p)) (in_defs_of p Storage (new p) y h is)))
made_in_plan p y h (inr (inl is)) =
    at_new_computes p (change Create y) (in_front (change Create y) (made p Compute) (from_new_ports p)
    (in_map (change Create) y (defs_of p Compute (new p)) (in_defs_of p Compute (new p) y h is)))
made_in_plan p y h (inr (inr is)) =
    at_new_ports p (change Create y) (in_front (change Create y) (made p Port) (from_starts p)
    (in_map (change Create) y (defs_of p Port (new p)) (in_defs_of p Port (new p) y h is)))

taken : (p : Case) (kind : DefKind) (y : Def) → p.held.stands y ≡ true → IsOf (leaving p) p y → y.kind ≡ kind
    → IsIn (change Remove y) (removed p kind)
taken p kind y stands h is =
    in_map (change Remove) y (filter p.held.stands (defs_of p kind (leaving p)))
    (in_filter p.held.stands y (defs_of p kind (leaving p)) (in_defs_of p kind (leaving p) y h is) stands)

removed_in_plan : (p : Case) (y : Def) → p.held.stands y ≡ true → IsOf (leaving p) p y → OfMachine y.kind
    → IsIn (change Remove y) (from_start p)
removed_in_plan p y stands h (inl is) = at_storages p (change Remove y)
    (in_front (change Remove y) (removed p Storage) (from_links p) (taken p Storage y stands h is))
removed_in_plan p y stands h (inr (inl is)) = at_computes p (change Remove y)
    (in_front (change Remove y) (removed p Compute) (from_storages p) (taken p Compute y stands h is))
removed_in_plan p y stands h (inr (inr is)) = at_ports p (change Remove y)
    (in_front (change Remove y) (removed p Port) (from_computes p) (taken p Port y stands h is))

-- what is planned is in the plan
planned_in : (p : Case) (v : Verb) (y : Def) → IsPlannedBy p v y → IsIn (change v y) (from_start p)
planned_in p Create y (inl h) = made_in_plan p y h (of_all p.vnfd y.vdu y.serial y h.2).0
planned_in p Create y (inr h) =
    in_front (change Create y) (map (change Create) (links_made p)) (from_new_storages p)
    (in_map (change Create) y (links_made p)
    (in_if y (makes_links p.ask) (filter (λ x. not (p.held.stands x)) (links p.vnfd)) h.0
    (in_filter (λ x. not (p.held.stands x)) y (links p.vnfd) (in_links p y h.1) (not-false (p.held.stands y) h.2))))
planned_in p Remove y h = elim h.1 [
  | inl g ↦ removed_in_plan p y h.0 g (of_all p.vnfd y.vdu y.serial y g.2).0
  | inr g ↦
      at_links p (change Remove y)
      (in_map (change Remove) y (links_removed p)
      (in_if y (removes_links p.ask) (filter p.held.stands (links p.vnfd)) g.0
      (in_filter p.held.stands y (links p.vnfd) (in_links p y g.1) h.0)))
]
planned_in p Start y h =
    at_starts p (change Start y) (in_front (change Start y) (map (change Start) (started p)) (from_stops p)
    (in_map (change Start) y (started p)
    (in_if y (starts p.ask) (filter (λ x. p.held.stands x && not (p.held.runs x)) (defs_of p Compute (stay p))) h.0
    (in_filter (λ x. p.held.stands x && not (p.held.runs x)) y (defs_of p Compute (stay p)) (in_defs_of p Compute (stay p) y h.2 h.1)
    (and_true (p.held.stands y) (not (p.held.runs y)) h.3 (not-false (p.held.runs y) h.4))))))
planned_in p Stop y h =
    at_stops p (change Stop y) (in_front (change Stop y) (map (change Stop) (stopped p)) (from_ports p)
    (in_map (change Stop) y (stopped p)
    (in_if y (stops p.ask) (filter p.held.runs (defs_of p Compute (there p.vnfd p.held))) h.0
    (in_filter p.held.runs y (defs_of p Compute (there p.vnfd p.held)) (in_defs_of p Compute (there p.vnfd p.held) y h.2 h.1) h.3))))

pub in_plan-planned : (p : Case) (x : Change) → IsIn x (plan p) → IsPlanned p x
in_plan-planned p x h = in_groups-planned p x (subst (λ (xs : List Change). IsIn x xs) (plan-nested p) h)

pub planned-in_plan : (p : Case) (x : Change) → IsPlanned p x → IsIn x (plan p)
planned-in_plan p x h =
    let is : change x.verb x.def ≡ x = change_ext (sym h.0) refl refl in
    subst (λ (z : Change). IsIn z (plan p)) is (subst (λ (xs : List Change). IsIn (change x.verb x.def) xs) (sym (plan-nested p))
    (planned_in p x.verb x.def h.1))

-- a change is in the plan exactly where it is planned
pub plan_exact : (p : Case) (x : Change) → IsIn x (plan p) ↔ IsPlanned p x
plan_exact p x = (in_plan-planned p x, planned-in_plan p x)
