-- What stands is on what stands, while the changes of an operation are made and undone.
use Rattle.std.proofs.Common.{◌≡◌, ◌≤◌, ◌<◌, ◌∙◌, ℕ, List, [], ◌∷◌, true, false, Option, None, Some, refl, ap, sym, subst, length, arith}
use Rattle.std.proofs.Common.{suc, zero, inl, inr, ◌⊎◌, ltb, ltb-true, lt-ltb, slice_get}
use Rattle.std.specs.List.{range_with_len}
use Rattle.std.specs.Option.{option_map_or}
use Rattle.lcm_events.specs.Same.{kind_number}
use Rattle.lcm_events.specs.declared.asks.Ask.{Ask}
use Rattle.lcm_events.specs.declared.asks.Ask.TheVariants.{Heal, Instantiate, Operate, Scale, ScaleToLevel, Terminate}
use Rattle.lcm_events.specs.declared.attempts.Tag.{Tag}
use Rattle.lcm_events.specs.declared.attempts.Way.{Way}
use Rattle.lcm_events.specs.declared.attempts.Way.TheVariants.{Forward, Undo}
use Rattle.lcm_events.specs.declared.changes.Change.{Change}
use Rattle.lcm_events.specs.declared.changes.Def.{Def}
use Rattle.lcm_events.specs.declared.changes.DefKind.{DefKind}
use Rattle.lcm_events.specs.declared.changes.DefKind.TheVariants.{Compute, Link, Port, Storage}
use Rattle.lcm_events.specs.declared.changes.Verb.{Verb}
use Rattle.lcm_events.specs.declared.changes.Verb.TheVariants.{Create, Remove, Start, Stop}
use Rattle.lcm_events.specs.declared.descriptor.Vnfd.{Vnfd}
use Rattle.lcm_events.specs.declared.events.Event.{Event}
use Rattle.lcm_events.specs.declared.events.Operation.{Operation}
use Rattle.lcm_model.specs.Words.{IsIn}
use Rattle.lcm_model.specs.Attempts.{net}
use Rattle.lcm_model.specs.Operations.{operation, verb_done}
use Rattle.lcm_model.specs.Holding.{stands}
use Rattle.lcm_model.specs.Vnfcs.{all_defs, compute_def, defs, is_def_in, items, link_def, links}
use Rattle.lcm_model.specs.Needs.{made_on, needs, port_links}
use Rattle.lcm_model.specs.Plans.{Case, change, leaving, makes_links, new, removes_links}
use Rattle.lcm_model.specs.Planned.{IsLink, IsPlannedBy}
use Rattle.lcm_model.specs.Descriptors.{IsValid, is_valid_port}
use Rattle.lcm_model.specs.Refusals.{is_terminate}
use Rattle.lcm_model.specs.Work.{all_through, net_before}
use Rattle.lcm_laws.proofs.Lists.{and_left, and_right, by_test}
use Rattle.lcm_laws.proofs.Members.{among_in, get_in, in_map, of_map, of_range}
use Rattle.lcm_laws.proofs.AskLaws.{item_in, nothing_new, planned_get, what_stands_removed}
use Rattle.lcm_laws.proofs.BoundLaws.{vdu_in}
use Rattle.lcm_laws.proofs.GrantLaws.{all_get}
use Rattle.lcm_laws.proofs.NeedLaws.{IsPlannedOver, Rooted, Tracks, by_verb, making_phase, one_number, one_zero, power_first, removal_phase}
use Rattle.lcm_laws.proofs.OrderLaws.{Ordered, through_net}
use Rattle.lcm_laws.proofs.PlanMembers.{OfMachine, in_all, of_all, of_defs}

-- each net of an occurrence is at most 1
abbrev pub NetsSmall : List Event → ℕ → Type 0
NetsSmall H o = (c : ℕ) → net H o c ≤ 1

net_one : (n : ℕ) → n ≤ 1 → (n ≡ 0 → ⊥) → n ≡ 1
net_one zero h f = absurd (f refl)
net_one (suc n) h f = omega (arith, h)

kind_small : (kind : DefKind) → kind_number kind ≤ 3
kind_small Link = omega arith
kind_small Storage = omega arith
kind_small Compute = omega arith
kind_small Port = omega arith

machine_in : (d : Vnfd) (kind : DefKind) (x : Def) → x.kind ≡ kind → (kind ≡ Link → ⊥) → is_def_in d kind x ≡ true
    → (x.vdu < length d.vdus) × IsIn x (all_defs d x.vdu x.serial)
machine_in d Link x is f h = absurd (f refl)
machine_in d Storage x is f h = (
  ltb-true x.vdu (length d.vdus) (and_left _ _ (and_left _ _ h)),
  in_all d Storage x.vdu x.serial x (item_in d Storage x is (among_in (items d Storage x.vdu) x.item (and_right _ _ (and_left _ _ h)))),
)
machine_in d Compute x is f h = (
  ltb-true x.vdu (length d.vdus) (and_left _ _ (and_left _ _ h)),
  in_all d Compute x.vdu x.serial x (item_in d Compute x is (among_in (items d Compute x.vdu) x.item (and_right _ _ (and_left _ _ h)))),
)
machine_in d Port x is f h = (
  ltb-true x.vdu (length d.vdus) (and_left _ _ (and_left _ _ h)),
  in_all d Port x.vdu x.serial x (item_in d Port x is (among_in (items d Port x.vdu) x.item (and_right _ _ (and_left _ _ h)))),
)

-- a definition of the same machine, of a kind that is made before
record IsBeside (d : Vnfd) (x y : Def) : Type 0 where
  vdu : y.vdu ≡ x.vdu
  serial : y.serial ≡ x.serial
  among : IsIn y (all_defs d y.vdu y.serial)
  lower : kind_number y.kind < kind_number x.kind
  machine : y.kind ≡ Link → ⊥

no_link : (d : Vnfd) (x y : Def) → IsBeside d x y → x.kind ≡ Link → ⊥
no_link d x y b e = let zero_kind : kind_number x.kind ≡ 0 = ap kind_number e in let less = b.lower in
    absurd (omega (arith, zero_kind, less))

link_kind : (p : Case) (y : Def) → IsLink p y → y.kind ≡ Link
link_kind p y h = ap (λ (z : Def). z.kind) h.2

removed_with : (p : Case) (x y : Def) → IsBeside p.vnfd x y → p.held.stands x ≡ true
    → (x.vdu < length p.vnfd.vdus) × IsIn x (all_defs p.vnfd x.vdu x.serial)
    → IsPlannedBy p Remove y → IsPlannedBy p Remove x
removed_with p x y b s own h = elim h.1 [
  | inl g ↦
      (let here : IsIn x.serial (leaving p y.vdu) = subst (λ (n : ℕ). IsIn n (leaving p y.vdu)) b.serial g.1 in
      (s, inl (own.0, subst (λ (v : ℕ). IsIn x.serial (leaving p v)) b.vdu here, own.1)))
  | inr g ↦ absurd (b.machine (link_kind p y g.1))
]

made_with : (p : Case) (x y : Def) → IsBeside p.vnfd x y → IsPlannedBy p Create x → IsPlannedBy p Create y
made_with p x y b (inl g) =
    let here : IsIn y.serial (new p x.vdu) = subst (λ (n : ℕ). IsIn n (new p x.vdu)) (sym b.serial) g.1 in
    inl (subst (λ (v : ℕ). v < length p.vnfd.vdus) (sym b.vdu) g.0, subst (λ (v : ℕ). IsIn y.serial (new p v)) (sym b.vdu) here, b.among)
made_with p x y b (inr g) = absurd (no_link p.vnfd x y b (link_kind p x g.1))

planned_at : (p : Case) (a : Operation) (c : ℕ) (k : Change) (x : Def) (v : Verb) → IsPlannedOver p a → slice_get a.changes c ≡ Some k
    → k.verb ≡ v → k.def ≡ x → IsPlannedBy p v x
planned_at p a c k x v h ec verb def = subst (λ (y : Def). IsPlannedBy p v y) def (by_verb p a c k v h ec verb).1

-- what is removed later still stands
later_stays : (H : List Event) (i o : ℕ) (a : Operation) (p : Case) (x y : Def) → IsPlannedOver p a → Tracks H i o a p.held.stands
    → Ordered H o a
    → stands H i x ≡ true → kind_number y.kind < kind_number x.kind → (IsPlannedBy p Remove y → IsPlannedBy p Remove x)
    → p.held.stands y ≡ true → stands H i y ≡ true
later_stays H i o a p x y h t ord s lower with_it sy =
    t.stay y sy (λ c k ec def remove.
    let gone : IsPlannedBy p Remove x = with_it (planned_at p a c k y Remove h ec remove def) in
    let found = planned_get p Remove x a.changes h.planned gone in
    let none : net H o found.0 ≡ 0 = t.kept x s found.0 (change Remove x) found.1 refl refl in
    let last = removal_phase p a c k y.kind h ec remove (ap (λ (z : Def). z.kind) def) in
    let small = kind_small x.kind in
    ord.unmade found.0 c (change Remove x) k found.1 ec (omega (arith, last, lower, small)) none)

-- what was made before stands
made_first : (H : List Event) (i o : ℕ) (a : Operation) (p : Case) (x y : Def) (b : ℕ) (k : Change) → IsPlannedOver p a
    → Tracks H i o a p.held.stands → Ordered H o a → NetsSmall H o
    → slice_get a.changes b ≡ Some k → k.def ≡ x → k.verb ≡ Create → net H o b ≡ 1 → kind_number y.kind < kind_number x.kind
    → IsPlannedBy p Create y → stands H i y ≡ true
made_first H i o a p x y b k h t ord nets eb def make one lower planned =
    let found = planned_get p Create y a.changes h.planned planned in
    let last = making_phase p a b k x.kind h eb make (ap (λ (z : Def). z.kind) def) in
    let made : net H o found.0 ≡ 1 = net_one (net H o found.0) (nets found.0) (λ none.
    let zero_too : net H o b ≡ 0 = ord.unmade found.0 b (change Create y) k found.1 eb (omega (arith, last, lower)) none in
    one_zero (net H o b) one zero_too) in
    t.made y (found.0, change Create y, found.1, refl, refl, made)

beside : (H : List Event) (i o : ℕ) (a : Operation) (p : Case) (x y : Def) → IsPlannedOver p a → Tracks H i o a p.held.stands
    → Ordered H o a → NetsSmall H o
    → IsBeside p.vnfd x y → (p.held.stands x ≡ true → p.held.stands y ≡ true) → stands H i x ≡ true → stands H i y ≡ true
beside H i o a p x y h t ord nets b f s = elim (t.came x s) [
  | inl sx ↦
      later_stays H i o a p x y h t ord s b.lower
      (λ gone. removed_with p x y b sx (machine_in p.vnfd x.kind x refl (no_link p.vnfd x y b) (h.own x sx)) gone) (f sx)
  | inr has ↦
      made_first H i o a p x y has.0 has.1 h t ord nets has.2 has.3 has.4 has.5 b.lower
      (made_with p x y b (planned_at p a has.0 has.1 x Create h has.2 has.4 has.3))
]

-- links
removes_terminate : (ask : Ask) → removes_links ask ≡ true → is_terminate ask ≡ true
removes_terminate (Terminate mode timeout) e = refl
removes_terminate (Instantiate flavour level) e = cc
removes_terminate (Scale way aspect steps) e = cc
removes_terminate (ScaleToLevel aim) e = cc
removes_terminate (Heal cause named) e = cc
removes_terminate (Operate started stop) e = cc

of_link : (d : Vnfd) (y : Def) → IsIn y (links d) → (n : ℕ) × (n < length d.links) × (y ≡ link_def n)
of_link d y h =
    let from = of_map link_def y (range_with_len 0 (length d.links)) h in
    let range = (of_range from.0 0 (length d.links) from.1).1 in
    (from.0, omega (arith, range), sym from.2)

link_number : (d : Vnfd) (y : Def) → IsIn y (links d) → kind_number y.kind ≡ 0
link_number d y h = ap (λ (z : Def). kind_number z.kind) (of_link d y h).2

machine_number : (kind : DefKind) → OfMachine kind → kind_number kind ≡ 0 → ⊥
machine_number kind (inl e) f = let one = ap kind_number e in absurd (omega (arith, one, f))
machine_number kind (inr (inl e)) f = let two = ap kind_number e in absurd (omega (arith, two, f))
machine_number kind (inr (inr e)) f = let three = ap kind_number e in absurd (omega (arith, three, f))

-- only a TERMINATE removes links
link_removal : (p : Case) (y : Def) → IsIn y (links p.vnfd) → IsPlannedBy p Remove y → is_terminate p.ask ≡ true
link_removal p y among h = elim h.1 [
  | inl g ↦ absurd (machine_number y.kind (of_all p.vnfd y.vdu y.serial y g.2).0 (link_number p.vnfd y among))
  | inr g ↦ removes_terminate p.ask g.0
]

-- a link that stood stays, where the plan makes machines
link_kept : (H : List Event) (i o : ℕ) (a : Operation) (p : Case) (y : Def) (v s : ℕ) → IsPlannedOver p a → Tracks H i o a p.held.stands
    → IsIn s (new p v) → IsIn y (links p.vnfd)
    → p.held.stands y ≡ true → stands H i y ≡ true
link_kept H i o a p y v s h t made among sy =
    t.stay y sy (λ c k ec def remove.
    absurd (nothing_new p v s p.ask (link_removal p y among (planned_at p a c k y Remove h ec remove def)) made))

-- a link is made where it didn't stand
link_planned : (p : Case) (y : Def) → makes_links p.ask ≡ true → IsIn y (links p.vnfd) → p.held.stands y ≡ false → IsPlannedBy p Create y
link_planned p y e among none = inr (e, of_link p.vnfd y among, none)

new_of : (p : Case) (x : Def) → (x.kind ≡ Link → ⊥) → IsPlannedBy p Create x → IsIn x.serial (new p x.vdu)
new_of p x f (inl g) = g.1
new_of p x f (inr g) = absurd (f (link_kind p x g.1))

not_link : (x : Def) (kind : DefKind) → x.kind ≡ kind → (kind ≡ Link → ⊥) → x.kind ≡ Link → ⊥
not_link x kind is f e = f (sym is ∙ e)

link_beside : (H : List Event) (i o : ℕ) (a : Operation) (p : Case) (x y : Def) → IsPlannedOver p a → Tracks H i o a p.held.stands
    → Ordered H o a → NetsSmall H o
    → x.kind ≡ Compute → IsIn y (links p.vnfd) → stands H i x ≡ true → stands H i y ≡ true
link_beside H i o a p x y h t ord nets is among s =
    let two : kind_number x.kind ≡ 2 = ap kind_number is in
    let none = link_number p.vnfd y among in
    elim (t.came x s) [
      | inl sx ↦
          later_stays H i o a p x y h t ord s (omega (arith, two, none))
          (λ gone. what_stands_removed p x.kind x refl (link_removal p y among gone) sx (h.low x sx) (h.own x sx))
          (h.rooted.linked x is sx y among)
      | inr has ↦
          (let made : IsPlannedBy p Create x = planned_at p a has.0 has.1 x Create h has.2 has.4 has.3 in
          let serial : IsIn x.serial (new p x.vdu) = new_of p x (not_link x Compute is (λ e. cc)) made in
          by_test (p.held.stands y)
          (λ sy. link_kept H i o a p y x.vdu x.serial h t serial among sy)
          (λ no. by_test (makes_links p.ask)
          (λ makes. made_first H i o a p x y has.0 has.1 h t ord nets has.2 has.3 has.4 has.5 (omega (arith, two, none))
          (link_planned p y makes among no))
          (λ not_made. link_kept H i o a p y x.vdu x.serial h t serial among (h.linked x.vdu x.serial serial not_made y among))))
    ]

-- the link of a port is one of the descriptor's
port_link_of : (d : Vnfd) (l : Option ℕ) (y : Def) → option_map_or (λ n. ltb n (length d.links)) l true ≡ true
    → IsIn y (option_map_or (λ l. link_def l ∷ []) l []) → IsIn y (links d)
port_link_of d None y valid h = absurd h
port_link_of d (Some l) y valid (inl e) =
    subst (λ (z : Def). IsIn z (links d)) e (in_map link_def l (range_with_len 0 (length d.links))
    (vdu_in l (length d.links) (ltb-true l (length d.links) valid)))
port_link_of d (Some l) y valid (inr g) = absurd g

port_link_by : (d : Vnfd) (n : ℕ) (o : Option _) (y : Def) → IsValid d → slice_get d.ports n ≡ o
    → IsIn y (option_map_or (λ p. option_map_or (λ l. link_def l ∷ []) p.link []) o []) → IsIn y (links d)
port_link_by d n None y valid is h = absurd h
port_link_by d n (Some port) y valid is h =
    port_link_of d port.link y (and_right _ _ (all_get (is_valid_port d) d.ports n port valid.ports is)) h

port_link : (d : Vnfd) (n : ℕ) (y : Def) → IsValid d → IsIn y (port_links d n) → IsIn y (links d)
port_link d n y valid h = port_link_by d n (slice_get d.ports n) y valid refl h

storage_beside : (d : Vnfd) (x y : Def) → x.kind ≡ Compute → IsIn y (defs d Storage x.vdu x.serial) → IsBeside d x y
storage_beside d x y is h =
    let parts = of_defs d Storage x.vdu x.serial y h in
    let all : IsIn y (all_defs d x.vdu x.serial) = in_all d Storage x.vdu x.serial y h in
    let at_vdu : IsIn y (all_defs d y.vdu x.serial) = subst (λ (v : ℕ). IsIn y (all_defs d v x.serial)) (sym parts.1) all in
    let one : kind_number y.kind ≡ 1 = ap kind_number parts.0 in
    let two : kind_number x.kind ≡ 2 = ap kind_number is in
    record {
      vdu = parts.1;
      serial = parts.2;
      among = subst (λ (s : ℕ). IsIn y (all_defs d y.vdu s)) (sym parts.2) at_vdu;
      lower = omega (arith, one, two);
      machine = λ e. (let none : kind_number y.kind ≡ 0 = ap kind_number e in absurd (omega (arith, one, none)));
    }

compute_beside : (d : Vnfd) (x : Def) → x.kind ≡ Port → IsBeside d x (compute_def x.vdu x.serial)
compute_beside d x is =
    let three : kind_number x.kind ≡ 3 = ap kind_number is in
    record {
      vdu = refl;
      serial = refl;
      among = in_all d Compute x.vdu x.serial (compute_def x.vdu x.serial) (inl refl);
      lower = omega (arith, three);
      machine = λ e. cc;
    }

on_kind : (d : Vnfd) (kind : DefKind) (x y : Def) → x.kind ≡ kind → IsIn y (made_on d kind x) → IsIn y (needs d Create x)
on_kind d kind x y is h = subst (λ (k : DefKind). IsIn y (made_on d k x)) (sym is) h

-- what stands is on what stands, by the kind of definition
on_by : (H : List Event) (i o : ℕ) (a : Operation) (p : Case) (kind : DefKind) (x y : Def) → IsPlannedOver p a
    → Tracks H i o a p.held.stands → Ordered H o a → NetsSmall H o
    → x.kind ≡ kind → stands H i x ≡ true → IsIn y (made_on p.vnfd kind x) → stands H i y ≡ true
on_by H i o a p Link x y h t ord nets is s among = absurd among
on_by H i o a p Storage x y h t ord nets is s among = absurd among
on_by H i o a p Compute x y h t ord nets is s among =
    beside H i o a p x y h t ord nets (storage_beside p.vnfd x y is among)
    (λ sx. h.rooted.on x sx y (on_kind p.vnfd Compute x y is among)) s
on_by H i o a p Port x y h t ord nets is s (inl e) =
    subst (λ (z : Def). stands H i z ≡ true) e
    (beside H i o a p x (compute_def x.vdu x.serial) h t ord nets (compute_beside p.vnfd x is)
    (λ sx. h.rooted.on x sx (compute_def x.vdu x.serial) (on_kind p.vnfd Port x (compute_def x.vdu x.serial) is (inl refl))) s)
on_by H i o a p Port x y h t ord nets is s (inr g) =
    let compute : stands H i (compute_def x.vdu x.serial) ≡ true =
    beside H i o a p x (compute_def x.vdu x.serial) h t ord nets (compute_beside p.vnfd x is)
    (λ sx. h.rooted.on x sx (compute_def x.vdu x.serial) (on_kind p.vnfd Port x (compute_def x.vdu x.serial) is (inl refl))) s in
    link_beside H i o a p (compute_def x.vdu x.serial) y h t ord nets refl (port_link p.vnfd x.item y h.valid g) compute

-- what stands is on what stands
pub rooted_now : (H : List Event) (i o : ℕ) (a : Operation) (p : Case) → IsPlannedOver p a → Tracks H i o a p.held.stands → Ordered H o a
    → NetsSmall H o → Rooted p.vnfd (stands H i)
rooted_now H i o a p h t ord nets = record {
  on = λ x s y among. on_by H i o a p x.kind x y h t ord nets refl s among;
  linked = λ x is s y among. link_beside H i o a p x y h t ord nets is among s;
}

-- when an attempt may begin, what its work needs stands
pub record IsTurn (H : List Event) (u : Tag) (a : Operation) (k : Change) : Type 0 where
  pub found : operation H u.occ ≡ Some a
  pub is : slice_get a.changes u.change ≡ Some k
  pub net : net H u.occ u.change ≡ net_before u.way
  pub through : all_through H u.occ u.way k.phase ≡ true

-- a change of an earlier phase is made
earlier_made : (H : List Event) (i : ℕ) (u : Tag) (a : Operation) (k : Change) (p : Case) (y : Def) → IsTurn H u a k → IsPlannedOver p a
    → Tracks H i u.occ a p.held.stands
    → u.way ≡ Forward → k.verb ≡ Create → kind_number y.kind < kind_number k.def.kind → IsPlannedBy p Create y → stands H i y ≡ true
earlier_made H i u a k p y turn h t way make lower planned =
    let found = planned_get p Create y a.changes h.planned planned in
    let here = making_phase p a u.change k k.def.kind h turn.is make refl in
    let all : all_through H u.occ Forward k.phase ≡ true = subst (λ (w : Way). all_through H u.occ w k.phase ≡ true) way turn.through in
    let made : net H u.occ found.0 ≡ 1 =
    through_net H u.occ Forward a k.phase found.0 (change Create y) turn.found all found.1
    (lt-ltb (kind_number y.kind) k.phase (omega (arith, here, lower))) in
    t.made y (found.0, change Create y, found.1, refl, refl, made)

-- a change of a later phase is undone
later_undone : (H : List Event) (u : Tag) (a : Operation) (k r : Change) (c : ℕ) → IsTurn H u a k → u.way ≡ Undo
    → slice_get a.changes c ≡ Some r → k.phase < r.phase → net H u.occ c ≡ 0
later_undone H u a k r c turn way ec less =
    through_net H u.occ Undo a k.phase c r turn.found (subst (λ (w : Way). all_through H u.occ w k.phase ≡ true) way turn.through) ec
    (lt-ltb k.phase r.phase less)

lower_kind : (d : Vnfd) (kind : DefKind) (x y : Def) → IsValid d → IsIn y (made_on d kind x) → kind_number y.kind < kind_number kind
lower_kind d Link x y valid h = absurd h
lower_kind d Storage x y valid h = absurd h
lower_kind d Compute x y valid h = let one : kind_number y.kind ≡ 1 = ap kind_number (of_defs d Storage x.vdu x.serial y h).0 in
    omega (arith, one)
lower_kind d Port x y valid (inl e) = let two : kind_number y.kind ≡ 2 = sym (ap (λ (z : Def). kind_number z.kind) e) in omega (arith, two)
lower_kind d Port x y valid (inr g) = let none = link_number d y (port_link d x.item y valid g) in omega (arith, none)

made_finds : (H : List Event) (i : ℕ) (u : Tag) (a : Operation) (k : Change) (p : Case) (kind : DefKind) (y : Def) → IsTurn H u a k
    → IsPlannedOver p a
    → Tracks H i u.occ a p.held.stands → u.way ≡ Forward → k.verb ≡ Create → k.def.kind ≡ kind → IsPlannedBy p Create k.def
    → IsIn y (made_on p.vnfd kind k.def) → stands H i y ≡ true
made_finds H i u a k p Link y turn h t way make is planned among = absurd among
made_finds H i u a k p Storage y turn h t way make is planned among = absurd among
made_finds H i u a k p Compute y turn h t way make is planned among =
    let b : IsBeside p.vnfd k.def y = storage_beside p.vnfd k.def y is among in
    earlier_made H i u a k p y turn h t way make b.lower (made_with p k.def y b planned)
made_finds H i u a k p Port y turn h t way make is planned (inl e) =
    let b : IsBeside p.vnfd k.def (compute_def k.def.vdu k.def.serial) = compute_beside p.vnfd k.def is in
    subst (λ (z : Def). stands H i z ≡ true) e
    (earlier_made H i u a k p (compute_def k.def.vdu k.def.serial) turn h t way make b.lower
    (made_with p k.def (compute_def k.def.vdu k.def.serial) b planned))
made_finds H i u a k p Port y turn h t way make is planned (inr g) =
    let among : IsIn y (links p.vnfd) = port_link p.vnfd k.def.item y h.valid g in
    let serial : IsIn k.def.serial (new p k.def.vdu) = new_of p k.def (not_link k.def Port is (λ e. cc)) planned in
    let none = link_number p.vnfd y among in
    let three : kind_number k.def.kind ≡ 3 = ap kind_number is in
    by_test (p.held.stands y)
    (λ sy. link_kept H i u.occ a p y k.def.vdu k.def.serial h t serial among sy)
    (λ no. by_test (makes_links p.ask)
    (λ makes. earlier_made H i u a k p y turn h t way make (omega (arith, none, three)) (link_planned p y makes among no))
    (λ not_made. link_kept H i u.occ a p y k.def.vdu k.def.serial h t serial among
    (h.linked k.def.vdu k.def.serial serial not_made y among)))

-- what stood and is yet to be removed stands
power_finds : (H : List Event) (i : ℕ) (u : Tag) (a : Operation) (k : Change) (p : Case) (w : Way) → IsTurn H u a k → IsPlannedOver p a
    → Tracks H i u.occ a p.held.stands → Ordered H u.occ a → u.way ≡ w → (k.verb ≡ Start) ⊎ (k.verb ≡ Stop) → p.held.stands k.def ≡ true
    → stands H i k.def ≡ true
power_finds H i u a k p Forward turn h t ord way v s =
    t.stay k.def s (λ c r ec def remove. ord.unmade u.change c k r turn.is ec (power_first p a u.change c k r h turn.is ec def v remove)
    (turn.net ∙ ap net_before way))
power_finds H i u a k p Undo turn h t ord way v s =
    t.stay k.def s (λ c r ec def remove. later_undone H u a k r c turn way ec (power_first p a u.change c k r h turn.is ec def v remove))

itself : (H : List Event) (i : ℕ) (x y : Def) → stands H i x ≡ true → IsIn y (x ∷ []) → stands H i y ≡ true
itself H i x y s (inl e) = subst (λ (z : Def). stands H i z ≡ true) e s
itself H i x y s (inr g) = absurd g

other_stood : (p : Case) (a : Operation) (c : ℕ) (k : Change) (v : Verb) → IsPlannedOver p a → slice_get a.changes c ≡ Some k → k.verb ≡ v
    → (v ≡ Create → ⊥) → p.held.stands k.def ≡ true
other_stood p a c k v h ec verb differ = h.others k (get_in k a.changes c ec) (λ e. differ (sym verb ∙ e))

pub work_finds : (H : List Event) (i : ℕ) (u : Tag) (a : Operation) (k : Change) (p : Case) (w : Way) (v : Verb) (y : Def) → IsTurn H u a k
    → IsPlannedOver p a
    → Tracks H i u.occ a p.held.stands → Ordered H u.occ a → u.way ≡ w → k.verb ≡ v → IsIn y (needs p.vnfd (verb_done w v) k.def)
    → stands H i y ≡ true
work_finds H i u a k p Forward Create y turn h t ord way verb among =
    made_finds H i u a k p k.def.kind y turn h t way verb refl (by_verb p a u.change k Create h turn.is verb).1 among
work_finds H i u a k p Undo Create y turn h t ord way verb among =
    itself H i k.def y (t.made k.def (u.change, k, turn.is, refl, verb, turn.net ∙ ap net_before way)) among
work_finds H i u a k p Forward Remove y turn h t ord way verb among =
    itself H i k.def y (t.stay k.def (other_stood p a u.change k Remove h turn.is verb (λ e. cc)) (λ c r ec def remove.
    let one : u.change ≡ c = one_number p a u.change c k r h turn.is ec (sym def) (verb ∙ sym remove) in
    subst (λ (n : ℕ). net H u.occ n ≡ 0) one (turn.net ∙ ap net_before way))) among
work_finds H i u a k p Undo Remove y turn h t ord way verb among =
    let s : p.held.stands k.def ≡ true = other_stood p a u.change k Remove h turn.is verb (λ e. cc) in
    t.stay y (h.rooted.on k.def s y among) (λ c r ec def remove.
    let lower = lower_kind p.vnfd k.def.kind k.def y h.valid among in
    let first = removal_phase p a u.change k k.def.kind h turn.is verb refl in
    let last = removal_phase p a c r y.kind h ec remove (ap (λ (z : Def). z.kind) def) in
    let small = kind_small k.def.kind in
    later_undone H u a k r c turn way ec (omega (arith, lower, first, last, small)))
work_finds H i u a k p Forward Start y turn h t ord way verb among =
    itself H i k.def y (power_finds H i u a k p Forward turn h t ord way (inl verb)
    (other_stood p a u.change k Start h turn.is verb (λ e. cc))) among
work_finds H i u a k p Undo Start y turn h t ord way verb among =
    itself H i k.def y (power_finds H i u a k p Undo turn h t ord way (inl verb)
    (other_stood p a u.change k Start h turn.is verb (λ e. cc))) among
work_finds H i u a k p Forward Stop y turn h t ord way verb among =
    itself H i k.def y (power_finds H i u a k p Forward turn h t ord way (inr verb)
    (other_stood p a u.change k Stop h turn.is verb (λ e. cc))) among
work_finds H i u a k p Undo Stop y turn h t ord way verb among =
    itself H i k.def y (power_finds H i u a k p Undo turn h t ord way (inr verb) (other_stood p a u.change k Stop h turn.is verb (λ e. cc)))
    among
