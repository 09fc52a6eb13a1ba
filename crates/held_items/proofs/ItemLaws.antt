-- What each event makes of what stands of an instance.
use Rattle.std.proofs.Common.{◌≡◌, ◌≤◌, ◌+◌, ◌++◌, ◌&&◌, ◌==◌, ◌∙◌, ℕ, List, [], ◌∷◌, Bool, true, false, Option, None, Some, is_some, inl}
use Rattle.std.proofs.Common.{inr, refl, ap, sym, subst, length, map, filter, filter_map, flat_map, arith, eq-eqb, slice_get}
use Rattle.std.proofs.lemmas.List.{length-map}
use Rattle.std.specs.Prelude.{option_and_then, option_map}
use Rattle.lcm_events.specs.Same.{same_def}
use Rattle.lcm_events.proofs.SameLaws.{same_def-refl}
use Rattle.lcm_events.specs.declared.attempts.Outcome.TheVariants.{Done}
use Rattle.lcm_events.specs.declared.attempts.Tag.{Tag}
use Rattle.lcm_events.specs.declared.attempts.Way.{Way}
use Rattle.lcm_events.specs.declared.attempts.Way.TheVariants.{Forward, Undo}
use Rattle.lcm_events.specs.declared.changes.Change.{Change}
use Rattle.lcm_events.specs.declared.changes.Def.{Def}
use Rattle.lcm_events.specs.declared.changes.Verb.{Verb}
use Rattle.lcm_events.specs.declared.changes.Verb.TheVariants.{Create, Remove, Start, Stop}
use Rattle.lcm_events.specs.declared.descriptor.Vnfd.{Vnfd}
use Rattle.lcm_events.specs.declared.events.Event.{Event}
use Rattle.lcm_events.specs.declared.events.EventKind.{EventKind}
use Rattle.lcm_events.specs.declared.events.EventKind.TheVariants.{Asked, Created, Settled}
use Rattle.lcm_events.specs.declared.events.Operation.{Operation}
use Rattle.lcm_events.specs.declared.held.Held.{Held}
use Rattle.lcm_events.specs.declared.places.Place.{Place}
use Rattle.lcm_model.specs.Words.{IsIn, told}
use Rattle.lcm_model.specs.Allowed.{IsAllowedWithin, IsLegalWithin}
use Rattle.lcm_model.specs.Grants.{granted_place}
use Rattle.lcm_model.specs.Holding.{effect, effect_in, effects, is_effect_on, is_of_instance, leaves_it, place, resource, runs, stands, top}
use Rattle.lcm_model.specs.Instances.{defs_up_to, held_at}
use Rattle.lcm_model.specs.Lives.{CreatedInstance, creation, creations, descriptor, descriptor_named}
use Rattle.lcm_model.specs.Operations.{operation, verb_done}
use Rattle.lcm_model.specs.Vnfcs.{all_defs, links, vdu_numbers}
use Rattle.lcm_laws.specs.Standing.{IsOfInstance}
use Rattle.lcm_laws.proofs.BoundLaws.{all_parts, standing_few, stands_up_to}
use Rattle.lcm_laws.proofs.Histories.{event}
use Rattle.lcm_laws.proofs.HoldLaws.{after_same}
use Rattle.lcm_laws.proofs.HoldingLaws.{holding_exact}
use Rattle.lcm_laws.proofs.Lists.{and_true, by_test}
use Rattle.lcm_laws.proofs.MakerLaws.{has_place, has_resource}
use Rattle.lcm_laws.proofs.NumberLaws.{found_within, instances_counted}
use Rattle.lcm_laws.proofs.PlanHistory.{descriptor_valid}
use Rattle.lcm_laws.proofs.SettledLaws.{what_is_done}
use Rattle.lcm_laws.proofs.StandLaws.{stands_of}
use Rattle.held_items.specs.Items.{AreInOrder, item_of}
use Rattle.held_items.specs.Following.{IsFollowed, is_done, items, made, once_done, place_made}
use Rattle.held_items.proofs.Orders.{differs_back, machines, up_to_before}
use Rattle.held_items.proofs.ListLaws.{AgreesOff, filter_map-both, filter_map-none, filter_map-same, flat-longer, flat-same, in_order}
use Rattle.held_items.proofs.ListLaws.{is_found, items_rise, not_found, one_out, one_powered, one_put}
use Rattle.held_items.proofs.EffectLaws.{held_made, held_off, held_on, held_own, held_removed, held_same, held_started, held_stopped}
use Rattle.held_items.proofs.EffectLaws.{of_parts, place_on, places_stay, with_done}
use Rattle.held_items.proofs.PowerLaws.{IsPower, power_compute, power_stands}

-- an attempt that is done, with its operation, its change and the descriptor of its instance
record IsDone (width m : ℕ) (H : List Event) (t : Tag) (name : List ℕ) (a : Operation) (k : Change) (d : Vnfd) : Type 0 where
  legal : IsLegalWithin width m H
  allowed : IsAllowedWithin width m H (Settled t (Done name))
  found : operation H t.occ ≡ Some a
  change : slice_get a.changes t.change ≡ Some k
  described : descriptor H a.instance ≡ Some d
  told : effect_in H (Settled t (Done name)) ≡ Some (effect t name a k)

effect_told : (H : List Event) (t : Tag) (name : List ℕ) (a : Operation) (k : Change) → operation H t.occ ≡ Some a
    → slice_get a.changes t.change ≡ Some k
    → effect_in H (Settled t (Done name)) ≡ Some (effect t name a k)
unfolding effect_in
effect_told H t name a k found is = rw (found, is) refl

on_own : (t : Tag) (name : List ℕ) (a : Operation) (k : Change) → is_effect_on a.instance k.def (effect t name a k) ≡ true
on_own t name a k = and_true _ _ (eq-eqb a.instance a.instance refl) (same_def-refl k.def)

off_other : (b c : Bool) → c ≡ false → (b && c) ≡ false
off_other true c e = e
off_other false c e = refl

agrees : (H : List Event) (time : ℕ) (t : Tag) (name : List ℕ) (a : Operation) (k : Change)
    → effect_in H (Settled t (Done name)) ≡ Some (effect t name a k)
    → AgreesOff k.def (held_at H a.instance) (held_at (with_done H time t name) a.instance)
agrees H time t name a k told z differ =
    held_off H time t name a.instance z (effect t name a k) told (off_other (a.instance == a.instance) (same_def k.def z)
    (differs_back z k.def differ))

power_of : (w : Way) (v u : Verb) → verb_done w v ≡ u → IsPower u → IsPower v
power_of Forward v u e h = subst (λ (x : Verb). IsPower x) (sym e) h
power_of Undo Start u e h = inl refl
power_of Undo Stop u e h = inr refl
power_of Undo Create u e (inl s) = let clash : Remove ≡ Start = e ∙ s in cc
power_of Undo Create u e (inr s) = let clash : Remove ≡ Stop = e ∙ s in cc
power_of Undo Remove u e (inl s) = let clash : Create ≡ Start = e ∙ s in cc
power_of Undo Remove u e (inr s) = let clash : Create ≡ Stop = e ∙ s in cc

left : (width m : ℕ) (H : List Event) (time : ℕ) (t : Tag) (name : List ℕ) (a : Operation) (k : Change) (d : Vnfd)
    → IsDone width m H t name a k d → verb_done t.way k.verb ≡ Create
    → stands (with_done H time t name) a.instance k.def ≡ true
left width m H time t name a k d h verb =
    after_same H time t name a.instance k.def a k h.told refl (same_def-refl k.def) ∙ ap leaves_it verb

-- there is a place for what is made
placed_at : (width m : ℕ) (H : List Event) (time : ℕ) (t : Tag) (name : List ℕ) (a : Operation) (k : Change) (d : Vnfd)
    → IsDone width m H t name a k d → verb_done t.way k.verb ≡ Create
    → is_some (place_made H t t.way a.instance k.def) ≡ true
placed_at width m H time t name a k d h verb =
    subst (λ (o : Option Place). is_some o ≡ true) (place_on H time t name a.instance k.def (effect t name a k) t.way h.told
    (on_own t name a k) verb refl refl)
    (has_place width m (with_done H time t name) (h.allowed, h.legal) a.instance k.def (left width m H time t name a k d h verb))

put_at : (width m : ℕ) (H : List Event) (time : ℕ) (t : Tag) (name : List ℕ) (a : Operation) (k : Change) (d : Vnfd) (o : Option Place)
    → IsDone width m H t name a k d
    → verb_done t.way k.verb ≡ Create → place_made H t t.way a.instance k.def ≡ o → is_some o ≡ true
    → items d (with_done H time t name) a.instance ≡ once_done Create k.def name o (items d H a.instance)
put_at width m H time t name a k d None h verb is some = cc
put_at width m H time t name a k d (Some at) h verb is some =
    let i = a.instance in
    let now : held_at (with_done H time t name) i k.def ≡ Some (made k.def name at) =
    held_on H time t name i k.def (effect t name a k) h.told (on_own t name a k)
    ∙ (held_made H t i k.def (effect t name a k) t.way verb refl refl ∙ ap (λ o. option_map (made k.def name) o) is) in
    one_put (held_at H i) (held_at (with_done H time t name) i) k.def (made k.def name at) (defs_up_to d (top H i))
    (up_to_before d (top H i) (descriptor_valid width m H i d h.legal h.described))
    (stands_up_to width m (with_done H time t name) (h.allowed, h.legal) i d k.def h.described (left width m H time t name a k d h verb))
    (λ z y e. held_own H i z y e) (agrees H time t name a k h.told) now refl

follow_by : (width m : ℕ) (H : List Event) (time : ℕ) (t : Tag) (name : List ℕ) (a : Operation) (k : Change) (d : Vnfd) (v : Verb)
    → IsDone width m H t name a k d
    → verb_done t.way k.verb ≡ v → items d (with_done H time t name) a.instance
    ≡ once_done v k.def name (place_made H t t.way a.instance k.def) (items d H a.instance)
follow_by width m H time t name a k d Create h verb =
    put_at width m H time t name a k d (place_made H t t.way a.instance k.def) h verb refl (placed_at width m H time t name a k d h verb)
follow_by width m H time t name a k d Remove h verb =
    let i = a.instance in
    one_out (held_at H i) (held_at (with_done H time t name) i) k.def (defs_up_to d (top H i)) (λ z y e. held_own H i z y e)
    (agrees H time t name a k h.told)
    (held_on H time t name i k.def (effect t name a k) h.told (on_own t name a k)
    ∙ held_removed (granted_place H) k.def (effect t name a k) (effects H i k.def) verb)
follow_by width m H time t name a k d Start h verb =
    let i = a.instance in
    let power : IsPower k.verb = power_of t.way k.verb Start verb (inl refl) in
    one_powered (held_at H i) (held_at (with_done H time t name) i) k.def true (defs_up_to d (top H i)) (λ z y e. held_own H i z y e)
    (agrees H time t name a k h.told)
    (held_on H time t name i k.def (effect t name a k) h.told (on_own t name a k)
    ∙ held_started H i k.def (effect t name a k) verb (power_compute width m H t.occ t.change a k h.legal h.found h.change power)
    (power_stands width m H h.legal t a k h.allowed h.found h.change power))
follow_by width m H time t name a k d Stop h verb =
    let i = a.instance in
    let power : IsPower k.verb = power_of t.way k.verb Stop verb (inr refl) in
    one_powered (held_at H i) (held_at (with_done H time t name) i) k.def false (defs_up_to d (top H i)) (λ z y e. held_own H i z y e)
    (agrees H time t name a k h.told)
    (held_on H time t name i k.def (effect t name a k) h.told (on_own t name a k)
    ∙ held_stopped H i k.def (effect t name a k) verb (power_stands width m H h.legal t a k h.allowed h.found h.change power))

-- the items of an operation's instance follow its attempt that is done
pub items_follow : (width m : ℕ) (H : List Event) (time : ℕ) (t : Tag) (name : List ℕ) (a : Operation) (k : Change) (d : Vnfd)
    → IsLegalWithin width m H
    → IsAllowedWithin width m H (Settled t (Done name)) → operation H t.occ ≡ Some a → slice_get a.changes t.change ≡ Some k
    → descriptor H a.instance ≡ Some d
    → IsFollowed H time t name a k d
items_follow width m H time t name a k d legal allowed found is described =
    let h : IsDone width m H t name a k d =
    record { legal = legal; allowed = allowed; found = found; change = is; described = described; told = effect_told H t name a k found is }
    in
    record {
      items = follow_by width m H time t name a k d (verb_done t.way k.verb) h refl;
      placed = λ verb. placed_at width m H time t name a k d h verb;
    }

-- the items of other instances stay
off_instance : (H : List Event) (time : ℕ) (t : Tag) (name : List ℕ) (a : Operation) (i : ℕ) (x : Def) → operation H t.occ ≡ Some a
    → (a.instance == i) ≡ false
    → held_at (with_done H time t name) i x ≡ held_at H i x
off_instance H time t name a i x found away = elim (what_is_done H time t (Done name) a found) [
  | inl nothing ↦ held_same H (with_done H time t name) i x (let none = nothing.0 in rw none refl) (λ y h. refl)
  | inr change ↦ held_off H time t name i x (effect t change.0 a change.1) change.4 (rw away refl)
]

pub others_stay : (width m : ℕ) (H : List Event) (time : ℕ) (t : Tag) (name : List ℕ) (a : Operation) (i : ℕ) (d : Vnfd)
    → IsLegalWithin width m H
    → IsAllowedWithin width m H (Settled t (Done name)) → operation H t.occ ≡ Some a → (a.instance == i) ≡ false
    → items d (with_done H time t name) i ≡ items d H i
others_stay width m H time t name a i d legal allowed found away =
    filter_map-same (held_at H i) (held_at (with_done H time t name) i) (defs_up_to d (top H i))
    (λ x h. off_instance H time t name a i x found away)

-- other events leave what is held
pub no_effect : (H : List Event) (k : EventKind) → is_done k ≡ false → effect_in H k ≡ None
unfolding effect_in
no_effect H (Settled t (Done name)) e = cc
no_effect H (Settled t _) e = refl
no_effect H _ e = refl

held_stays : (width m : ℕ) (H : List Event) (time : ℕ) (k : EventKind) (i : ℕ) (x : Def) → IsLegalWithin width m H
    → IsAllowedWithin width m H k → is_done k ≡ false
    → held_at (event time k ∷ H) i x ≡ held_at H i x
held_stays width m H time k i x legal allowed e =
    held_same H (event time k ∷ H) i x (let none = no_effect H k e in rw none refl) (places_stay width m H time k legal allowed)

not_held : (H : List Event) (i : ℕ) (x : Def) → stands H i x ≡ false → held_at H i x ≡ None
not_held H i x fails = rw fails refl

above_top : (width m : ℕ) (H : List Event) (d : Vnfd) (i v s : ℕ) (x : Def) → IsLegalWithin width m H → 1 + top H i v ≤ s
    → IsIn x (all_defs d v s) → held_at H i x ≡ None
above_top width m H d i v s x legal above among =
    not_held H i x (by_test (stands H i x)
    (λ there.
    let parts = all_parts d v s x among in
    let of : IsOfInstance H i x = stands_of width m H legal i x there in
    let low : s ≤ top H i v = subst (λ (n : ℕ). n ≤ top H i v) parts.2 (subst (λ (n : ℕ). x.serial ≤ top H i n) parts.1 of.3) in
    absurd (omega (arith, above, low)))
    (λ gone. gone))

more_top : (H : List Event) (time : ℕ) (b : Operation) (i v : ℕ) → top H i v ≤ top (event time (Asked b) ∷ H) i v
more_top H time b i v = by_test (is_of_instance i b) (λ ours. rw ours (omega arith)) (λ other. rw other (omega arith))

-- more serials add no item
pub no_more : (width m : ℕ) (H : List Event) (d : Vnfd) (i : ℕ) (most : ℕ → ℕ) → IsLegalWithin width m H → ((v : ℕ) → top H i v ≤ most v)
    → filter_map (held_at H i) (defs_up_to d most) ≡ filter_map (held_at H i) (defs_up_to d (top H i))
no_more width m H d i most legal more =
    let f = held_at H i in
    filter_map-both f (flat_map (machines d most) (vdu_numbers d)) (links d)
    ∙ (ap (λ ys. ys ++ filter_map f (links d)) (flat-same f (machines d most) (machines d (top H i)) (vdu_numbers d)
    (λ v within. flat-longer f (all_defs d v) 1 (top H i v) (most v) (more v)
    (λ s above. filter_map-none f (all_defs d v s) (λ x among. above_top width m H d i v s x legal above among))))
    ∙ sym (filter_map-both f (flat_map (machines d (top H i)) (vdu_numbers d)) (links d)))

pub others_leave : (width m : ℕ) (H : List Event) (time : ℕ) (k : EventKind) (i : ℕ) (d : Vnfd) → IsLegalWithin width m H
    → IsAllowedWithin width m H k → is_done k ≡ false
    → items d (event time k ∷ H) i ≡ items d H i
others_leave width m H time (Asked b) i d legal allowed e =
    filter_map-same (held_at H i) (held_at (event time (Asked b) ∷ H) i) (defs_up_to d (top (event time (Asked b) ∷ H) i))
    (λ x among. held_stays width m H time (Asked b) i x legal allowed e)
    ∙ no_more width m H d i (top (event time (Asked b) ∷ H) i) legal (λ v. more_top H time b i v)
others_leave width m H time k i d legal allowed e =
    filter_map-same (held_at H i) (held_at (event time k ∷ H) i) (defs_up_to d (top H i))
    (λ x among. held_stays width m H time k i x legal allowed e)

some_creation : (H : List Event) (d : Vnfd) (c : Option CreatedInstance) → option_and_then (λ x. descriptor_named H x.vnfd) c ≡ Some d
    → is_some c ≡ true
some_creation H d None e = cc
some_creation H d (Some c) e = refl

-- nothing stands of a new instance
pub new_holds_nothing : (width m : ℕ) (H : List Event) (time i : ℕ) (vnfd : List ℕ) (name text : Option (List ℕ)) (d : Vnfd)
    → IsLegalWithin width m H
    → IsAllowedWithin width m H (Created i vnfd name text) → items d (event time (Created i vnfd name text) ∷ H) i ≡ []
new_holds_nothing width m H time i vnfd name text d legal allowed =
    others_leave width m H time (Created i vnfd name text) i d legal allowed refl
    ∙ filter_map-none (held_at H i) (defs_up_to d (top H i)) (λ x among. not_held H i x (by_test (stands H i x)
    (λ there.
    let of : IsOfInstance H i x = stands_of width m H legal i x there in
    let within = found_within (λ x. x.instance) (creations H) i (instances_counted width m H legal)
    (some_creation H of.0 (creation H i) of.1) in
    let number = allowed.number in absurd (omega (arith, number, within.1)))
    (λ gone. gone)))

-- the items are in order, and few
pub items_in_order : (width m : ℕ) (H : List Event) → IsLegalWithin width m H → (i : ℕ) (d : Vnfd) → descriptor H i ≡ Some d
    → AreInOrder (items d H i) × (length (items d H i) ≤ 2500)
items_in_order width m H legal i d described =
    let size : length (map (λ y. y.def) (items d H i)) ≡ length (filter (stands H i) (defs_up_to d (top H i))) =
    ap length (holding_exact width m H legal i d described).in_order in
    let mapped = length-map (items d H i) (λ y. y.def) in
    let bound = standing_few width m H legal i d described in (
      in_order (items d H i) (items_rise (held_at H i) (defs_up_to d (top H i)) (λ z y e. held_own H i z y e)
          (up_to_before d (top H i) (descriptor_valid width m H i d legal described))),
      omega (arith, size, mapped, bound),
    )

found_by : (width m : ℕ) (H : List Event) (i : ℕ) (d : Vnfd) (x : Def) (o : Option Held) → IsLegalWithin width m H → descriptor H i ≡ Some d
    → held_at H i x ≡ o
    → item_of x (items d H i) ≡ o
found_by width m H i d x None legal described is = not_found (held_at H i) x (defs_up_to d (top H i)) (λ z y e. held_own H i z y e) is
found_by width m H i d x (Some y) legal described is = by_test (stands H i x)
    (λ there. is_found (held_at H i) x y (defs_up_to d (top H i)) (λ z y e. held_own H i z y e)
    (stands_up_to width m H legal i d x described there) is)
    (λ gone. let clash : None ≡ Some y = sym (not_held H i x gone) ∙ is in cc)

-- an item is found where its definition stands
pub items_found : (width m : ℕ) (H : List Event) → IsLegalWithin width m H → (i : ℕ) (d : Vnfd) → descriptor H i ≡ Some d → (x : Def)
    → item_of x (items d H i) ≡ held_at H i x
items_found width m H legal i d described x = found_by width m H i d x (held_at H i x) legal described refl

place_told : (x : Def) (b r : Bool) (name : Option (List ℕ)) (at : Option Place) → b ≡ true → is_some name ≡ true
    → option_map (λ y. y.place) (of_parts x b r name at) ≡ at
place_told x false r name at e h = cc
place_told x true r None at e h = cc
place_told x true r (Some name) None e h = refl
place_told x true r (Some name) (Some at) e h = refl

-- an item says where its definition stands
pub places_told : (width m : ℕ) (H : List Event) → IsLegalWithin width m H → (i : ℕ) (d : Vnfd) → descriptor H i ≡ Some d → (x : Def)
    → stands H i x ≡ true
    → option_map (λ y. y.place) (item_of x (items d H i)) ≡ place H i x
places_told width m H legal i d described x there =
    ap (λ o. option_map (λ y. y.place) o) (items_found width m H legal i d described x)
    ∙ place_told x (stands H i x) (runs H i x) (resource H i x) (place H i x) there (has_resource width m H legal i x there)
