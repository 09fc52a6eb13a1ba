-- The holding of an instance has what stands of it, in order, and is of its descriptor.
use Rattle.std.proofs.Common.{◌≡◌, ◌≤◌, ◌<◌, ◌+◌, ◌++◌, ◌||◌, ◌∙◌, ℕ, List, [], ◌∷◌, Bool, true, false, Option, None, Some, is_some, refl}
use Rattle.std.proofs.Common.{ap, sym, subst, length, map, filter, filter_map, flat_map, arith, suc, zero, inl, inr, ltb, lt-ltb, ltb-true}
use Rattle.std.proofs.Common.{eq-eqb, slice_get, unwrap_or}
use Rattle.std.proofs.lemmas.List.{length-map}
use Rattle.std.proofs.lemmas.Bool.{leb-true, le-leb}
use Rattle.std.specs.List.{list_all, range_with_len}
use Rattle.std.specs.Prelude.{IfSome}
use Rattle.lcm_events.specs.Descriptors.{is_rising}
use Rattle.lcm_events.specs.Same.{kind_number, same_kind}
use Rattle.lcm_events.specs.declared.asks.Aim.{Aim}
use Rattle.lcm_events.specs.declared.asks.Ask.{Ask}
use Rattle.lcm_events.specs.declared.asks.Ask.TheVariants.{Instantiate, Scale, ScaleToLevel}
use Rattle.lcm_events.specs.declared.asks.AspectLevel.{AspectLevel}
use Rattle.lcm_events.specs.declared.changes.Def.{Def}
use Rattle.lcm_events.specs.declared.changes.DefKind.{DefKind}
use Rattle.lcm_events.specs.declared.changes.DefKind.TheVariants.{Compute, Link, Port, Storage}
use Rattle.lcm_events.specs.declared.descriptor.Vnfd.{Vnfd}
use Rattle.lcm_events.specs.declared.events.Event.{Event}
use Rattle.lcm_events.specs.declared.held.Held.{Held}
use Rattle.lcm_events.specs.declared.places.Place.{Place}
use Rattle.lcm_events.specs.declared.asks.Aim.TheVariants as aims
use Rattle.lcm_model.specs.Words.{IsIn, told}
use Rattle.lcm_model.specs.Holding.{place, resource, runs, stands, top}
use Rattle.lcm_model.specs.Instances.{defs_up_to, held_at, holding, levels_from, moving, sets_levels}
use Rattle.lcm_model.specs.Levels.{aimed, asked_level, at_aspect, default_level, level_of, moved_by, replaced, target, to_level}
use Rattle.lcm_model.specs.Lives.{descriptor}
use Rattle.lcm_model.specs.Vnfcs.{all_defs, def_of, defs, is_def_in, is_def_of, items, link_def, links, vdu_numbers}
use Rattle.lcm_model.specs.Descriptors.{IsHoldingOf, IsValid, are_levels_of, is_def_before, is_def_up_to}
use Rattle.lcm_model.specs.Allowed.{IsLegalWithin}
use Rattle.lcm_model.proofs.LevelLaws.{at_levels, default_levels, named_levels, zero_levels}
use Rattle.lcm_laws.specs.Holdings.{HoldsWhatStands, IsAsItStands}
use Rattle.lcm_laws.specs.Standing.{IsOfInstance}
use Rattle.lcm_laws.proofs.Lists.{and_left, and_true, by_test}
use Rattle.lcm_laws.proofs.Members.{Less, Rises, in_either, in_filter, in_map, of_filter, of_flat_map, of_map, of_range, rises_append}
use Rattle.lcm_laws.proofs.Members.{rises_filter, rises_flat_map, rises_map, rises_range}
use Rattle.lcm_laws.proofs.BoundLaws.{all_parts, standing_few, stands_up_to}
use Rattle.lcm_laws.proofs.MakerLaws.{has_place, has_resource}
use Rattle.lcm_laws.proofs.PlanHistory.{descriptor_valid}
use Rattle.lcm_laws.proofs.PlanMembers.{of_defs}
use Rattle.lcm_laws.proofs.PlanOrder.{items_rise}
use Rattle.lcm_laws.proofs.SerialLaws.{range_length}
use Rattle.lcm_laws.proofs.StandLaws.{of_cons, stands_of}

-- an item that says what stands
abbrev HeldAs : List Event → ℕ → Def → Type 0
HeldAs H i x = (y : Held) × (held_at H i x ≡ Some y) × (y.def ≡ x) × IsAsItStands H i y

held_when : (H : List Event) (i : ℕ) (x : Def) (r : Option (List ℕ)) (p : Option Place) → stands H i x ≡ true → resource H i x ≡ r
    → place H i x ≡ p
    → is_some r ≡ true → is_some p ≡ true → HeldAs H i x
held_when H i x (Some name) (Some at) s er ep hr hp = (
  record { def = x; resource = name; place = at; running = runs H i x },
  rw (s, er, ep) refl,
  refl,
  record { stands = s; resource = er; place = ep; running = refl },
)
held_when H i x None p s er ep hr hp = cc
held_when H i x r None s er ep hr hp = cc

held : (width m : ℕ) (H : List Event) → IsLegalWithin width m H → (i : ℕ) (x : Def) → stands H i x ≡ true → HeldAs H i x
held width m H legal i x s =
    held_when H i x (resource H i x) (place H i x) s refl refl (has_resource width m H legal i x s) (has_place width m H legal i x s)

not_held : (H : List Event) (i : ℕ) (x : Def) → stands H i x ≡ false → held_at H i x ≡ None
not_held H i x fails = rw fails refl

map_held : (width m : ℕ) (H : List Event) → IsLegalWithin width m H → (i : ℕ) (ds : List Def)
    → map (λ y. y.def) (filter_map (held_at H i) ds) ≡ filter (stands H i) ds
map_held width m H legal i [] = refl
map_held width m H legal i (x ∷ ds) =
    let rest = map_held width m H legal i ds in
    by_test (stands H i x)
    (λ s.
    let h : HeldAs H i x = held width m H legal i x s in
    let e = h.1 in
    let same = h.2 in
    rw (e, s) (cc))
    (λ fails. rw fails rest)

-- where something kept by a question comes from
pub of_filter_map : {A B : Type 0} → (f : A → Option B) (y : B) (xs : List A) → IsIn y (filter_map f xs)
    → (x : A) × IsIn x xs × (f x ≡ Some y)
of_filter_map f y [] h = absurd h
of_filter_map f y (x ∷ xs) h = elim (of_cons y (f x) (filter_map f xs) h) [
  | inl is ↦ (x, inl refl, is)
  | inr more ↦ (let from = of_filter_map f y xs more in (from.0, inr from.1, from.2))
]

item_as : (width m : ℕ) (H : List Event) → IsLegalWithin width m H → (i : ℕ) (ds : List Def) (y : Held)
    → IsIn y (filter_map (held_at H i) ds) → IsAsItStands H i y
item_as width m H legal i ds y h =
    let from = of_filter_map (held_at H i) y ds h in
    by_test (stands H i from.0)
    (λ s.
    let mine : HeldAs H i from.0 = held width m H legal i from.0 s in
    let both : Some mine.0 ≡ Some y = sym mine.1 ∙ from.2 in
    let same : mine.0 ≡ y = cc in
    subst (λ (z : Held). IsAsItStands H i z) same mine.3)
    (λ fails. let clash : None ≡ Some y = sym (not_held H i from.0 fails) ∙ from.2 in cc)

-- the holding has exactly what stands
pub holding_exact : (width m : ℕ) (H : List Event) → IsLegalWithin width m H → (i : ℕ) (d : Vnfd) → descriptor H i ≡ Some d
    → HoldsWhatStands d H i
holding_exact width m H legal i d described =
    let same : map (λ y. y.def) (filter_map (held_at H i) (defs_up_to d (top H i))) ≡ filter (stands H i) (defs_up_to d (top H i)) =
    map_held width m H legal i (defs_up_to d (top H i)) in
    record {
      in_order = same;
      exactly = λ x. (
        λ s. subst (λ (xs : List Def). IsIn x xs) (sym same)
            (in_filter (stands H i) x (defs_up_to d (top H i)) (stands_up_to width m H legal i d x described s) s),
        λ among. (of_filter (stands H i) x (defs_up_to d (top H i)) (subst (λ (xs : List Def). IsIn x xs) same among)).1,
      );
      as_it_stands = λ y among. item_as width m H legal i (defs_up_to d (top H i)) y among;
    }

-- the definitions are in order
abbrev DefBefore : Def → Def → Type 0
DefBefore x y = is_def_before x y ≡ true

or_first : (a b : Bool) → a ≡ true → (a || b) ≡ true
or_first true b e = refl
or_first false b e = cc

or_second : (a b : Bool) → b ≡ true → (a || b) ≡ true
or_second true b e = refl
or_second false b e = e

by_vdu : (x y : Def) → x.vdu < y.vdu → DefBefore x y
by_vdu x y h = or_first _ _ (lt-ltb x.vdu y.vdu h)

by_serial : (x y : Def) → x.vdu ≡ y.vdu → x.serial < y.serial → DefBefore x y
by_serial x y v h = or_second _ _ (and_true _ _ (eq-eqb x.vdu y.vdu v) (or_first _ _ (lt-ltb x.serial y.serial h)))

by_kind : (x y : Def) → x.vdu ≡ y.vdu → x.serial ≡ y.serial → kind_number x.kind < kind_number y.kind → DefBefore x y
by_kind x y v s h =
    or_second _ _ (and_true _ _ (eq-eqb x.vdu y.vdu v) (or_second _ _ (and_true _ _ (eq-eqb x.serial y.serial s)
    (or_first _ _ (lt-ltb (kind_number x.kind) (kind_number y.kind) h)))))

by_item : (x y : Def) → x.vdu ≡ y.vdu → x.serial ≡ y.serial → x.kind ≡ y.kind → x.item < y.item → DefBefore x y
by_item x y v s k h =
    or_second _ _ (and_true _ _ (eq-eqb x.vdu y.vdu v) (or_second _ _ (and_true _ _ (eq-eqb x.serial y.serial s)
    (or_second _ _ (and_true _ _ (eq-eqb (kind_number x.kind) (kind_number y.kind) (ap kind_number k)) (lt-ltb x.item y.item h))))))

items_before : (d : Vnfd) (kind : DefKind) (v s : ℕ) → IsValid d → Rises DefBefore (defs d kind v s)
items_before d kind v s valid =
    rises_map Less DefBefore (def_of kind v s) (items d kind v) (λ a b ha hb less.
    by_item (def_of kind v s a) (def_of kind v s b) refl refl refl less)
    (items_rise d kind v valid)

kinds_before : (d : Vnfd) (j k : DefKind) (v s : ℕ) (x y : Def) → kind_number j < kind_number k → IsIn x (defs d j v s)
    → IsIn y (defs d k v s) → DefBefore x y
kinds_before d j k v s x y less hx hy =
    let px = of_defs d j v s x hx in
    let py = of_defs d k v s y hy in
    let a : kind_number x.kind ≡ kind_number j = ap kind_number px.0 in
    let b : kind_number y.kind ≡ kind_number k = ap kind_number py.0 in
    by_kind x y (px.1 ∙ sym py.1) (px.2 ∙ sym py.2) (omega (arith, a, b, less))

machine_before : (d : Vnfd) (v s : ℕ) → IsValid d → Rises DefBefore (all_defs d v s)
machine_before d v s valid =
    rises_append DefBefore (defs d Storage v s ++ defs d Compute v s) (defs d Port v s)
    (rises_append DefBefore (defs d Storage v s) (defs d Compute v s) (items_before d Storage v s valid) (items_before d Compute v s valid)
    (λ x y hx hy. kinds_before d Storage Compute v s x y (omega arith) hx hy))
    (items_before d Port v s valid)
    (λ x y hx hy. elim (in_either x (defs d Storage v s) (defs d Compute v s) hx) [
      | inl g ↦ kinds_before d Storage Port v s x y (omega arith) g hy
      | inr g ↦ kinds_before d Compute Port v s x y (omega arith) g hy
    ])

pub few_vdus : (d : Vnfd) → IsValid d → length d.vdus ≤ 64
few_vdus d valid = leb-true (length d.vdus) 64 (and_left _ _ (and_left _ _
    (and_left _ _ (and_left _ _ (and_left _ _ (and_left _ _ valid.counts))))))

link_vdu : (d : Vnfd) (y : Def) → IsIn y (links d) → y.vdu ≡ 65535
link_vdu d y h = let from = of_map link_def y (range_with_len 0 (length d.links)) h in sym (ap (λ (z : Def). z.vdu) from.2)

up_to_before : (d : Vnfd) (top : ℕ → ℕ) → IsValid d → Rises DefBefore (defs_up_to d top)
up_to_before d top valid =
    rises_append DefBefore (flat_map (λ v. flat_map (all_defs d v) (range_with_len 1 (top v))) (vdu_numbers d)) (links d)
    (rises_flat_map Less DefBefore (λ v. flat_map (all_defs d v) (range_with_len 1 (top v))) (vdu_numbers d) (rises_range 0 (length d.vdus))
    (λ v within.
    rises_flat_map Less DefBefore (all_defs d v) (range_with_len 1 (top v)) (rises_range 1 (top v)) (λ s inside. machine_before d v s valid)
    (λ r s x y less hx hy.
    let a = all_parts d v r x hx in let b = all_parts d v s y hy in
    let ra = a.2 in let rb = b.2 in
    by_serial x y (a.1 ∙ sym b.1) (omega (arith, less, ra, rb))))
    (λ u v x y less hx hy.
    let from_x = of_flat_map (all_defs d u) x (range_with_len 1 (top u)) hx in
    let from_y = of_flat_map (all_defs d v) y (range_with_len 1 (top v)) hy in
    let a = (all_parts d u from_x.0 x from_x.2).1 in let b = (all_parts d v from_y.0 y from_y.2).1 in
    by_vdu x y (omega (arith, less, a, b))))
    (rises_map Less DefBefore link_def (range_with_len 0 (length d.links))
    (λ a b ha hb less. by_item (link_def a) (link_def b) refl refl refl less)
    (rises_range 0 (length d.links)))
    (λ x y hx hy.
    let from = of_flat_map (λ v. flat_map (all_defs d v) (range_with_len 1 (top v))) x (vdu_numbers d) hx in
    let machine = of_flat_map (all_defs d from.0) x (range_with_len 1 (top from.0)) from.2 in
    let a = (all_parts d from.0 machine.0 x machine.2).1 in
    let low = (of_range from.0 0 (length d.vdus) from.1).1 in
    let few = few_vdus d valid in
    let b = link_vdu d y hy in
    by_vdu x y (omega (arith, a, low, few, b)))

rises_unmap : {A B : Type 0} → (S : B → B → Type 0) (f : A → B) (xs : List A) → Rises S (map f xs) → Rises (λ a b. S (f a) (f b)) xs
rises_unmap S f [] h = tt
rises_unmap S f (x ∷ xs) h = (λ y within. h.0 (f y) (in_map f y xs within), rises_unmap S f xs h.1)

rising_of : {A : Type 0} → (before : A → A → Bool) (xs : List A) → Rises (λ a b. before a b ≡ true) xs → is_rising before xs ≡ true
rising_of before [] h = refl
rising_of before (x ∷ []) h = refl
rising_of before (x ∷ y ∷ xs) h = and_true _ _ (h.0 y (inl refl)) (rising_of before (y ∷ xs) h.1)

-- the levels of an instance are of its descriptor
unwrapped : (d : Vnfd) (o : Option (List ℕ)) (ns : List ℕ) → IfSome o (λ ns. are_levels_of d ns ≡ true) → are_levels_of d ns ≡ true
    → are_levels_of d (unwrap_or o ns) ≡ true
unwrapped d None ns h g = g
unwrapped d (Some ms) ns h g = h

replaced_levels : (d : Vnfd) (named : List AspectLevel) (ns : List ℕ) → are_levels_of d ns ≡ true
    → are_levels_of d (replaced d ns named) ≡ true
replaced_levels d [] ns h = h
replaced_levels d (x ∷ named) ns h =
    replaced_levels d named (at_aspect d.aspects x.aspect (to_level x.level) ns) (at_levels d x.aspect (to_level x.level) ns h)

aimed_levels : (d : Vnfd) (aim : Aim) (ns : List ℕ) → IsValid d → are_levels_of d ns ≡ true → are_levels_of d (aimed d ns aim) ≡ true
aimed_levels d (aims.Level name) ns valid h = unwrapped d (level_of d name) ns (named_levels d name valid) h
aimed_levels d (aims.Aspects named) ns valid h = replaced_levels d named ns h

asked_levels : (d : Vnfd) (level : Option (List ℕ)) → IsValid d → are_levels_of d (asked_level d level) ≡ true
asked_levels d None valid = default_levels d valid
asked_levels d (Some name) valid = unwrapped d (level_of d name) (default_level d) (named_levels d name valid) (default_levels d valid)

target_levels : (d : Vnfd) (ask : Ask) (ns : List ℕ) → IsValid d → are_levels_of d ns ≡ true → are_levels_of d (target d ns ask) ≡ true
target_levels d (Instantiate flavour level) ns valid h = asked_levels d level valid
target_levels d (Scale way aspect steps) ns valid h = at_levels d aspect (moved_by way steps) ns h
target_levels d (ScaleToLevel aim) ns valid h = aimed_levels d aim ns valid h
target_levels d _ ns valid h = h

from_levels : (d : Vnfd) (asks : List Ask) → IsValid d → are_levels_of d (levels_from d asks) ≡ true
from_levels d [] valid = zero_levels d
from_levels d (ask ∷ asks) valid = target_levels d ask (levels_from d asks) valid (from_levels d asks valid)

-- all pass a test that each passes
pub all_of : {A : Type 0} → (p : A → Bool) (xs : List A) → ((x : A) → IsIn x xs → p x ≡ true) → list_all p xs ≡ true
all_of p [] f = refl
all_of p (x ∷ xs) f = and_true (p x) (list_all p xs) (f x (inl refl)) (all_of p xs (λ y h. f y (inr h)))

pub range_get : (a n v : ℕ) → v < n → slice_get (range_with_len a n) v ≡ Some (a + v)
range_get a zero v h = absurd (omega (arith, h))
range_get a (suc n) zero h = let e : a ≡ a + 0 = omega arith in ap Some e
range_get a (suc n) (suc v) h = let e : (a + 1) + v ≡ a + suc v = omega arith in range_get (a + 1) n v (omega (arith, h)) ∙ ap Some e

pub map_get : {A B : Type 0} → (f : A → B) (xs : List A) (n : ℕ) (x : A) → slice_get xs n ≡ Some x → slice_get (map f xs) n ≡ Some (f x)
map_get f [] n x e = cc
map_get f (y ∷ xs) zero x e = let is : y ≡ x = cc in ap (λ z. Some (f z)) is
map_get f (y ∷ xs) (suc n) x e = map_get f xs n x e

tops_at : (d : Vnfd) (f : ℕ → ℕ) (v : ℕ) → v < length d.vdus → unwrap_or (slice_get (map f (vdu_numbers d)) v) 0 ≡ f v
tops_at d f v h =
    let at : slice_get (map f (vdu_numbers d)) v ≡ Some (f (0 + v)) =
    map_get f (vdu_numbers d) v (0 + v) (range_get 0 (length d.vdus) v h) in
    let same : 0 + v ≡ v = omega arith in
    rw at (ap f same)

known_machine : (d : Vnfd) (f : ℕ → ℕ) (x : Def) → is_def_of d x ≡ true → x.serial ≤ f x.vdu → x.vdu < length d.vdus
    → is_def_up_to d (map f (vdu_numbers d)) x ≡ true
known_machine d f x own low within =
    let top = tops_at d f x.vdu within in
    let le : x.serial ≤ unwrap_or (slice_get (map f (vdu_numbers d)) x.vdu) 0 = omega (arith, top, low) in
    and_true _ _ own (or_second (same_kind x.kind Link) _ (le-leb x.serial (unwrap_or (slice_get (map f (vdu_numbers d)) x.vdu) 0) le))

machine_vdu : (d : Vnfd) (kind : DefKind) (x : Def) → is_def_in d kind x ≡ true → (kind ≡ Link → ⊥) → x.vdu < length d.vdus
machine_vdu d Link x h f = absurd (f refl)
machine_vdu d Storage x h f = ltb-true x.vdu (length d.vdus) (and_left _ _ (and_left _ _ h))
machine_vdu d Compute x h f = ltb-true x.vdu (length d.vdus) (and_left _ _ (and_left _ _ h))
machine_vdu d Port x h f = ltb-true x.vdu (length d.vdus) (and_left _ _ (and_left _ _ h))

known_by : (d : Vnfd) (f : ℕ → ℕ) (x : Def) (kind : DefKind) → x.kind ≡ kind → is_def_of d x ≡ true → x.serial ≤ f x.vdu
    → is_def_up_to d (map f (vdu_numbers d)) x ≡ true
known_by d f x Link is own low =
    and_true _ _ own (or_first (same_kind x.kind Link) _ (eq-eqb (kind_number x.kind) 0 (ap kind_number is)))
known_by d f x Storage is own low =
    known_machine d f x own low (machine_vdu d x.kind x own (λ e. let no_way : Storage ≡ Link = sym is ∙ e in cc))
known_by d f x Compute is own low =
    known_machine d f x own low (machine_vdu d x.kind x own (λ e. let no_way : Compute ≡ Link = sym is ∙ e in cc))
known_by d f x Port is own low =
    known_machine d f x own low (machine_vdu d x.kind x own (λ e. let no_way : Port ≡ Link = sym is ∙ e in cc))

known_item : (width m : ℕ) (H : List Event) → IsLegalWithin width m H → (i : ℕ) (d : Vnfd) → descriptor H i ≡ Some d → (x : Def)
    → stands H i x ≡ true
    → is_def_up_to d (map (top H i) (vdu_numbers d)) x ≡ true
known_item width m H legal i d described x s =
    let of : IsOfInstance H i x = stands_of width m H legal i x s in
    let both : Some of.0 ≡ Some d = sym of.1 ∙ described in
    let same : of.0 ≡ d = cc in
    known_by d (top H i) x x.kind refl (subst (λ (y : Vnfd). is_def_of y x ≡ true) same of.2) of.3

-- the holding is of the descriptor
pub holding_of : (width m : ℕ) (H : List Event) → IsLegalWithin width m H → (i : ℕ) (d : Vnfd) → descriptor H i ≡ Some d
    → ((v : ℕ) → top H i v < 2147483648) → IsHoldingOf d (holding d H i)
holding_of width m H legal i d described small =
    let valid : IsValid d = descriptor_valid width m H i d legal described in
    let has = filter_map (held_at H i) (defs_up_to d (top H i)) in
    let same : map (λ y. y.def) has ≡ filter (stands H i) (defs_up_to d (top H i)) = map_held width m H legal i (defs_up_to d (top H i)) in
    let size = ap length same in
    let mapped = length-map has (λ y. y.def) in
    let bound = standing_few width m H legal i d described in
    let rises : Rises DefBefore (map (λ y. y.def) has) =
    subst (λ (xs : List Def). Rises DefBefore xs) (sym same) (rises_filter DefBefore (stands H i) (defs_up_to d (top H i))
    (up_to_before d (top H i) valid)) in
    record {
      levels = from_levels d (told (moving sets_levels i) H) valid;
      few = omega (arith, size, mapped, bound);
      rising = rising_of (λ x y. is_def_before x.def y.def) has (rises_unmap DefBefore (λ y. y.def) has rises);
      known = all_of (λ x. is_def_up_to d (map (top H i) (vdu_numbers d)) x.def) has
          (λ y among. known_item width m H legal i d described y.def (item_as width m H legal i (defs_up_to d (top H i)) y among).stands);
      tops = (let counted = length-map (vdu_numbers d) (top H i) in let ranged = range_length 0 (length d.vdus) in
          omega (arith, counted, ranged));
      small = all_of (λ n. ltb n 2147483648) (map (top H i) (vdu_numbers d))
          (λ n among.
          let from = of_map (top H i) n (vdu_numbers d) among in
          subst (λ (k : ℕ). ltb k 2147483648 ≡ true) from.2 (lt-ltb (top H i from.0) 2147483648 (small from.0)));
    }
