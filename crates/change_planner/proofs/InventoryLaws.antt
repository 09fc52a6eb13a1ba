-- The holding of an instance says what the history does.
use Rattle.std.proofs.Common.{◌≡◌, ◌≤◌, ◌<◌, ◌+◌, ◌&&◌, ◌||◌, ◌∙◌, ℕ, zero, suc, List, [], ◌∷◌, Bool, true, false, None, Some, refl, ap}
use Rattle.std.proofs.Common.{sym, subst, length, map, filter, arith, inl, inr, ltb, eqb-true, slice_get, ltb-true, ltb-false}
use Rattle.std.proofs.Math.Path.{fun_ext}
use Rattle.std.specs.List.{list_any, range_with_len}
use Rattle.std.specs.Prelude.{unwrap_or}
use Rattle.lcm_events.specs.Same.{same_def}
use Rattle.lcm_events.proofs.SameLaws.{same_def-refl, same_def-true}
use Rattle.lcm_events.specs.declared.asks.Ask.{Ask}
use Rattle.lcm_events.specs.declared.changes.Def.{Def}
use Rattle.lcm_events.specs.declared.changes.DefKind.{DefKind}
use Rattle.lcm_events.specs.declared.changes.DefKind.TheVariants.{Compute, Link, Port, Storage}
use Rattle.lcm_events.specs.declared.descriptor.Vnfd.{Vnfd}
use Rattle.lcm_events.specs.declared.events.Event.{Event}
use Rattle.lcm_events.specs.declared.events.Operation.{Operation}
use Rattle.lcm_events.specs.declared.held.Held.{Held}
use Rattle.lcm_laws.proofs.AskLaws.{runs-stands}
use Rattle.lcm_laws.proofs.HoldingLaws.{holding_exact, map_get, range_get}
use Rattle.lcm_laws.proofs.Lists.{and_left, and_right, and_true, by_test}
use Rattle.lcm_laws.proofs.Members.{any_in, in_map, of_filter, of_map}
use Rattle.lcm_laws.proofs.StandLaws.{described}
use Rattle.lcm_laws.specs.Holdings.{HoldsWhatStands}
use Rattle.lcm_model.specs.Allowed.{IsLegalWithin}
use Rattle.lcm_model.specs.Holding.{is_of_instance, is_of_vdu, runs, serial_of, stands, top, top_in}
use Rattle.lcm_model.specs.Instances.{holding, inventory_of, levels}
use Rattle.lcm_model.specs.Levels.{target}
use Rattle.lcm_model.specs.Lives.{descriptor}
use Rattle.lcm_model.specs.Operations.{operations}
use Rattle.lcm_model.specs.Plans.{Case, plan}
use Rattle.lcm_model.specs.Vnfcs.{Inventory, is_def_in, is_def_of, vdu_numbers}
use Rattle.lcm_model.specs.Words.{IsIn, greatest}
use Rattle.change_planner.specs.Inventories.{HoldingsAreInventories, PlansAreThoseOfHistories}

-- what passes a test is in the list
pub of_any : {A : Type 0} → (p : A → Bool) (xs : List A) → list_any p xs ≡ true → (x : A) × IsIn x xs × (p x ≡ true)
of_any p [] e = absurd cc
of_any p (x ∷ xs) e = by_test (p x)
    (λ passes. (x, inl refl, passes))
    (λ fails. let rest = of_any p xs (subst (λ (b : Bool). (b || list_any p xs) ≡ true) fails e) in (rest.0, inr rest.1, rest.2))

-- two tests are the same where each is true where the other is
pub same_test : (a b : Bool) → (a ≡ true → b ≡ true) → (b ≡ true → a ≡ true) → a ≡ b
same_test true true f g = refl
same_test true false f g = sym (f refl)
same_test false true f g = g refl
same_test false false f g = refl

-- what a list of items says
abbrev pub says_stands : List Held → Def → Bool
says_stands ys x = list_any (λ y. same_def y.def x) ys

abbrev pub says_runs : List Held → Def → Bool
says_runs ys x = list_any (λ y. same_def y.def x && y.running) ys

pub said : (ys : List Held) (x : Def) → IsIn x (map (λ y. y.def) ys) → says_stands ys x ≡ true
said ys x h =
    let from = of_map (λ (y : Held). y.def) x ys h in
    let same : same_def from.0.def x ≡ true = subst (λ (z : Def). same_def from.0.def z ≡ true) from.2 (same_def-refl from.0.def) in
    any_in (λ y. same_def y.def x) from.0 ys from.1 same

pub says : (ys : List Held) (x : Def) → says_stands ys x ≡ true → IsIn x (map (λ y. y.def) ys)
says ys x e =
    let from = of_any (λ (y : Held). same_def y.def x) ys e in
    subst (λ (z : Def). IsIn z (map (λ y. y.def) ys)) (same_def-true from.0.def x from.2) (in_map (λ (y : Held). y.def) from.0 ys from.1)

stands_same : (d : Vnfd) (H : List Event) (i : ℕ) (x : Def) → HoldsWhatStands d H i → says_stands (holding d H i).items x ≡ stands H i x
stands_same d H i x h = same_test (says_stands (holding d H i).items x) (stands H i x)
    (λ e. (h.exactly x).1 (says (holding d H i).items x e))
    (λ e. said (holding d H i).items x ((h.exactly x).0 e))

runs_here : (d : Vnfd) (H : List Event) (i : ℕ) (x : Def) → HoldsWhatStands d H i → says_runs (holding d H i).items x ≡ true
    → runs H i x ≡ true
runs_here d H i x h e =
    let from = of_any (λ (y : Held). same_def y.def x && y.running) (holding d H i).items e in
    let same : from.0.def ≡ x = same_def-true from.0.def x (and_left _ _ from.2) in
    let moving : runs H i from.0.def ≡ true = (h.as_it_stands from.0 from.1).running
    ∙ and_right (same_def from.0.def x) from.0.running from.2 in
    subst (λ (z : Def). runs H i z ≡ true) same moving

runs_said : (d : Vnfd) (H : List Event) (i : ℕ) (x : Def) → HoldsWhatStands d H i → runs H i x ≡ true
    → says_runs (holding d H i).items x ≡ true
runs_said d H i x h e =
    let from = of_map (λ (y : Held). y.def) x (holding d H i).items ((h.exactly x).0 (runs-stands H i x e)) in
    let same : same_def from.0.def x ≡ true = subst (λ (z : Def). same_def from.0.def z ≡ true) from.2 (same_def-refl from.0.def) in
    let running : from.0.running ≡ true = sym (h.as_it_stands from.0 from.1).running
    ∙ subst (λ (z : Def). runs H i z ≡ true) (sym from.2) e in
    any_in (λ y. same_def y.def x && y.running) from.0 (holding d H i).items from.1 (and_true _ _ same running)

-- the greatest serials
range_past : (a n v : ℕ) → n ≤ v → slice_get (range_with_len a n) v ≡ None
range_past a zero v h = refl
range_past a (suc n) zero h = absurd (omega (arith, h))
range_past a (suc n) (suc v) h = range_past (a + 1) n v (omega (arith, h))

map_past : {A B : Type 0} → (f : A → B) (xs : List A) (n : ℕ) → slice_get xs n ≡ None → slice_get (map f xs) n ≡ None
map_past f [] n e = refl
map_past f (y ∷ xs) zero e = absurd cc
map_past f (y ∷ xs) (suc n) e = map_past f xs n e

pub top_within : (d : Vnfd) (f : ℕ → ℕ) (v : ℕ) → v < length d.vdus → unwrap_or (slice_get (map f (vdu_numbers d)) v) 0 ≡ f v
top_within d f v h =
    let at : slice_get (map f (vdu_numbers d)) v ≡ Some (f (0 + v)) =
    map_get f (vdu_numbers d) v (0 + v) (range_get 0 (length d.vdus) v h) in
    let same : 0 + v ≡ v = omega arith in
    rw at (ap f same)

none_greatest : {A : Type 0} → (f : A → ℕ) (xs : List A) → ((x : A) → IsIn x xs → f x ≡ 0) → greatest (map f xs) ≡ 0
none_greatest f [] h = refl
none_greatest f (x ∷ xs) h =
    let here = h x (inl refl) in let rest = none_greatest f xs (λ y g. h y (inr g)) in omega (arith, here, rest)

serial_none : (d : Vnfd) (kind : DefKind) (x : Def) → is_def_in d kind x ≡ true → length d.vdus ≤ x.vdu → x.serial ≡ 0
serial_none d Link x e h = eqb-true x.serial 0 (and_right _ _ e)
serial_none d Storage x e h = let less : x.vdu < length d.vdus = ltb-true x.vdu (length d.vdus) (and_left _ _ (and_left _ _ e)) in
    absurd (omega (arith, less, h))
serial_none d Compute x e h = let less : x.vdu < length d.vdus = ltb-true x.vdu (length d.vdus) (and_left _ _ (and_left _ _ e)) in
    absurd (omega (arith, less, h))
serial_none d Port x e h = let less : x.vdu < length d.vdus = ltb-true x.vdu (length d.vdus) (and_left _ _ (and_left _ _ e)) in
    absurd (omega (arith, less, h))

top_in_none : (width m : ℕ) (H : List Event) → IsLegalWithin width m H → (i : ℕ) (d : Vnfd) → descriptor H i ≡ Some d → (v : ℕ)
    → length d.vdus ≤ v
    → (a : Operation) → IsIn a (filter (is_of_instance i) (operations H)) → top_in v a ≡ 0
unfolding top_in
top_in_none width m H legal i d known v past a h =
    let mine = of_filter (is_of_instance i) a (operations H) h in
    let here : a.instance ≡ i = eqb-true a.instance i mine.1 in
    none_greatest serial_of (filter (is_of_vdu v) a.changes) (λ c g.
    let from = of_filter (is_of_vdu v) c a.changes g in
    let at : c.def.vdu ≡ v = eqb-true c.def.vdu v from.1 in
    let of = described width m H legal a mine.0 c from.0 in
    let other : Some of.0 ≡ Some d = sym of.1 ∙ (ap (descriptor H) here ∙ known) in
    let same : of.0 ≡ d = cc in
    serial_none d c.def.kind c.def (subst (λ (y : Vnfd). is_def_of y c.def ≡ true) same of.2) (omega (arith, at, past)))

top_same : (width m : ℕ) (H : List Event) → IsLegalWithin width m H → (i : ℕ) (d : Vnfd) → descriptor H i ≡ Some d → (v : ℕ)
    → unwrap_or (slice_get (map (top H i) (vdu_numbers d)) v) 0 ≡ top H i v
top_same width m H legal i d known v = by_test (ltb v (length d.vdus))
    (λ within. top_within d (top H i) v (ltb-true v (length d.vdus) within))
    (λ past.
    let beyond : length d.vdus ≤ v = ltb-false v (length d.vdus) past in
    let none : slice_get (map (top H i) (vdu_numbers d)) v ≡ None =
    map_past (top H i) (vdu_numbers d) v (range_past 0 (length d.vdus) v beyond) in
    let zero_top : top H i v ≡ 0 = none_greatest (top_in v) (filter (is_of_instance i) (operations H))
    (top_in_none width m H legal i d known v beyond) in
    rw none (sym zero_top))

inventory_by : (Def → Bool) → (Def → Bool) → (ℕ → ℕ) → Inventory
inventory_by s r t = record { stands = s; runs = r; top = t }

inventory_join : (s s' r r' : Def → Bool) (t t' : ℕ → ℕ) → s ≡ s' → r ≡ r' → t ≡ t' → inventory_by s r t ≡ inventory_by s' r' t'
inventory_join s s' r r' t t' a b c = cc

-- the holding says what the history does
pub holding_tells : HoldingsAreInventories
unfolding inventory_by
holding_tells width m H legal i d known =
    let exact = holding_exact width m H legal i d known in
    inventory_join (inventory_of (holding d H i)).stands (stands H i) (inventory_of (holding d H i)).runs (runs H i)
    (inventory_of (holding d H i)).top (top H i)
    (fun_ext (λ x. stands_same d H i x exact))
    (fun_ext (λ x. same_test (says_runs (holding d H i).items x) (runs H i x) (runs_here d H i x exact) (runs_said d H i x exact)))
    (fun_ext (λ v. top_same width m H legal i d known v))

case_with : Vnfd → Ask → List ℕ → Inventory → Case
case_with d ask to held = record { vnfd = d; held = held; ask = ask; to = to }

-- the plan over the holding is the plan over the history
pub plans_agree : PlansAreThoseOfHistories
unfolding case_with
plans_agree width m H legal i d known ask =
    ap (λ held. plan (case_with d ask (target d (levels d H i) ask) held)) (holding_tells width m H legal i d known)
