-- What the effect of an attempt does to what is held.
use Rattle.std.proofs.Common.{◌≡◌, ◌&&◌, ◌==◌, ◌||◌, ◌∙◌, ℕ, List, [], ◌∷◌, Bool, true, false, cond, Option, None, Some, inl, inr, refl, ap}
use Rattle.std.proofs.Common.{sym, subst, filter, if◌then◌else◌, eqb-true, eq-eqb}
use Rattle.std.specs.List.{list_any}
use Rattle.std.specs.Option.{option_map_or}
use Rattle.std.specs.Prelude.{option_and_then, option_map}
use Rattle.lcm_events.specs.Same.{kind_number, same_kind}
use Rattle.lcm_events.specs.declared.attempts.Outcome.TheVariants.{Done}
use Rattle.lcm_events.specs.declared.attempts.Tag.{Tag}
use Rattle.lcm_events.specs.declared.attempts.Way.{Way}
use Rattle.lcm_events.specs.declared.attempts.Way.TheVariants.{Forward, Undo}
use Rattle.lcm_events.specs.declared.changes.Def.{Def}
use Rattle.lcm_events.specs.declared.changes.DefKind.TheVariants.{Compute}
use Rattle.lcm_events.specs.declared.changes.Verb.TheVariants.{Create, Remove, Start, Stop}
use Rattle.lcm_events.specs.declared.events.Event.{Event}
use Rattle.lcm_events.specs.declared.events.EventKind.{EventKind}
use Rattle.lcm_events.specs.declared.events.EventKind.TheVariants.{Granted, Settled}
use Rattle.lcm_events.specs.declared.held.Held.{Held}
use Rattle.lcm_events.specs.declared.places.Place.{Place}
use Rattle.lcm_model.specs.declared.holding.Effect.{Effect}
use Rattle.lcm_model.specs.Words.{IsIn, first, told}
use Rattle.lcm_model.specs.Grants.{GrantAnswer, answers, granted_place, has_ended, is_covering, is_granted, is_last}
use Rattle.lcm_model.specs.Grants.GrantAnswer.{Covering, Refused, Tried}
use Rattle.lcm_model.specs.Holding.{effect, effect_in, effects, is_creation, is_effect_on, is_forward_creation, leaves_it}
use Rattle.lcm_model.specs.Holding.{leaves_it_running, place, resource, runs, stands}
use Rattle.lcm_model.specs.Instances.{held_at}
use Rattle.lcm_model.specs.Allowed.{IsAllowedWithin, IsLegalWithin}
use Rattle.lcm_laws.proofs.EndLaws.{open_state}
use Rattle.lcm_laws.proofs.GrantLaws.{granted-next, works_granted}
use Rattle.lcm_laws.proofs.Histories.{event, legal_induction}
use Rattle.lcm_laws.proofs.Lists.{by_test}
use Rattle.lcm_laws.proofs.Members.{of_filter}
use Rattle.lcm_laws.proofs.SettledLaws.{open_operation, what_is_done}
use Rattle.lcm_laws.proofs.StandLaws.{of_cons}
use Rattle.held_items.specs.Following.{made, place_made}
use Rattle.held_items.proofs.ListLaws.{running}

-- what is held of a definition, by its parts
abbrev pub of_parts : Def → Bool → Bool → Option (List ℕ) → Option Place → Option Held
of_parts x b r name at = if b then option_and_then (λ name. option_map
    (λ at. record { def = x; resource = name; place = at; running = r }) at) name else None

-- what is held of a definition, by its effects and its place
abbrev of_effects : Def → List Effect → Option Place → Option Held
of_effects x ys at =
    of_parts x (option_map_or leaves_it (option_map (λ y. y.verb) (first ys)) false)
    (same_kind x.kind Compute && option_map_or leaves_it_running (option_map (λ y. y.verb) (first ys)) false)
    (option_map (λ y. y.resource) (first (filter is_creation ys))) at

-- what is held of a definition, by its effects and by what each change was granted
abbrev pub held_by : (ℕ → ℕ → Option Place) → Def → List Effect → Option Held
held_by G x ys = of_effects x ys (option_and_then (λ y. G y.tag.occ y.tag.change) (first (filter is_forward_creation ys)))

pub held_by-is : (H : List Event) (i : ℕ) (x : Def) → held_at H i x ≡ held_by (granted_place H) x (effects H i x)
held_by-is H i x = refl

-- an item is of the definition that it is held for
own_by : (x : Def) (y : Held) (b r : Bool) (name : Option (List ℕ)) (at : Option Place) → of_parts x b r name at ≡ Some y → y.def ≡ x
own_by x y false r name at e = cc
own_by x y true r None at e = cc
own_by x y true r (Some name) None e = cc
own_by x y true r (Some name) (Some at) e = cc

pub held_own : (H : List Event) (i : ℕ) (z : Def) (y : Held) → held_at H i z ≡ Some y → y.def ≡ z
held_own H i z y e = own_by z y (stands H i z) (runs H i z) (resource H i z) (place H i z) e

-- what every effect grants stays, so the places stay
places-same : (G K : ℕ → ℕ → Option Place) (p : Effect → Bool) (ys : List Effect)
    → ((y : Effect) → IsIn y ys → K y.tag.occ y.tag.change ≡ G y.tag.occ y.tag.change)
    → option_and_then (λ y. K y.tag.occ y.tag.change) (first (filter p ys))
    ≡ option_and_then (λ y. G y.tag.occ y.tag.change) (first (filter p ys))
places-same G K p [] e = refl
places-same G K p (y ∷ ys) e = by_test (p y) (λ passes. rw passes (e y (inl refl)))
    (λ fails. rw fails (places-same G K p ys (λ z h. e z (inr h))))

-- where no effect is told and what was granted to effects stays, all stands where it stood
pub place_same : (H H' : List Event) (i : ℕ) (x : Def) → effects H' i x ≡ effects H i x
    → ((y : Effect) → IsIn y (told effect_in H) → granted_place H' y.tag.occ y.tag.change ≡ granted_place H y.tag.occ y.tag.change)
    → place H' i x ≡ place H i x
place_same H H' i x same places =
    ap (λ ys. option_and_then (λ y. granted_place H' y.tag.occ y.tag.change) (first (filter is_forward_creation ys))) same
    ∙ places-same (granted_place H) (granted_place H') is_forward_creation (effects H i x)
    (λ y h. places y (of_filter (is_effect_on i x) y (told effect_in H) h).0)

-- where no effect is told and what was granted to effects stays, all is held as before
pub held_same : (H H' : List Event) (i : ℕ) (x : Def) → effects H' i x ≡ effects H i x
    → ((y : Effect) → IsIn y (told effect_in H) → granted_place H' y.tag.occ y.tag.change ≡ granted_place H y.tag.occ y.tag.change)
    → held_at H' i x ≡ held_at H i x
held_same H H' i x same places =
    ap (λ ys. of_effects x ys (place H' i x)) same ∙ ap (λ p. of_effects x (effects H i x) p) (place_same H H' i x same places)

-- the effects once one more is told
pub effects-next : (H : List Event) (time : ℕ) (k : EventKind) (i : ℕ) (x : Def) (y : Effect) → effect_in H k ≡ Some y
    → effects (event time k ∷ H) i x ≡ cond (is_effect_on i x y) (y ∷ effects H i x) (effects H i x)
effects-next H time k i x y e = rw e refl

-- the history once an attempt is done
abbrev pub with_done : List Event → ℕ → Tag → List ℕ → List Event
with_done H time t name = event time (Settled t (Done name)) ∷ H

-- an effect on something else leaves what is held
pub held_off : (H : List Event) (time : ℕ) (t : Tag) (name : List ℕ) (i : ℕ) (x : Def) (y : Effect)
    → effect_in H (Settled t (Done name)) ≡ Some y → is_effect_on i x y ≡ false
    → held_at (with_done H time t name) i x ≡ held_at H i x
held_off H time t name i x y e off =
    held_same H (with_done H time t name) i x (effects-next H time (Settled t (Done name)) i x y e ∙ rw off refl) (λ z h. refl)

pub held_on : (H : List Event) (time : ℕ) (t : Tag) (name : List ℕ) (i : ℕ) (x : Def) (y : Effect)
    → effect_in H (Settled t (Done name)) ≡ Some y → is_effect_on i x y ≡ true
    → held_at (with_done H time t name) i x ≡ held_by (granted_place H) x (y ∷ effects H i x)
held_on H time t name i x y e here =
    let now : effects (with_done H time t name) i x ≡ y ∷ effects H i x =
    effects-next H time (Settled t (Done name)) i x y e ∙ rw here refl in
    ap (λ ys. held_by (granted_place H) x ys) now

-- where what was just made stands
pub place_on : (H : List Event) (time : ℕ) (t : Tag) (name : List ℕ) (i : ℕ) (x : Def) (y : Effect) (w : Way)
    → effect_in H (Settled t (Done name)) ≡ Some y → is_effect_on i x y ≡ true
    → y.verb ≡ Create → y.tag ≡ t → t.way ≡ w → place (with_done H time t name) i x ≡ place_made H t w i x
place_on H time t name i x y Forward e here verb tag way =
    let now : effects (with_done H time t name) i x ≡ y ∷ effects H i x =
    effects-next H time (Settled t (Done name)) i x y e ∙ rw here refl in
    ap (λ ys. option_and_then (λ y. granted_place H y.tag.occ y.tag.change) (first (filter is_forward_creation ys))) now
    ∙ rw (verb, tag, way) refl
place_on H time t name i x y Undo e here verb tag way =
    let now : effects (with_done H time t name) i x ≡ y ∷ effects H i x =
    effects-next H time (Settled t (Done name)) i x y e ∙ rw here refl in
    ap (λ ys. option_and_then (λ y. granted_place H y.tag.occ y.tag.change) (first (filter is_forward_creation ys))) now
    ∙ rw (verb, tag, way) refl

and_true_only : (b : Bool) → (b && true) ≡ b
and_true_only true = refl
and_true_only false = refl

and_false_only : (b : Bool) → (b && false) ≡ false
and_false_only true = refl
and_false_only false = refl

-- what is removed isn't held
pub held_removed : (G : ℕ → ℕ → Option Place) (x : Def) (y : Effect) (ys : List Effect) → y.verb ≡ Remove → held_by G x (y ∷ ys) ≡ None
held_removed G x y ys verb = rw verb refl

-- what is made is held where it is made
pub held_made : (H : List Event) (t : Tag) (i : ℕ) (x : Def) (y : Effect) (w : Way) → y.verb ≡ Create → y.tag ≡ t → t.way ≡ w
    → held_by (granted_place H) x (y ∷ effects H i x) ≡ option_map (made x y.resource) (place_made H t w i x)
held_made H t i x y Forward verb tag way = let same = and_true_only (same_kind x.kind Compute) in rw (verb, tag, way, same) refl
held_made H t i x y Undo verb tag way = let same = and_true_only (same_kind x.kind Compute) in rw (verb, tag, way, same) refl

turned_parts : (x : Def) (b r q : Bool) (name : Option (List ℕ)) (at : Option Place) → b ≡ true
    → of_parts x true q name at ≡ option_map (running q) (of_parts x b r name at)
turned_parts x false r q name at e = cc
turned_parts x true r q None at e = refl
turned_parts x true r q (Some name) None e = refl
turned_parts x true r q (Some name) (Some at) e = refl

-- what is started or stopped is held as before, and runs or doesn't
pub held_started : (H : List Event) (i : ℕ) (x : Def) (y : Effect) → y.verb ≡ Start → x.kind ≡ Compute → stands H i x ≡ true
    → held_by (granted_place H) x (y ∷ effects H i x) ≡ option_map (running true) (held_at H i x)
held_started H i x y verb kind s =
    let compute : same_kind x.kind Compute ≡ true = eq-eqb (kind_number x.kind) 2 (ap kind_number kind) in
    let now : held_by (granted_place H) x (y ∷ effects H i x) ≡ of_parts x true true (resource H i x) (place H i x) =
    rw (verb, compute) refl in
    now ∙ turned_parts x (stands H i x) (runs H i x) true (resource H i x) (place H i x) s

pub held_stopped : (H : List Event) (i : ℕ) (x : Def) (y : Effect) → y.verb ≡ Stop → stands H i x ≡ true
    → held_by (granted_place H) x (y ∷ effects H i x) ≡ option_map (running false) (held_at H i x)
held_stopped H i x y verb s =
    let same = and_false_only (same_kind x.kind Compute) in
    let now : held_by (granted_place H) x (y ∷ effects H i x) ≡ of_parts x true false (resource H i x) (place H i x) =
    rw (verb, same) refl in
    now ∙ turned_parts x (stands H i x) (runs H i x) false (resource H i x) (place H i x) s

-- the operation of every effect was granted
abbrev AreGranted : List Event → Type 0
AreGranted H = (y : Effect) → IsIn y (told effect_in H) → is_granted H y.tag.occ ≡ true

granted_new : (width m : ℕ) (H : List Event) (k : EventKind) (y : Effect) → IsLegalWithin width m H → IsAllowedWithin width m H k
    → effect_in H k ≡ Some y → is_granted H y.tag.occ ≡ true
unfolding effect_in
granted_new width m H (Settled t out) y legal allowed is =
    let mine = open_operation width m H t legal allowed in
    elim (what_is_done H 0 t out mine.0 mine.1) [
      | inl nothing ↦ (let clash : None ≡ Some y = sym nothing.0 ∙ is in cc)
      | inr change ↦
          (let both : Some (effect t change.0 mine.0 change.1) ≡ Some y = sym change.4 ∙ is in
          let same : effect t change.0 mine.0 change.1 ≡ y = cc in
          subst (λ (z : Effect). is_granted H z.tag.occ ≡ true) same (works_granted width m H legal t.occ t.way
          (open_state width m H legal t allowed)))
    ]
granted_new width m H _ y legal allowed is = cc

granted_step : (width m : ℕ) (H : List Event) (time : ℕ) (k : EventKind) → IsLegalWithin width m H → IsAllowedWithin width m H k
    → AreGranted H → AreGranted (event time k ∷ H)
granted_step width m H time k legal allowed h y among = elim (of_cons y (effect_in H k) (told effect_in H) among) [
  | inl is ↦ granted-next H time k y.tag.occ (granted_new width m H k y legal allowed is)
  | inr before ↦ granted-next H time k y.tag.occ (h y before)
]

pub are_granted : (width m : ℕ) (H : List Event) → IsLegalWithin width m H → AreGranted H
are_granted width m H legal = legal_induction width m AreGranted (λ y among. absurd among)
    (λ H time k legal allowed h. granted_step width m H time k legal allowed h) H legal

last_too : (a : GrantAnswer) → is_covering a ≡ true → is_last a ≡ true
last_too Covering e = refl
last_too Refused e = cc
last_too (Tried answer) e = cc

any_last : (xs : List GrantAnswer) → list_any is_covering xs ≡ true → list_any is_last xs ≡ true
any_last [] e = cc
any_last (a ∷ xs) e = by_test (is_covering a)
    (λ covers. let ends : is_last a ≡ true = last_too a covers in rw ends refl)
    (λ not_yet.
    let rest : list_any is_last xs ≡ true = any_last xs (subst (λ (b : Bool). (b || list_any is_covering xs) ≡ true) not_yet e) in
    by_test (is_last a) (λ ends. rw ends refl) (λ goes. rw goes rest))

-- what is granted has ended
granted_ended : (H : List Event) (o : ℕ) → is_granted H o ≡ true → has_ended H o ≡ true
granted_ended H o e = let ends : list_any is_last (answers H o) ≡ true = any_last (answers H o) e in rw ends refl

-- a grant is of an operation that no effect is of
granted_once : (H : List Event) (n o : ℕ) → has_ended H n ≡ false → is_granted H o ≡ true → (n == o) ≡ false
granted_once H n o goes granted = by_test (n == o)
    (λ same.
    let here : has_ended H n ≡ true = subst (λ (k : ℕ). has_ended H k ≡ true) (sym (eqb-true n o same)) (granted_ended H o granted) in
    let clash : true ≡ false = sym here ∙ goes in cc)
    (λ other. other)

place_off : (H : List Event) (time n : ℕ) (grant : List ℕ) (places : List Place) (spots : List ℕ) (o c : ℕ) → (n == o) ≡ false
    → granted_place (event time (Granted n grant places spots) ∷ H) o c ≡ granted_place H o c
place_off H time n grant places spots o c other = rw other refl

-- no event changes what was granted to effects
pub places_stay : (width m : ℕ) (H : List Event) (time : ℕ) (k : EventKind) → IsLegalWithin width m H → IsAllowedWithin width m H k
    → (y : Effect) → IsIn y (told effect_in H)
    → granted_place (event time k ∷ H) y.tag.occ y.tag.change ≡ granted_place H y.tag.occ y.tag.change
places_stay width m H time (Granted n grant places spots) legal allowed y among =
    place_off H time n grant places spots y.tag.occ y.tag.change (granted_once H n y.tag.occ allowed.asking.goes_on
    (are_granted width m H legal y among))
places_stay width m H time _ legal allowed y among = refl
