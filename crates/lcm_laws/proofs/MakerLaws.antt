-- What stands was made: it has a resource and a place.
use Rattle.std.proofs.Common.{◌≡◌, ◌<◌, ◌==◌, ◌∙◌, ℕ, List, [], ◌∷◌, true, false, Option, None, Some, is_some, refl, sym, subst, length}
use Rattle.std.proofs.Common.{filter, inl, inr, slice_get, eqb-true, eq-eqb}
use Rattle.std.specs.Option.{option_map_or}
use Rattle.std.specs.Prelude.{option_and_then, option_map}
use Rattle.lcm_events.specs.Same.{same_def, same_verb, same_way}
use Rattle.lcm_events.proofs.SameLaws.{same_def-refl, same_def-true}
use Rattle.lcm_events.specs.declared.attempts.Way.{Way}
use Rattle.lcm_events.specs.declared.attempts.Way.TheVariants.{Forward, Undo}
use Rattle.lcm_events.specs.declared.changes.Change.{Change}
use Rattle.lcm_events.specs.declared.changes.Def.{Def}
use Rattle.lcm_events.specs.declared.changes.Verb.{Verb}
use Rattle.lcm_events.specs.declared.changes.Verb.TheVariants.{Create, Remove, Start, Stop}
use Rattle.lcm_events.specs.declared.descriptor.Vnfd.{Vnfd}
use Rattle.lcm_events.specs.declared.events.Event.{Event}
use Rattle.lcm_events.specs.declared.events.EventKind.{EventKind}
use Rattle.lcm_events.specs.declared.events.EventKind.TheVariants.{Asked, Settled}
use Rattle.lcm_events.specs.declared.events.Operation.{Operation}
use Rattle.lcm_model.specs.declared.holding.Effect.{Effect}
use Rattle.lcm_model.specs.Words.{IsIn, first, told}
use Rattle.lcm_model.specs.Grants.{granted_place, is_granted}
use Rattle.lcm_model.specs.Operations.{changes, operation, operations, verb_done}
use Rattle.lcm_model.specs.Holding.{effect, effect_in, effects, is_creation, is_effect_on, is_forward_creation, leaves_it, place, resource}
use Rattle.lcm_model.specs.Holding.{stands}
use Rattle.lcm_model.specs.Lives.{descriptor}
use Rattle.lcm_model.specs.Plans.{Case}
use Rattle.lcm_model.specs.Planned.{IsPlannedBy}
use Rattle.lcm_model.specs.Refusals.{case_in, situation}
use Rattle.lcm_model.specs.Allowed.{IsAllowedWithin, IsLegalWithin, IsPlanOf}
use Rattle.lcm_laws.proofs.Histories.{event, legal_induction}
use Rattle.lcm_laws.proofs.Lists.{and_left, and_right, and_true}
use Rattle.lcm_laws.proofs.Members.{get_in, get_within, in_filter, of_filter}
use Rattle.lcm_laws.proofs.AskLaws.{runs-stands}
use Rattle.lcm_laws.proofs.EndLaws.{open_state}
use Rattle.lcm_laws.proofs.GrantLaws.{all_placed, granted-next, works_granted}
use Rattle.lcm_laws.proofs.NumberLaws.{operation-next}
use Rattle.lcm_laws.proofs.PlanHistory.{found_in}
use Rattle.lcm_laws.proofs.PlanMembers.{in_plan-planned}
use Rattle.lcm_laws.proofs.SettledLaws.{open_operation, what_is_done}
use Rattle.lcm_laws.proofs.StandLaws.{in_cons, of_cons}

-- where an effect comes from: a change of an operation that was granted
record Source (H : List Event) (y : Effect) : Type 0 where
  a : Operation
  c : Change
  found : operation H y.tag.occ ≡ Some a
  at : slice_get a.changes y.tag.change ≡ Some c
  instance : a.instance ≡ y.instance
  def : c.def ≡ y.def
  verb : y.verb ≡ verb_done y.tag.way c.verb
  granted : is_granted H y.tag.occ ≡ true

new_source : (width m : ℕ) (H : List Event) (k : EventKind) (y : Effect) → IsLegalWithin width m H → IsAllowedWithin width m H k
    → effect_in H k ≡ Some y → Source H y
unfolding effect_in
new_source width m H (Settled t out) y legal allowed is =
    let mine = open_operation width m H t legal allowed in
    elim (what_is_done H 0 t out mine.0 mine.1) [
      | inl nothing ↦ (let clash : None ≡ Some y = sym nothing.0 ∙ is in cc)
      | inr change ↦
          (let both : Some (effect t change.0 mine.0 change.1) ≡ Some y = sym change.4 ∙ is in
          let same : effect t change.0 mine.0 change.1 ≡ y = cc in
          subst (λ (z : Effect). Source H z) same (record {
            a = mine.0;
            c = change.1;
            found = mine.1;
            at = change.3;
            instance = refl;
            def = refl;
            verb = refl;
            granted = works_granted width m H legal t.occ t.way (open_state width m H legal t allowed);
          }))
    ]
new_source width m H _ y legal allowed is = cc

source-next : (width m : ℕ) (H : List Event) (time : ℕ) (k : EventKind) (y : Effect) → IsLegalWithin width m H → IsAllowedWithin width m H k
    → Source H y
    → Source (event time k ∷ H) y
source-next width m H time k y legal allowed h = record {
  a = h.a;
  c = h.c;
  found = operation-next width m H time k y.tag.occ h.a legal allowed h.found;
  at = h.at;
  instance = h.instance;
  def = h.def;
  verb = h.verb;
  granted = granted-next H time k y.tag.occ h.granted;
}

source_step : (width m : ℕ) (H : List Event) (time : ℕ) (k : EventKind) → IsLegalWithin width m H → IsAllowedWithin width m H k
    → ((y : Effect) → IsIn y (told effect_in H) → Source H y) → (y : Effect) → IsIn y (told effect_in (event time k ∷ H))
    → Source (event time k ∷ H) y
source_step width m H time k legal allowed h y among = elim (of_cons y (effect_in H k) (told effect_in H) among) [
  | inl is ↦ source-next width m H time k y legal allowed (new_source width m H k y legal allowed is)
  | inr before ↦ source-next width m H time k y legal allowed (h y before)
]

-- every effect comes from a change of an operation that was granted
source : (width m : ℕ) (H : List Event) → IsLegalWithin width m H → (y : Effect) → IsIn y (told effect_in H) → Source H y
source width m H legal =
    legal_induction width m (λ H. (y : Effect) → IsIn y (told effect_in H) → Source H y) (λ y among. absurd among)
    (λ H time k legal allowed h. source_step width m H time k legal allowed h) H legal

-- an effect that made the definition of the instance, and wasn't an undo
abbrev Made : List Event → ℕ → Def → Type 0
Made H i x = (y : Effect) × IsIn y (told effect_in H) × (is_effect_on i x y ≡ true) × (is_forward_creation y ≡ true)

made-next : (H : List Event) (e : Event) (i : ℕ) (x : Def) → Made H i x → Made (e ∷ H) i x
made-next H e i x h = (h.0, in_cons h.0 (effect_in H e.kind) (told effect_in H) h.1, h.2, h.3)

-- what the changes that don't make anything are about was made
abbrev OthersMade : List Event → Type 0
OthersMade H = (a : Operation) → IsIn a (operations H) → (k : Change) → IsIn k a.changes → (k.verb ≡ Create → ⊥) → Made H a.instance k.def

last_of : (ys : List Effect) → option_map_or leaves_it (option_map (λ y. y.verb) (first ys)) false ≡ true
    → (y : Effect) × IsIn y ys × (leaves_it y.verb ≡ true)
last_of [] e = cc
last_of (y ∷ ys) e = (y, inl refl, e)

on_it : (i : ℕ) (x : Def) (y : Effect) → y.instance ≡ i → y.def ≡ x → is_effect_on i x y ≡ true
on_it i x y at on =
    and_true (y.instance == i) (same_def y.def x) (eq-eqb y.instance i at)
    (subst (λ (z : Def). same_def y.def z ≡ true) on (same_def-refl y.def))

forward_made : (y : Effect) (w : Way) (v : Verb) → y.tag.way ≡ w → y.verb ≡ v → v ≡ Create → w ≡ Forward → is_forward_creation y ≡ true
forward_made y w v way verb make forward =
    let e : y.verb ≡ Create = verb ∙ make in
    let f : y.tag.way ≡ Forward = way ∙ forward in
    rw (e, f) refl

by_source : (H : List Event) (i : ℕ) (x : Def) (y : Effect) (w : Way) (v : Verb) → IsIn y (told effect_in H) → y.instance ≡ i → y.def ≡ x
    → y.tag.way ≡ w → y.verb ≡ verb_done w v → leaves_it y.verb ≡ true → ((v ≡ Create → ⊥) → Made H i x) → Made H i x
by_source H i x y Forward Create among at on way verb leaves other =
    (y, among, on_it i x y at on, forward_made y Forward Create way verb refl refl)
by_source H i x y Undo Create among at on way verb leaves other =
    let clash : leaves_it Remove ≡ true = subst (λ (u : Verb). leaves_it u ≡ true) verb leaves in cc
by_source H i x y w Remove among at on way verb leaves other = other (λ e. cc)
by_source H i x y w Start among at on way verb leaves other = other (λ e. cc)
by_source H i x y w Stop among at on way verb leaves other = other (λ e. cc)

-- what stands was made
stands_made : (width m : ℕ) (H : List Event) → IsLegalWithin width m H → OthersMade H → (i : ℕ) (x : Def) → stands H i x ≡ true → Made H i x
stands_made width m H legal others i x h =
    let last = last_of (effects H i x) h in
    let passed = of_filter (is_effect_on i x) last.0 (told effect_in H) last.1 in
    let at : last.0.instance ≡ i = eqb-true last.0.instance i (and_left (last.0.instance == i) (same_def last.0.def x) passed.1) in
    let on : last.0.def ≡ x = same_def-true last.0.def x (and_right (last.0.instance == i) (same_def last.0.def x) passed.1) in
    let from : Source H last.0 = source width m H legal last.0 passed.0 in
    by_source H i x last.0 last.0.tag.way from.c.verb passed.0 at on refl from.verb last.2
    (λ other.
    let made : Made H from.a.instance from.c.def =
    others from.a (found_in (λ b. b.occ == last.0.tag.occ) (operations H) from.a from.found) from.c
    (get_in from.c from.a.changes last.0.tag.change from.at) other in
    let here : Made H i from.c.def = subst (λ (n : ℕ). Made H n from.c.def) (from.instance ∙ at) made in
    subst (λ (z : Def). Made H i z) (from.def ∙ on) here)

-- a change that doesn't make anything is planned where its definition stands
planned_stands : (p : Case) (v : Verb) (x : Def) → ((y : Def) → p.held.runs y ≡ true → p.held.stands y ≡ true) → (v ≡ Create → ⊥)
    → IsPlannedBy p v x → p.held.stands x ≡ true
planned_stands p Create x f other h = absurd (other refl)
planned_stands p Remove x f other h = h.0
planned_stands p Start x f other h = h.3
planned_stands p Stop x f other h = f x h.3

asked_stands_of : (H : List Event) (a : Operation) (d : Option Vnfd) → IsPlanOf H a d → (k : Change) → IsIn k a.changes
    → (k.verb ≡ Create → ⊥)
    → stands H a.instance k.def ≡ true
asked_stands_of H a None h k has other = absurd h
asked_stands_of H a (Some d) h k has other =
    let p = case_in d (situation d H a.instance) a.ask in
    planned_stands p k.verb k.def (λ y r. runs-stands H a.instance y r) other
    (in_plan-planned p k (subst (λ (ks : List Change). IsIn k ks) h.1 has)).1

pub asked_stands : (width m : ℕ) (H : List Event) (a : Operation) → IsAllowedWithin width m H (Asked a) → (k : Change) → IsIn k a.changes
    → (k.verb ≡ Create → ⊥)
    → stands H a.instance k.def ≡ true
asked_stands width m H a allowed = asked_stands_of H a (descriptor H a.instance) allowed.planned

others_step : (width m : ℕ) (H : List Event) (time : ℕ) (k : EventKind) → IsLegalWithin width m H → IsAllowedWithin width m H k
    → OthersMade H → OthersMade (event time k ∷ H)
others_step width m H time (Asked b) legal allowed h a (inl e) c has other =
    let own : IsIn c b.changes = subst (λ (z : Operation). IsIn c z.changes) (sym e) has in
    let made : Made H b.instance c.def = stands_made width m H legal h b.instance c.def (asked_stands width m H b allowed c own other) in
    subst (λ (z : Operation). Made (event time (Asked b) ∷ H) z.instance c.def) e (made-next H (event time (Asked b)) b.instance c.def made)
others_step width m H time (Asked b) legal allowed h a (inr g) c has other =
    made-next H (event time (Asked b)) a.instance c.def (h a g c has other)
others_step width m H time k legal allowed h a g c has other = made-next H (event time k) a.instance c.def (h a g c has other)

others_made : (width m : ℕ) (H : List Event) → IsLegalWithin width m H → OthersMade H
others_made width m H legal = legal_induction width m OthersMade (λ a h. absurd h)
    (λ H time k legal allowed h. others_step width m H time k legal allowed h) H legal

some_first : {A : Type 0} → (y : A) (ys : List A) → IsIn y ys → is_some (first ys) ≡ true
some_first y [] h = absurd h
some_first y (z ∷ ys) h = refl

first_is_in : {A : Type 0} → (z : A) (ys : List A) → first ys ≡ Some z → IsIn z ys
first_is_in z [] e = cc
first_is_in z (y ∷ ys) e = inl cc

some_mapped : {A B : Type 0} → (f : A → B) (o : Option A) → is_some o ≡ true → is_some (option_map f o) ≡ true
some_mapped f None e = e
some_mapped f (Some x) e = refl

creation_too : (y : Effect) → is_forward_creation y ≡ true → is_creation y ≡ true
creation_too y h = and_left (same_verb y.verb Create) (same_way y.tag.way Forward) h

-- what stands has a resource
pub has_resource : (width m : ℕ) (H : List Event) → IsLegalWithin width m H → (i : ℕ) (x : Def) → stands H i x ≡ true
    → is_some (resource H i x) ≡ true
has_resource width m H legal i x h =
    let made : Made H i x = stands_made width m H legal (others_made width m H legal) i x h in
    let among : IsIn made.0 (filter is_creation (effects H i x)) =
    in_filter is_creation made.0 (effects H i x) (in_filter (is_effect_on i x) made.0 (told effect_in H) made.1 made.2)
    (creation_too made.0 made.3) in
    some_mapped (λ y. y.resource) (first (filter is_creation (effects H i x)))
    (some_first made.0 (filter is_creation (effects H i x)) among)

place_by : (width m : ℕ) (H : List Event) (i : ℕ) (x : Def) (o : Option Effect) → IsLegalWithin width m H
    → first (filter is_forward_creation (effects H i x)) ≡ o
    → is_some o ≡ true → is_some (option_and_then (λ y. granted_place H y.tag.occ y.tag.change) o) ≡ true
place_by width m H i x None legal is some = some
place_by width m H i x (Some z) legal is some =
    let among = of_filter is_forward_creation z (effects H i x) (first_is_in z (filter is_forward_creation (effects H i x)) is) in
    let on = of_filter (is_effect_on i x) z (told effect_in H) among.0 in
    let from : Source H z = source width m H legal z on.0 in
    let named : changes H z.tag.occ ≡ from.a.changes = (let found = from.found in rw found refl) in
    let within : z.tag.change < length (changes H z.tag.occ) =
    subst (λ (xs : List Change). z.tag.change < length xs) (sym named) (get_within from.c from.a.changes z.tag.change from.at) in
    all_placed width m H legal z.tag.occ from.granted z.tag.change within

-- what stands has a place
pub has_place : (width m : ℕ) (H : List Event) → IsLegalWithin width m H → (i : ℕ) (x : Def) → stands H i x ≡ true
    → is_some (place H i x) ≡ true
has_place width m H legal i x h =
    let made : Made H i x = stands_made width m H legal (others_made width m H legal) i x h in
    let among : IsIn made.0 (filter is_forward_creation (effects H i x)) =
    in_filter is_forward_creation made.0 (effects H i x) (in_filter (is_effect_on i x) made.0 (told effect_in H) made.1 made.2) made.3 in
    place_by width m H i x (first (filter is_forward_creation (effects H i x))) legal refl
    (some_first made.0 (filter is_forward_creation (effects H i x)) among)

pub stands_named : (width m : ℕ) (H : List Event) → IsLegalWithin width m H → (i : ℕ) (x : Def) → stands H i x ≡ true
    → (is_some (resource H i x) ≡ true) × (is_some (place H i x) ≡ true)
stands_named width m H legal i x h = (has_resource width m H legal i x h, has_place width m H legal i x h)
