-- An act over the holding of an instance is the work of its attempt.
use Rattle.std.proofs.Common.{◌≡◌, ℕ, List, Option, Some, refl, ap, sym, subst, ◌∙◌}
use Rattle.std.specs.Prelude.{IfOk, Result, Ok, Err, option_and_then, option_map, slice_get}
use Rattle.std.specs.declared.alloc.AllocError.{AllocError}
use Rattle.lcm_events.specs.declared.acts.Act.{Act}
use Rattle.lcm_events.specs.declared.attempts.Tag.{Tag}
use Rattle.lcm_events.specs.declared.attempts.Way.{Way}
use Rattle.lcm_events.specs.declared.attempts.Way.TheVariants.{Forward, Undo}
use Rattle.lcm_events.specs.declared.changes.Change.{Change}
use Rattle.lcm_events.specs.declared.changes.Def.{Def}
use Rattle.lcm_events.specs.declared.changes.Verb.{Verb}
use Rattle.lcm_events.specs.declared.changes.Verb.TheVariants.{Create, Remove, Start, Stop}
use Rattle.lcm_events.specs.declared.descriptor.Vnfd.{Vnfd}
use Rattle.lcm_events.specs.declared.events.Event.{Event}
use Rattle.lcm_events.specs.declared.events.Operation.{Operation}
use Rattle.lcm_events.specs.declared.held.Holding.{Holding}
use Rattle.lcm_events.specs.declared.places.Place.{Place}
use Rattle.lcm_laws.proofs.HoldingLaws.{holding_exact}
use Rattle.lcm_laws.proofs.WorldLaws.{work_needs}
use Rattle.lcm_model.specs.Grants.{granted_place}
use Rattle.lcm_model.specs.Holding.{place}
use Rattle.lcm_model.specs.Instances.{holding}
use Rattle.lcm_model.specs.Lives.{descriptor}
use Rattle.lcm_model.specs.Operations.{undo, verb_done}
use Rattle.change_planner.specs.Acts.{IsOnWhatStands, act, place_of, work}
use Rattle.change_planner.specs.Tags.{IsOfAttempt, act_of, act_on, work_at, work_place}
use Rattle.change_planner.proofs.ActLaws.{acts_on_what_stands}

-- what the attempt needs is held
on_what_stands : (d : Vnfd) (h : Holding) (k : Change) (H : List Event) (t : Tag) → (s : IsOfAttempt d h k H t)
    → IsOnWhatStands d H s.asked.instance (verb_done t.way k.verb) k.def
on_what_stands d h k H t s =
    let exact = holding_exact s.width s.manager H s.legal s.asked.instance d s.described in
    acts_on_what_stands d H s.asked.instance (verb_done t.way k.verb) k.def
    (λ y needed. (exact.exactly y).0 (work_needs s.width s.manager H t s.legal s.allowed s.asked k d s.found s.change s.described y needed))

found_work : (H : List Event) (t : Tag) (a : Operation) (k : Change) (d : Vnfd) (at : Place)
    → work_place H t a.instance t.way k.verb k.def ≡ Some at
    → act_on H t a k ≡ option_and_then (λ d. option_map (work_at H t a k d) (Some at)) (descriptor H a.instance)
found_work H t a k d at e = ap (λ o. option_and_then (λ d. option_map (work_at H t a k d) o) (descriptor H a.instance)) e

-- the act at the attempt's place is its work
pub act_at : (d : Vnfd) (h : Holding) (k : Change) (H : List Event) (t : Tag) (at : Place) → (s : IsOfAttempt d h k H t)
    → work_place H t s.asked.instance t.way k.verb k.def ≡ Some at → act_of H t ≡ Some (act d h (verb_done t.way k.verb) k.def at)
act_at d h k H t at s e =
    let asked : act_of H t ≡ option_and_then (act_on H t s.asked) (slice_get s.asked.changes t.change) =
    ap (λ o. option_and_then (λ a. option_and_then (act_on H t a) (slice_get a.changes t.change)) o) s.found in
    let change : option_and_then (act_on H t s.asked) (slice_get s.asked.changes t.change) ≡ act_on H t s.asked k =
    ap (option_and_then (act_on H t s.asked)) s.change in
    let described : option_and_then (λ d. option_map (work_at H t s.asked k d) (Some at)) (descriptor H s.asked.instance)
    ≡ Some (work_at H t s.asked k d at) =
    ap (option_and_then (λ d. option_map (work_at H t s.asked k d) (Some at))) s.described in
    let on = (on_what_stands d h k H t s).on in
    let same : Some (work_at H t s.asked k d at) ≡ Some (act d (holding d H s.asked.instance) (verb_done t.way k.verb) k.def at) =
    ap (λ names. Some (work d (verb_done t.way k.verb) k.def at names)) (sym on) in
    let held : Some (act d (holding d H s.asked.instance) (verb_done t.way k.verb) k.def at)
    ≡ Some (act d h (verb_done t.way k.verb) k.def at) =
    ap (λ g. Some (act d g (verb_done t.way k.verb) k.def at)) (sym s.held) in
    asked ∙ (change ∙ (found_work H t s.asked k d at e ∙ (described ∙ (same ∙ held))))

forward_place : (d : Vnfd) (k : Change) (H : List Event) (t : Tag) (i : ℕ) (v : Verb) (at : Place)
    → (v ≡ Create → granted_place H t.occ t.change ≡ Some at)
    → (¬ (v ≡ Create) → Some (place_of (holding d H i) v k.def at) ≡ place H i k.def)
    → work_place H t i Forward v k.def ≡ Some (place_of (holding d H i) v k.def at)
forward_place d k H t i Create at granted held = granted refl
forward_place d k H t i Remove at granted held = sym (held (λ e. cc))
forward_place d k H t i Start at granted held = sym (held (λ e. cc))
forward_place d k H t i Stop at granted held = sym (held (λ e. cc))

-- the act that makes a change is the work of the attempt that makes it
pub forward_work : (d : Vnfd) (h : Holding) (k : Change) (H : List Event) (t : Tag) (at : Place) → IsOfAttempt d h k H t → t.way ≡ Forward
    → (k.verb ≡ Create → granted_place H t.occ t.change ≡ Some at) → act_of H t ≡ Some (act d h k.verb k.def (place_of h k.verb k.def at))
forward_work d h k H t at s way granted =
    let i = s.asked.instance in
    let stand : IsOnWhatStands d H i k.verb k.def = subst (λ (w : Way). IsOnWhatStands d H i (verb_done w k.verb) k.def) way
    (on_what_stands d h k H t s) in
    let there : work_place H t i Forward k.verb k.def ≡ Some (place_of (holding d H i) k.verb k.def at) =
    forward_place d k H t i k.verb at granted (stand.place at) in
    let place : work_place H t i t.way k.verb k.def ≡ Some (place_of h k.verb k.def at) =
    ap (λ w. work_place H t i w k.verb k.def) way ∙ (there ∙ ap (λ g. Some (place_of g k.verb k.def at)) (sym s.held)) in
    act_at d h k H t (place_of h k.verb k.def at) s place ∙ ap (λ w. Some (act d h (verb_done w k.verb) k.def (place_of h k.verb k.def at)))
    way

undo_place : (H : List Event) (t : Tag) (i : ℕ) (v : Verb) (x : Def) → work_place H t i Undo v x ≡ place H i x
undo_place H t i Create x = refl
undo_place H t i Remove x = refl
undo_place H t i Start x = refl
undo_place H t i Stop x = refl

-- the act that undoes a change is the work of the attempt that undoes it
pub undo_work : (d : Vnfd) (h : Holding) (k : Change) (H : List Event) (t : Tag) (at : Place) → (s : IsOfAttempt d h k H t) → t.way ≡ Undo
    → place H s.asked.instance k.def ≡ Some at → act_of H t ≡ Some (act d h (undo k.verb) k.def at)
undo_work d h k H t at s way stood =
    let i = s.asked.instance in
    let place : work_place H t i t.way k.verb k.def ≡ Some at = ap (λ w. work_place H t i w k.verb k.def) way
    ∙ (undo_place H t i k.verb k.def ∙ stood) in
    act_at d h k H t at s place ∙ ap (λ w. Some (act d h (verb_done w k.verb) k.def at)) way

pub ok_is : (r : Result Act AllocError) (w : Act) (o : Option Act) → IfOk r (λ x. x ≡ w) → o ≡ Some w → IfOk r (λ x. o ≡ Some x)
ok_is (Ok x) w o is e = e ∙ ap Some (sym is)
ok_is (Err f) w o is e = tt
