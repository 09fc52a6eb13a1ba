-- What an operation removes keeps its place while the operation goes on.
use Rattle.std.proofs.Common.{◌≡◌, ◌==◌, ◌∙◌, ℕ, List, ◌∷◌, true, false, Some, inl, inr, refl, ap, sym, subst, filter, eqb-true, slice_get}
use Rattle.std.specs.Prelude.{option_and_then}
use Rattle.lcm_events.specs.Same.{same_def, same_verb, same_way}
use Rattle.lcm_events.proofs.SameLaws.{same_def-true, same_verb-true, same_way-true}
use Rattle.lcm_events.specs.declared.attempts.Outcome.TheVariants.{Aborted, Broken, Done, NotBegun}
use Rattle.lcm_events.specs.declared.attempts.Tag.{Tag}
use Rattle.lcm_events.specs.declared.attempts.Way.{Way}
use Rattle.lcm_events.specs.declared.attempts.Way.TheVariants.{Forward}
use Rattle.lcm_events.specs.declared.changes.Change.{Change}
use Rattle.lcm_events.specs.declared.changes.Def.{Def}
use Rattle.lcm_events.specs.declared.changes.Verb.{Verb}
use Rattle.lcm_events.specs.declared.changes.Verb.TheVariants.{Create, Remove}
use Rattle.lcm_events.specs.declared.events.Event.{Event}
use Rattle.lcm_events.specs.declared.events.EventKind.{EventKind}
use Rattle.lcm_events.specs.declared.events.EventKind.TheVariants.{Settled}
use Rattle.lcm_events.specs.declared.events.Operation.{Operation}
use Rattle.lcm_model.specs.declared.holding.Effect.{Effect}
use Rattle.lcm_model.specs.Words.{IsIn, first}
use Rattle.lcm_model.specs.Allowed.{IsAllowedWithin, IsLegalWithin}
use Rattle.lcm_model.specs.Grants.{granted_place}
use Rattle.lcm_model.specs.Holding.{effect, effect_in, is_effect_on, is_forward_creation, place}
use Rattle.lcm_model.specs.Moves.{is_final, state}
use Rattle.lcm_model.specs.Operations.{operation, verb_done}
use Rattle.lcm_laws.proofs.Histories.{event}
use Rattle.lcm_laws.proofs.HoldLaws.{one_value}
use Rattle.lcm_laws.proofs.Lists.{and_left, and_right, by_test}
use Rattle.lcm_laws.proofs.Members.{get_in}
use Rattle.lcm_laws.proofs.SettledLaws.{one_going, open_operation, what_is_done}
use Rattle.held_items.specs.Following.{is_done}
use Rattle.held_items.proofs.EffectLaws.{effects-next, place_same, places_stay, with_done}
use Rattle.held_items.proofs.ItemLaws.{no_effect}
use Rattle.held_items.proofs.PowerLaws.{HasCase, case_at}

-- an event without effect leaves the places
pub places_left : (width m : ℕ) (H : List Event) (time : ℕ) (k : EventKind) (i : ℕ) (x : Def) → IsLegalWithin width m H
    → IsAllowedWithin width m H k → is_done k ≡ false
    → place (event time k ∷ H) i x ≡ place H i x
places_left width m H time k i x legal allowed e =
    place_same H (event time k ∷ H) i x (let none = no_effect H k e in rw none refl) (places_stay width m H time k legal allowed)

-- an effect that makes nothing of this definition leaves its place
place_next : (H : List Event) (time : ℕ) (t : Tag) (name : List ℕ) (i : ℕ) (x : Def) (y : Effect)
    → effect_in H (Settled t (Done name)) ≡ Some y
    → (is_effect_on i x y ≡ true → is_forward_creation y ≡ false) → place (with_done H time t name) i x ≡ place H i x
place_next H time t name i x y e keeps =
    let now = effects-next H time (Settled t (Done name)) i x y e in
    ap (λ ys. option_and_then (λ y. granted_place H y.tag.occ y.tag.change) (first (filter is_forward_creation ys))) now
    ∙ by_test (is_effect_on i x y)
    (λ on. let kept = keeps on in rw (on, kept) refl)
    (λ off. rw off refl)

created_forward : (w : Way) (v : Verb) → w ≡ Forward → verb_done w v ≡ Create → v ≡ Create
created_forward w v e is = subst (λ (u : Way). verb_done u v ≡ Create) e is

-- what an operation removes it doesn't make
never_made : (width m : ℕ) (H : List Event) (t : Tag) (name : List ℕ) (o : ℕ) (a b : Operation) (j k : Change) → IsLegalWithin width m H
    → IsAllowedWithin width m H (Settled t (Done name)) → operation H o ≡ Some a → is_final (state H o) ≡ false → IsIn k a.changes
    → k.verb ≡ Remove
    → operation H t.occ ≡ Some b → is_final (state H t.occ) ≡ false → slice_get b.changes t.change ≡ Some j
    → is_effect_on a.instance k.def (effect t name b j) ≡ true → is_forward_creation (effect t name b j) ≡ false
never_made width m H t name o a b j k legal allowed found goes has remove other on change here =
    by_test (is_forward_creation (effect t name b j))
    (λ makes.
    let at : b.instance ≡ a.instance = eqb-true b.instance a.instance (and_left (b.instance == a.instance) (same_def j.def k.def) here) in
    let def : j.def ≡ k.def = same_def-true j.def k.def (and_right (b.instance == a.instance) (same_def j.def k.def) here) in
    let verb : verb_done t.way j.verb ≡ Create = same_verb-true (verb_done t.way j.verb) Create
    (and_left (same_verb (verb_done t.way j.verb) Create) (same_way t.way Forward) makes) in
    let way : t.way ≡ Forward = same_way-true t.way Forward (and_right (same_verb (verb_done t.way j.verb) Create)
    (same_way t.way Forward) makes) in
    let made : j.verb ≡ Create = created_forward t.way j.verb way verb in
    let occ : t.occ ≡ o = one_going width m H a.instance o t.occ a b legal found refl goes other at on in
    let one : b ≡ a = one_value (operation H o) b a (subst (λ (n : ℕ). operation H n ≡ Some b) occ other) found in
    let h : HasCase a = case_at width m H o a legal found in
    let among : IsIn j a.changes = subst (λ (z : Operation). IsIn j z.changes) one (get_in j b.changes t.change change) in
    let absent : h.p.held.stands j.def ≡ false = h.makes j among made in
    let there : h.p.held.stands k.def ≡ true = h.others k has (λ e. let clash : Remove ≡ Create = sym remove ∙ e in cc) in
    let clash : true ≡ false = sym there ∙ (ap h.p.held.stands (sym def) ∙ absent) in cc)
    (λ other. other)

done_stays : (width m : ℕ) (H : List Event) (time : ℕ) (t : Tag) (name : List ℕ) (o : ℕ) (a : Operation) (k : Change)
    → IsLegalWithin width m H
    → IsAllowedWithin width m H (Settled t (Done name)) → operation H o ≡ Some a → is_final (state H o) ≡ false → IsIn k a.changes
    → k.verb ≡ Remove
    → place (with_done H time t name) a.instance k.def ≡ place H a.instance k.def
done_stays width m H time t name o a k legal allowed found goes has remove =
    let mine = open_operation width m H t legal allowed in
    elim (what_is_done H time t (Done name) mine.0 mine.1) [
      | inl nothing ↦ place_same H (with_done H time t name) a.instance k.def (let none = nothing.0 in rw none refl) (λ y h. refl)
      | inr change ↦
          place_next H time t name a.instance k.def (effect t change.0 mine.0 change.1) change.4
          (never_made width m H t change.0 o a mine.0 change.1 k legal allowed found goes has remove mine.1 mine.2 change.3)
    ]

-- no event changes the place of what an operation that goes on removes
pub removals_stay : (width m : ℕ) (H : List Event) (time : ℕ) (kind : EventKind) (o : ℕ) (a : Operation) (k : Change)
    → IsLegalWithin width m H → IsAllowedWithin width m H kind
    → operation H o ≡ Some a → is_final (state H o) ≡ false → IsIn k a.changes → k.verb ≡ Remove
    → place (event time kind ∷ H) a.instance k.def ≡ place H a.instance k.def
removals_stay width m H time (Settled t (Done name)) o a k legal allowed found goes has remove =
    done_stays width m H time t name o a k legal allowed found goes has remove
removals_stay width m H time (Settled t (Broken code)) o a k legal allowed found goes has remove =
    places_left width m H time (Settled t (Broken code)) a.instance k.def legal allowed refl
removals_stay width m H time (Settled t Aborted) o a k legal allowed found goes has remove =
    places_left width m H time (Settled t Aborted) a.instance k.def legal allowed refl
removals_stay width m H time (Settled t NotBegun) o a k legal allowed found goes has remove =
    places_left width m H time (Settled t NotBegun) a.instance k.def legal allowed refl
removals_stay width m H time kind o a k legal allowed found goes has remove =
    places_left width m H time kind a.instance k.def legal allowed refl
