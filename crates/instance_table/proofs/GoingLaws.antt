-- The operations that go on, event by event.
use Rattle.std.proofs.Common.{◌≡◌, ◌++◌, ◌==◌, ◌&&◌, ◌∙◌, ℕ, List, [], ◌∷◌, Bool, true, false, cond, not, Option, None, Some, is_some, refl}
use Rattle.std.proofs.Common.{ap, sym, subst, inl, inr, map, filter, find, reverse, option_map, arith, eqb-true}
use Rattle.std.specs.Prelude.{option_and_then, slice_get, unwrap_or}
use Rattle.lcm_events.specs.Same.{same_verb}
use Rattle.lcm_events.proofs.SameLaws.{same_verb-true}
use Rattle.lcm_events.specs.declared.attempts.Way.{Way}
use Rattle.lcm_events.specs.declared.attempts.Way.TheVariants.{Forward, Undo}
use Rattle.lcm_events.specs.declared.attempts.Tag.{Tag}
use Rattle.lcm_events.specs.declared.changes.Change.{Change}
use Rattle.lcm_events.specs.declared.changes.Verb.{Verb}
use Rattle.lcm_events.specs.declared.changes.Verb.TheVariants.{Create, Remove, Start, Stop}
use Rattle.lcm_events.specs.declared.events.Event.{Event}
use Rattle.lcm_events.specs.declared.events.EventKind.{EventKind}
use Rattle.lcm_events.specs.declared.events.EventKind.TheVariants.{Asked, Granted, Moved}
use Rattle.lcm_events.specs.declared.events.Operation.{Operation}
use Rattle.lcm_events.specs.declared.places.Place.{Place}
use Rattle.lcm_events.specs.declared.states.OpState.{OpState}
use Rattle.lcm_model.specs.Allowed.{IsAllowedWithin, IsLegalWithin}
use Rattle.lcm_model.specs.Grants.{GivenGrant, grant, place_at}
use Rattle.lcm_model.specs.Holding.{effect_in, place}
use Rattle.lcm_model.specs.Instances.{moving}
use Rattle.lcm_model.specs.Moves.{is_final, state}
use Rattle.lcm_model.specs.Operations.{goes_on, operation, operations, verb_done}
use Rattle.lcm_model.specs.Words.{IsIn}
use Rattle.lcm_laws.proofs.AboutLaws.{unasked_untouched}
use Rattle.lcm_laws.proofs.GrantLaws.{place_grant}
use Rattle.lcm_laws.proofs.HoldLaws.{moved_from}
use Rattle.lcm_laws.proofs.HoldingLaws.{map_get}
use Rattle.lcm_laws.proofs.Histories.{event}
use Rattle.lcm_laws.proofs.Lists.{by_test, not-true}
use Rattle.lcm_laws.proofs.NumberLaws.{found_exactly, operations_counted}
use Rattle.lcm_laws.proofs.Members.{of_filter}
use Rattle.lcm_laws.proofs.OngoingLaws.{goes_on-before}
use Rattle.lcm_laws.proofs.SettledLaws.{find-own}
use Rattle.held_items.specs.Following.{place_made}
use Rattle.held_items.proofs.PlaceLaws.{removals_stay}
use Rattle.instance_table.specs.Rows.{aim, going, going_of, placing, stood_at}
use Rattle.instance_table.specs.Steps.{begun, place_by_way, placed, without_operation}
use Rattle.instance_table.specs.declared.going.Going.{Going}
use Rattle.instance_table.specs.declared.going.Placing.{Placing}
use Rattle.instance_table.proofs.LiveLaws.{fewer, find-filter, find-map, flip, one_more}
use Rattle.instance_table.proofs.LevelLaws.{aim-kept, goes_after}
use Rattle.instance_table.proofs.Sorted.{falls-counted, falls-filter, falls-map, find-reverse}

-- what is done to each entry of a list alike
pub map_in : {A B : Type 0} → (f g : A → B) (xs : List A) → ((x : A) → IsIn x xs → f x ≡ g x) → map f xs ≡ map g xs
map_in f g [] e = refl
map_in f g (x ∷ xs) e = ap (λ y. y ∷ map f xs) (e x (inl refl)) ∙ ap (λ ys. g x ∷ ys) (map_in f g xs (λ y h. e y (inr h)))

-- what goes on after an event went on before it
went_on : (width m : ℕ) (H : List Event) (time : ℕ) (k : EventKind) (a : Operation) → IsAllowedWithin width m H k
    → goes_on (event time k ∷ H) a ≡ true → is_final (state H a.occ) ≡ false
unfolding goes_on
went_on width m H time (Moved o to) a allowed goes = not-true (is_final (state H a.occ)) (goes_on-before H time o to a allowed.1 goes)
went_on width m H time k a allowed goes = not-true (is_final (state H a.occ)) goes

-- what an operation removes keeps its place while the operation goes on
stood-kept : (width m : ℕ) (H : List Event) (time : ℕ) (k : EventKind) (a : Operation) → IsLegalWithin width m H
    → IsAllowedWithin width m H k → IsIn a (operations H)
    → goes_on (event time k ∷ H) a ≡ true → map (stood_at (event time k ∷ H) a.instance) a.changes ≡ map (stood_at H a.instance) a.changes
stood-kept width m H time k a legal allowed among goes =
    map_in (stood_at (event time k ∷ H) a.instance) (stood_at H a.instance) a.changes
    (λ c has. by_test (same_verb c.verb Remove)
    (λ removes.
    let found : operation H a.occ ≡ Some a = find-own (λ x. x.occ) (operations H) a (operations_counted width m H legal) among in
    rw removes (removals_stay width m H time k a.occ a c legal allowed found (went_on width m H time k a allowed goes) has
    (same_verb-true c.verb Remove removes)))
    (λ other. rw other refl))

-- what is kept of an operation after an event, which may have granted it
abbrev pub kept_after : List Event → List Event → Operation → Going
kept_after later H a = record (going_of H a) { placing = placing later a.occ }

-- what is kept of an operation stays while it goes on, but for its grant
pub going-kept : (width m : ℕ) (H : List Event) (time : ℕ) (k : EventKind) (a : Operation) → IsLegalWithin width m H
    → IsAllowedWithin width m H k → IsIn a (operations H)
    → goes_on (event time k ∷ H) a ≡ true → going_of (event time k ∷ H) a ≡ kept_after (event time k ∷ H) H a
going-kept width m H time k a legal allowed among goes =
    ap (λ (ns : List ℕ). record (kept_after (event time k ∷ H) H a)
    { aim = ns; stood = map (stood_at (event time k ∷ H) a.instance) a.changes }) (aim-kept width m H time k a legal allowed among goes)
    ∙ ap (λ (ps : List (Option Place)). record (kept_after (event time k ∷ H) H a) { stood = ps })
    (stood-kept width m H time k a legal allowed among goes)

-- what is kept of the operations that went on before an event
pub all_kept : (width m : ℕ) (H : List Event) (time : ℕ) (k : EventKind) → IsLegalWithin width m H → IsAllowedWithin width m H k
    → reverse (map (going_of (event time k ∷ H)) (filter (goes_on (event time k ∷ H)) (operations H)))
    ≡ reverse (map (kept_after (event time k ∷ H) H) (filter (goes_on (event time k ∷ H)) (operations H)))
all_kept width m H time k legal allowed =
    ap reverse (map_in (going_of (event time k ∷ H)) (kept_after (event time k ∷ H) H) (filter (goes_on (event time k ∷ H)) (operations H))
    (λ x among.
    let of = of_filter (goes_on (event time k ∷ H)) x (operations H) among in
    going-kept width m H time k x legal allowed of.0 of.1))

none_there : (x : Option Operation) → (is_some x ≡ true → ⊥) → x ≡ None
none_there None f = refl
none_there (Some x) f = absurd (f refl)

-- an operation that is asked for goes on
pub going-asked : (width m : ℕ) (H : List Event) (time : ℕ) (a : Operation) → IsLegalWithin width m H → IsAllowedWithin width m H (Asked a)
    → going (event time (Asked a) ∷ H) ≡ going H ++ begun a (aim H a) (map (stood_at H a.instance) a.changes) ∷ []
unfolding goes_on moving effect_in
going-asked width m H time a legal allowed =
    let none : operation H a.occ ≡ None = none_there (operation H a.occ) (λ there.
    let high = ((found_exactly width m H legal a.occ).0 there).1 in omega (arith, high, allowed.number)) in
    let still = unasked_untouched width m H legal a.occ none in
    let begins : goes_on H a ≡ true = rw still.moves refl in
    one_more (going_of (event time (Asked a) ∷ H)) (goes_on H) a (operations H) begins
    ∙ (ap (λ (p : Option Placing). reverse (map (going_of (event time (Asked a) ∷ H)) (filter (goes_on H) (operations H)))
    ++ record (begun a (aim H a) (map (stood_at H a.instance) a.changes)) { placing = p } ∷ [])
    (ap (option_map (λ g. record { places = g.places; spots = g.spots })) still.grant)
    ∙ ap (λ (gs : List Going). gs ++ begun a (aim H a) (map (stood_at H a.instance) a.changes) ∷ [])
    (all_kept width m H time (Asked a) legal allowed))

-- an operation that goes on is found among those that do
pub going-found : (width m : ℕ) (H : List Event) (o : ℕ) (a : Operation) → IsLegalWithin width m H → is_final (state H o) ≡ false
    → operation H o ≡ Some a
    → find (λ g. g.occ == o) (going H) ≡ Some (going_of H a)
unfolding goes_on
going-found width m H o a legal runs_on e =
    let f : Going → ℕ = λ g. g.occ in
    let falls = falls-filter (λ x. x.occ) (goes_on H) (operations H)
    (falls-counted (λ x. x.occ) (operations H) (operations_counted width m H legal)) in
    find-reverse f o (map (going_of H) (filter (goes_on H) (operations H)))
    (falls-map f (going_of H) (filter (goes_on H) (operations H)) falls)
    ∙ (find-map f (going_of H) o (filter (goes_on H) (operations H))
    ∙ (ap (option_map (going_of H)) (find-filter (λ x. x.occ) (goes_on H) o (operations H) (not (is_final (state H o)))
    (λ x at. ap (λ (n : ℕ). not (is_final (state H n))) at))
    ∙ rw (runs_on, e) refl))

same_filter : {A : Type 0} → (p q : A → Bool) (xs : List A) → ((x : A) → p x ≡ q x) → filter p xs ≡ filter q xs
same_filter p q [] e = refl
same_filter p q (x ∷ xs) e = by_test (q x)
    (λ passes. let too : p x ≡ true = e x ∙ passes in rw (passes, too) (ap (λ ys. x ∷ ys) (same_filter p q xs e)))
    (λ fails. let too : p x ≡ false = e x ∙ fails in rw (fails, too) (same_filter p q xs e))

goes_before : (H : List Event) (o : ℕ) (x : Operation) → is_final (state H o) ≡ false → (o == x.occ) ≡ true → goes_on H x ≡ true
unfolding goes_on
goes_before H o x runs_on same = let is : o ≡ x.occ = eqb-true o x.occ same in
    ap not (subst (λ (n : ℕ). is_final (state H n) ≡ false) is runs_on)

granted_when : (H : List Event) (time o : ℕ) (name : List ℕ) (places : List Place) (spots : List ℕ) (x : Operation) (b : Bool)
    → (o == x.occ) ≡ b
    → placing (event time (Granted o name places spots) ∷ H) x.occ
    ≡ cond b (Some (record { places = places; spots = spots })) (placing H x.occ)
granted_when H time o name places spots x true e = rw e refl
granted_when H time o name places spots x false e = rw e refl

placed_when : (b : Bool) (p : Placing) (g : Going) → record g { placing = cond b (Some p) g.placing }
    ≡ cond b (record g { placing = Some p }) g
placed_when true p g = refl
placed_when false p g = refl

-- what is kept of an operation after a grant
pub granted_one : (H : List Event) (time o : ℕ) (name : List ℕ) (places : List Place) (spots : List ℕ) (x : Operation)
    → kept_after (event time (Granted o name places spots) ∷ H) H x ≡ placed o (record { places = places; spots = spots }) (going_of H x)
granted_one H time o name places spots x =
    let p : Placing = record { places = places; spots = spots } in
    ap (λ (y : Option Placing). record (going_of H x) { placing = y }) (granted_when H time o name places spots x (o == x.occ) refl)
    ∙ (placed_when (o == x.occ) p (going_of H x) ∙ ap (λ (b : Bool). cond b (record (going_of H x) { placing = Some p }) (going_of H x))
    (flip o x.occ))

-- what goes on after an end
pub going-ended : (width m : ℕ) (H : List Event) (time o : ℕ) (to : OpState) → IsLegalWithin width m H
    → IsAllowedWithin width m H (Moved o to) → is_final to ≡ true
    → going (event time (Moved o to) ∷ H) ≡ without_operation o (going H)
going-ended width m H time o to legal allowed last =
    all_kept width m H time (Moved o to) legal allowed
    ∙ fewer (going_of H) (λ g. not (g.occ == o)) (goes_on H) (goes_on (event time (Moved o to) ∷ H)) (operations H)
    (λ x. by_test (o == x.occ)
    (λ same. goes_after H time o to x true same ∙ (ap not last ∙ ap (λ (b : Bool). not b && goes_on H x) (sym (flip x.occ o ∙ same))))
    (λ other. goes_after H time o to x false other ∙ ap (λ (b : Bool). not b && goes_on H x) (sym (flip x.occ o ∙ other))))

-- what goes on after a move that ends nothing
pub going-moved : (width m : ℕ) (H : List Event) (time o : ℕ) (to : OpState) → IsLegalWithin width m H
    → IsAllowedWithin width m H (Moved o to) → is_final to ≡ false
    → going (event time (Moved o to) ∷ H) ≡ going H
going-moved width m H time o to legal allowed more =
    let runs_on : is_final (state H o) ≡ false = moved_from H o to allowed.1 in
    all_kept width m H time (Moved o to) legal allowed
    ∙ ap (λ (xs : List Operation). reverse (map (going_of H) xs)) (same_filter (goes_on (event time (Moved o to) ∷ H)) (goes_on H)
    (operations H)
    (λ x. by_test (o == x.occ)
    (λ same. goes_after H time o to x true same ∙ (ap not more ∙ sym (goes_before H o x runs_on same)))
    (λ other. goes_after H time o to x false other)))

abbrev placing_of : GivenGrant → Placing
placing_of g = record { places = g.places; spots = g.spots }

granted_by : (c : ℕ) (y : Option GivenGrant)
    → option_and_then (λ g. place_at g.places g.spots c) y ≡ option_and_then (λ p. place_at p.places p.spots c) (option_map placing_of y)
granted_by c None = refl
granted_by c (Some g) = refl

undoes : (v : Verb) → verb_done Undo v ≡ Create → v ≡ Remove
undoes Create e = cc
undoes Remove e = refl
undoes Start e = cc
undoes Stop e = cc

-- an operation that goes on keeps the place at which an attempt of it makes something
pub place_kept : (H : List Event) (t : Tag) (w : Way) (a : Operation) (k : Change) → operation H t.occ ≡ Some a → a.occ ≡ t.occ
    → slice_get a.changes t.change ≡ Some k
    → verb_done w k.verb ≡ Create → place_made H t w a.instance k.def ≡ place_by_way w t.change (going_of H a)
place_kept H t Forward a k found at change makes =
    place_grant H t.occ t.change
    ∙ (granted_by t.change (grant H t.occ)
    ∙ ap (λ (o : ℕ). option_and_then (λ p. place_at p.places p.spots t.change) (placing H o)) (sym at))
place_kept H t Undo a k found at change makes =
    let is : same_verb k.verb Remove ≡ true = ap (λ (v : Verb). same_verb v Remove) (undoes k.verb makes) in
    let stood : stood_at H a.instance k ≡ place H a.instance k.def = rw is refl in
    sym stood ∙ sym (ap (λ (y : Option (Option Place)). unwrap_or y None) (map_get (stood_at H a.instance) a.changes t.change k change))
