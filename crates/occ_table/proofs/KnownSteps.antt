-- What each event makes of what is known of a definition.
use Rattle.std.proofs.Common.{◌≡◌, ◌≤◌, ◌-◌, ◌==◌, ◌&&◌, ◌∙◌, ℕ, List, [], ◌∷◌, Bool, true, false, cond, Option, None, Some, refl, ap, sym}
use Rattle.std.proofs.Common.{subst, filter, slice_get, eqb-true, inl, inr}
use Rattle.std.specs.List.{cons_option, list_any}
use Rattle.std.specs.Prelude.{if◌then◌else◌, nat_le, option_and_then, option_map, ◌||◌}
use Rattle.lcm_events.specs.Same.{same_def, same_verb, same_way}
use Rattle.lcm_events.proofs.SameLaws.{eq-refl, same_def-refl}
use Rattle.lcm_events.specs.declared.attempts.Outcome.{Outcome}
use Rattle.lcm_events.specs.declared.attempts.Outcome.TheVariants.{Done}
use Rattle.lcm_events.specs.declared.attempts.Tag.{Tag}
use Rattle.lcm_events.specs.declared.attempts.Way.TheVariants.{Forward}
use Rattle.lcm_events.specs.declared.changes.Change.{Change}
use Rattle.lcm_events.specs.declared.changes.Def.{Def}
use Rattle.lcm_events.specs.declared.changes.Verb.TheVariants.{Create}
use Rattle.lcm_events.specs.declared.events.Event.{Event}
use Rattle.lcm_events.specs.declared.events.EventKind.{EventKind}
use Rattle.lcm_events.specs.declared.events.EventKind.TheVariants.{Granted, Settled}
use Rattle.lcm_events.specs.declared.events.GrantTry.TheVariants.{Later, NotCovering, Trouble}
use Rattle.lcm_events.specs.declared.events.Operation.{Operation}
use Rattle.lcm_events.specs.declared.places.Place.{Place}
use Rattle.lcm_model.specs.declared.holding.Effect.{Effect}
use Rattle.lcm_model.specs.Allowed.{IsAllowedWithin, IsLegalWithin}
use Rattle.lcm_model.specs.Attempts.{is_open}
use Rattle.lcm_model.specs.Grants.{Covering, GivenGrant, GrantAnswer, Refused, Tried, answers, grant, granted_place, has_ended, is_covering}
use Rattle.lcm_model.specs.Grants.{is_granted, is_last, place_at, troubled_tries}
use Rattle.lcm_model.specs.Holding.{effect, effect_done, effect_in, effects, is_creation, is_effect_on, is_forward_creation}
use Rattle.lcm_model.specs.Operations.{operation, operations}
use Rattle.lcm_model.specs.Words.{IsIn, first, told}
use Rattle.lcm_laws.proofs.EndLaws.{open_state}
use Rattle.lcm_laws.proofs.GrantLaws.{granted-next, place_grant, works_granted}
use Rattle.lcm_laws.proofs.Histories.{event, legal_induction}
use Rattle.lcm_laws.proofs.Lists.{and_true, by_test}
use Rattle.lcm_laws.proofs.Members.{of_filter}
use Rattle.lcm_laws.proofs.SettledLaws.{found_number, open_operation}
use Rattle.lcm_laws.proofs.StandLaws.{of_cons}
use Rattle.occ_table.proofs.EndedLaws.{works_not_over}
use Rattle.occ_table.proofs.HomeLaws.{not_zero}
use Rattle.occ_table.proofs.RowsSteps.{looked, low}
use Rattle.occ_table.specs.Descriptors.{numbered}
use Rattle.occ_table.specs.Ended.{is_over, kept_grant}
use Rattle.occ_table.specs.Resources.{deed_by, deed_in, deed_of, place_by, remade}
use Rattle.occ_table.specs.Rows.{StandsFor, row}
use Rattle.occ_table.specs.Used.{known, placed, used_by}
use Rattle.occ_table.specs.declared.resources.DoneAttempt.{DoneAttempt}
use Rattle.occ_table.specs.declared.rows.OccRow.{OccRow}
use Rattle.occ_table.specs.declared.used.Used.{Used}

-- every effect is of an occurrence that was granted
abbrev FromGranted : List Event → Type 0
FromGranted H = (y : Effect) → IsIn y (told effect_in H) → is_granted H y.tag.occ ≡ true

by_change : (H : List Event) (t : Tag) (name : List ℕ) (a : Operation) (y : Effect) (c : Option Change)
    → option_map (effect t name a) c ≡ Some y → y.tag ≡ t
by_change H t name a y None e = cc
by_change H t name a y (Some c) e = let same : effect t name a c ≡ y = cc in sym (ap (λ (z : Effect). z.tag) same)

by_operation : (H : List Event) (t : Tag) (name : List ℕ) (y : Effect) (a : Option Operation)
    → option_and_then (λ a. option_map (effect t name a) (slice_get a.changes t.change)) a ≡ Some y → y.tag ≡ t
by_operation H t name y None e = cc
by_operation H t name y (Some a) e = by_change H t name a y (slice_get a.changes t.change) e

pub of_attempt : (H : List Event) (t : Tag) (outcome : Outcome) (y : Effect) → effect_done H t outcome ≡ Some y → y.tag ≡ t
of_attempt H t (Done name) y e = by_operation H t name y (operation H t.occ) e
of_attempt H t _ y e = cc

new_granted : (width m : ℕ) (H : List Event) (k : EventKind) (y : Effect) → IsLegalWithin width m H → IsAllowedWithin width m H k
    → effect_in H k ≡ Some y
    → is_granted H y.tag.occ ≡ true
unfolding effect_in
new_granted width m H (Settled t outcome) y legal allowed is =
    subst (λ (u : Tag). is_granted H u.occ ≡ true) (sym (of_attempt H t outcome y is))
    (works_granted width m H legal t.occ t.way (open_state width m H legal t allowed))
new_granted width m H _ y legal allowed is = cc

from_granted : (width m : ℕ) (H : List Event) → IsLegalWithin width m H → FromGranted H
from_granted width m H legal =
    legal_induction width m FromGranted (λ y among. absurd among)
    (λ H time k legal allowed h y among. granted-next H time k y.tag.occ (elim (of_cons y (effect_in H k) (told effect_in H) among) [
      | inl is ↦ new_granted width m H k y legal allowed is
      | inr before ↦ h y before
    ])) H legal

covering_last : (xs : List GrantAnswer) → list_any is_covering xs ≡ true → list_any is_last xs ≡ true
covering_last [] e = cc
covering_last (Covering ∷ xs) e = refl
covering_last (Refused ∷ xs) e = refl
covering_last (Tried (Later at) ∷ xs) e = covering_last xs e
covering_last (Tried Trouble ∷ xs) e = covering_last xs e
covering_last (Tried NotCovering ∷ xs) e = refl

-- an exchange that goes on hasn't led to a grant
not_granted : (H : List Event) (o : ℕ) → has_ended H o ≡ false → is_granted H o ≡ true → false ≡ true
not_granted H o goes_on granted =
    let last : list_any is_last (answers H o) ≡ true = covering_last (answers H o) granted in
    let ended : (list_any is_last (answers H o) || nat_le 5 (troubled_tries H o)) ≡ true = rw last refl in
    sym goes_on ∙ ended

-- the first of these that passes is one of them
pub first_of : {A : Type 0} → (x : A) (xs : List A) → first xs ≡ Some x → IsIn x xs
first_of x [] e = cc
first_of x (y ∷ xs) e = inl cc

-- a later grant leaves the places of what was made
place_stays : (width m : ℕ) (H : List Event) (time n : ℕ) (name : List ℕ) (places : List Place) (spots : List ℕ) (i : ℕ) (x : Def)
    (o : Option Effect) → IsLegalWithin width m H
    → IsAllowedWithin width m H (Granted n name places spots) → first (filter is_forward_creation (effects H i x)) ≡ o
    → option_and_then (λ y. granted_place (event time (Granted n name places spots) ∷ H) y.tag.occ y.tag.change) o
    ≡ option_and_then (λ y. granted_place H y.tag.occ y.tag.change) o
place_stays width m H time n name places spots i x None legal allowed is = refl
place_stays width m H time n name places spots i x (Some y) legal allowed is =
    let passed = of_filter is_forward_creation y (effects H i x) (first_of y (filter is_forward_creation (effects H i x)) is) in
    let among = of_filter (is_effect_on i x) y (told effect_in H) passed.0 in
    let granted : is_granted H y.tag.occ ≡ true = from_granted width m H legal y among.0 in
    by_test (n == y.tag.occ)
    (λ same.
    let at : n ≡ y.tag.occ = eqb-true n y.tag.occ same in
    let clash : false ≡ true = not_granted H n allowed.asking.goes_on (subst (λ (o : ℕ). is_granted H o ≡ true) (sym at) granted) in
    cc)
    (λ other. rw other refl)

-- what a deed does whose effect and place are these
abbrev pub deed_done : List Event → Effect → DoneAttempt
deed_done H y = record { effect = y; place = granted_place H y.tag.occ y.tag.change }

-- what is known of definitions after an attempt did something, or nothing
abbrev pub known_after : Option DoneAttempt → (ℕ → Def → Option Used) → ℕ → Def → Option Used
known_after None f i x = f i x
known_after (Some d) f i x = if is_creation d.effect && is_effect_on i x d.effect then remade d (f i x) else f i x

-- the first of what passes a test of all that pass another
placed_again : (ys : List Effect) (f : Effect → Option Place)
    → option_map (λ u. u.place) (placed (option_map (λ y. y.resource) (first (filter is_creation ys)))
    (option_and_then f (first (filter is_forward_creation ys))))
    ≡ option_and_then f (first (filter is_forward_creation ys))
placed_again [] f = refl
placed_again (y ∷ ys) f = by_test (same_verb y.verb Create)
    (λ creates. by_test (same_way y.tag.way Forward)
    (λ forward. rw (creates, forward) (some_place y.resource (f y)))
    (λ undo. rw (creates, undo) (some_place y.resource (option_and_then f (first (filter is_forward_creation ys))))))
    (λ other. rw other (placed_again ys f)) where
      some_place : (name : List ℕ) (p : Option Place) → option_map (λ u. u.place) (placed (Some name) p) ≡ p
      some_place name None = refl
      some_place name (Some p) = refl

-- what is known of a definition once one more effect is there
one_more : (H : List Event) (y : Effect) (i : ℕ) (x : Def)
    → placed (option_map (λ y. y.resource) (first (filter is_creation (cond (is_effect_on i x y) (y ∷ effects H i x) (effects H i x)))))
    (option_and_then (λ y. granted_place H y.tag.occ y.tag.change)
    (first (filter is_forward_creation (cond (is_effect_on i x y) (y ∷ effects H i x) (effects H i x)))))
    ≡ known_after (Some (deed_done H y)) (known H) i x
one_more H y i x = by_test (is_effect_on i x y)
    (λ on. by_test (same_verb y.verb Create)
    (λ creates. by_test (same_way y.tag.way Forward)
    (λ forward. rw (on, creates, forward) refl)
    (λ undo. rw (on, creates, undo) (ap (λ (p : Option Place). placed (Some y.resource) p)
    (sym (placed_again (effects H i x) (λ y. granted_place H y.tag.occ y.tag.change))))))
    (λ other. rw (on, other) refl))
    (λ off. by_test (same_verb y.verb Create) (λ creates. rw (off, creates) refl) (λ other. rw (off, other) refl))

by_effect : (H : List Event) (o : Option Effect) (i : ℕ) (x : Def)
    → placed (option_map (λ y. y.resource) (first (filter is_creation (filter (is_effect_on i x) (cons_option o (told effect_in H))))))
    (option_and_then (λ y. granted_place H y.tag.occ y.tag.change)
    (first (filter is_forward_creation (filter (is_effect_on i x) (cons_option o (told effect_in H))))))
    ≡ known_after (option_map (deed_done H) o) (known H) i x
by_effect H None i x = refl
by_effect H (Some y) i x = one_more H y i x

-- what an event makes of what is known of a definition
pub known-step : (width m : ℕ) (H : List Event) (time : ℕ) (k : EventKind) (i : ℕ) (x : Def) → IsLegalWithin width m H
    → IsAllowedWithin width m H k
    → known (event time k ∷ H) i x ≡ known_after (option_map (deed_done H) (effect_in H k)) (known H) i x
unfolding effect_in
known-step width m H time (Settled t outcome) i x legal allowed = by_effect H (effect_done H t outcome) i x
known-step width m H time (Granted n name places spots) i x legal allowed =
    ap (λ (p : Option Place). placed (option_map (λ y. y.resource) (first (filter is_creation (effects H i x)))) p)
    (place_stays width m H time n name places spots i x (first (filter is_forward_creation (effects H i x))) legal allowed refl)
known-step width m H time _ i x legal allowed = refl

given_place : (over : Bool) (c : ℕ) (g : Option GivenGrant) → over ≡ false
    → option_and_then (λ g. place_at g.places g.spots c) (option_map (kept_grant over) g)
    ≡ option_and_then (λ g. place_at g.places g.spots c) g
given_place true c g e = cc
given_place false c None e = refl
given_place false c (Some g) e = refl

-- the place that a row of an occurrence at work has for a change
row_place : (H : List Event) (a : Operation) (c : ℕ) → is_over H a.occ ≡ false → place_by c (row H a) ≡ granted_place H a.occ c
row_place H a c going = given_place (is_over H a.occ) c (grant H a.occ) going ∙ sym (place_grant H a.occ c)

by_row : (H : List Event) (t : Tag) (name : List ℕ) (a : Operation) (c : Option Change)
    → place_by t.change (row H a) ≡ granted_place H t.occ t.change
    → option_map (λ c. record { effect = effect t name a c; place = place_by t.change (row H a) }) c
    ≡ option_map (deed_done H) (option_map (effect t name a) c)
by_row H t name a None is = refl
by_row H t name a (Some c) is = ap (λ (p : Option Place). Some (record { effect = effect t name a c; place = p })) is

-- the row of an operation is found under its number
pub row_numbered : (width m : ℕ) (H : List Event) (rs : List OccRow) (o : ℕ) (a : Operation) → IsLegalWithin width m H → StandsFor rs H
    → 1 ≤ o → operation H o ≡ Some a
    → numbered o rs ≡ Some (row H a)
row_numbered width m H rs o a legal stands from is =
    ap (λ (b : Bool). cond b None (slice_get rs (o - 1))) (not_zero o from)
    ∙ (looked width m H rs o legal stands from ∙ ap (λ (x : Option Operation). option_map (row H) x) is)

done_deed : (width m : ℕ) (H : List Event) (rs : List OccRow) (t : Tag) (name : List ℕ) → IsLegalWithin width m H → is_open H t ≡ true
    → StandsFor rs H
    → deed_of t (Done name) rs ≡ option_map (deed_done H) (effect_done H t (Done name))
done_deed width m H rs t name legal opened stands =
    let mine = open_operation width m H t legal opened in
    let from : 1 ≤ t.occ = low width m H (Settled t (Done name)) t.occ refl legal opened in
    let number : mine.0.occ ≡ t.occ = found_number (λ (a : Operation). a.occ) (operations H) t.occ mine.0 mine.1 in
    let going : is_over H mine.0.occ ≡ false =
    subst (λ (o : ℕ). is_over H o ≡ false) (sym number) (works_not_over H t.occ t (open_state width m H legal t opened)) in
    let place : place_by t.change (row H mine.0) ≡ granted_place H t.occ t.change =
    row_place H mine.0 t.change going ∙ ap (λ (o : ℕ). granted_place H o t.change) number in
    ap (λ (r : Option OccRow). option_and_then (deed_by t name) r) (row_numbered width m H rs t.occ mine.0 legal stands from mine.1)
    ∙ (by_row H t name mine.0 (slice_get mine.0.changes t.change) place
    ∙ ap (λ (a : Option Operation). option_map (deed_done H) (option_and_then
    (λ a. option_map (effect t name a) (slice_get a.changes t.change)) a)) (sym mine.1))

-- what an event says that an attempt did, by the rows of its past
pub deeds : (width m : ℕ) (H : List Event) (rs : List OccRow) (k : EventKind) → IsLegalWithin width m H → IsAllowedWithin width m H k
    → StandsFor rs H
    → deed_in k rs ≡ option_map (deed_done H) (effect_in H k)
unfolding effect_in
deeds width m H rs (Settled t (Done name)) legal allowed stands = done_deed width m H rs t name legal allowed stands
deeds width m H rs (Settled t _) legal allowed stands = refl
deeds width m H rs _ legal allowed stands = refl

-- an effect is on its own definition
pub on_own : (y : Effect) → is_effect_on y.instance y.def y ≡ true
on_own y = and_true (y.instance == y.instance) (same_def y.def y.def) (eq-refl y.instance) (same_def-refl y.def)

-- what is known of the definition of an effect after it is what that used, where it wasn't an undo
pub own_use : (H : List Event) (y : Effect) → same_way y.tag.way Forward ≡ true
    → known_after (Some (deed_done H y)) (known H) y.instance y.def ≡ used_by H y
own_use H y forward =
    let own : is_effect_on y.instance y.def y ≡ true = on_own y in
    by_test (same_verb y.verb Create) (λ creates. rw (creates, own, forward) refl) (λ other. rw other refl)

-- an end that isn't done does nothing
pub no_deed : (t : Tag) (outcome : Outcome) (rs : List OccRow) → ((name : List ℕ) → outcome ≡ Done name → ⊥) → deed_of t outcome rs ≡ None
no_deed t (Done name) rs f = absurd (f name refl)
no_deed t _ rs f = refl

-- an event that ends no attempt does nothing
pub no_deed_in : (k : EventKind) (rs : List OccRow) → ((t : Tag) (outcome : Outcome) → k ≡ Settled t outcome → ⊥) → deed_in k rs ≡ None
no_deed_in (Settled t outcome) rs f = absurd (f t outcome refl)
no_deed_in _ rs f = refl
