-- An open attempt is of a change of its operation.
use Rattle.std.proofs.Common.{◌≡◌, ℕ, List, [], ◌∷◌, true, Option, None, Some, refl, sym, subst, slice_get}
use Rattle.lcm_events.specs.Same.{same_tag}
use Rattle.lcm_events.proofs.SameLaws.{same_tag-true}
use Rattle.lcm_events.specs.declared.attempts.Tag.{Tag}
use Rattle.lcm_events.specs.declared.changes.Change.{Change}
use Rattle.lcm_events.specs.declared.events.Event.{Event}
use Rattle.lcm_events.specs.declared.events.EventKind.{EventKind}
use Rattle.lcm_events.specs.declared.events.EventKind.TheVariants.{Asked, Intent, Settled}
use Rattle.lcm_events.specs.declared.events.Operation.{Operation}
use Rattle.std.specs.Option.{option_map_or}
use Rattle.lcm_model.specs.Allowed.{IsAllowedWithin, IsLegalWithin}
use Rattle.lcm_model.specs.Attempts.{is_open, is_unsettled, open_tags}
use Rattle.lcm_model.specs.Operations.{operation}
use Rattle.lcm_model.specs.Work.{IsTurnOf}
use Rattle.lcm_laws.proofs.EndLaws.{begun_open}
use Rattle.lcm_laws.proofs.Histories.{event, legal_induction}
use Rattle.lcm_laws.proofs.Lists.{by_test}
use Rattle.lcm_laws.proofs.NumberLaws.{operation-next}
use Rattle.held_items.proofs.PowerLaws.{still_open}

-- the attempt is of a change of its operation
abbrev IsOfChange : List Event → Tag → Type 0
IsOfChange H t = (a : Operation) × (k : Change) × (operation H t.occ ≡ Some a) × (slice_get a.changes t.change ≡ Some k)

abbrev AllOfChanges : List Event → Type 0
AllOfChanges H = (t : Tag) → is_open H t ≡ true → IsOfChange H t

change_by : (H : List Event) (t : Tag) (a : Operation) (k : Option Change) → operation H t.occ ≡ Some a → slice_get a.changes t.change ≡ k
    → IsTurnOf H t k → IsOfChange H t
change_by H t a None found is turn = absurd turn
change_by H t a (Some k) found is turn = (a, k, found, is)

turn_of : (H : List Event) (t : Tag) (a : Option Operation) → operation H t.occ ≡ a
    → IsTurnOf H t (slice_get (option_map_or (λ a. a.changes) a []) t.change) → IsOfChange H t
turn_of H t None found turn = absurd turn
turn_of H t (Some a) found turn = change_by H t a (slice_get a.changes t.change) found refl turn

changes_step : (width m : ℕ) (H : List Event) (time : ℕ) (k : EventKind) → IsLegalWithin width m H → IsAllowedWithin width m H k
    → AllOfChanges H → AllOfChanges (event time k ∷ H)
unfolding is_unsettled
changes_step width m H time (Intent u) legal allowed h t opened = by_test (same_tag t u)
    (λ same. subst (λ (z : Tag). IsOfChange H z) (sym (same_tag-true t u same)) (turn_of H u (operation H u.occ) refl allowed.turn))
    (λ other. h t (begun_open u t (is_unsettled H u) (open_tags H) opened other))
changes_step width m H time (Settled u out) legal allowed h t opened = h t (still_open H time u t out opened)
changes_step width m H time (Asked b) legal allowed h t opened =
    let mine : IsOfChange H t = h t opened in (
      mine.0,
      mine.1,
      operation-next width m H time (Asked b) t.occ mine.0 legal allowed mine.2,
      mine.3,
    )
changes_step width m H time other legal allowed h t opened = h t opened

-- an open attempt is of a change of its operation
pub open_of_change : (width m : ℕ) (H : List Event) → IsLegalWithin width m H → (t : Tag) → is_open H t ≡ true → IsOfChange H t
open_of_change width m H legal = legal_induction width m AllOfChanges (λ t opened. cc)
    (λ H time k legal allowed h. changes_step width m H time k legal allowed h) H legal
