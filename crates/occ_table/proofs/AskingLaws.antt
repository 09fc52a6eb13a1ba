-- What is allowed while the grant of an occurrence is asked for, by its row.
use Rattle.std.proofs.Common.{◌≡◌, ◌&&◌, ◌∙◌, ◌↔◌, ℕ, List, Bool, true, false, not, Option, None, Some, is_some, refl, ap, sym, subst}
use Rattle.std.proofs.Common.{length}
use Rattle.std.specs.Prelude.{is_none}
use Rattle.lcm_events.specs.Same.{same_state}
use Rattle.lcm_events.proofs.SameLaws.{same_state-true}
use Rattle.lcm_events.specs.declared.events.Event.{Event}
use Rattle.lcm_events.specs.declared.events.GrantTry.{GrantTry}
use Rattle.lcm_events.specs.declared.events.GrantTry.TheVariants.{Later, NotCovering, Trouble}
use Rattle.lcm_events.specs.declared.events.Operation.{Operation}
use Rattle.lcm_events.specs.declared.places.Place.{Place}
use Rattle.lcm_events.specs.declared.states.OpState.{OpState}
use Rattle.lcm_events.specs.declared.states.OpState.TheVariants.{Starting}
use Rattle.lcm_model.specs.Allowed.{IsAsking, IsNewTry, MayGrant}
use Rattle.lcm_model.specs.Grants.{IsPlacing, has_ended, location}
use Rattle.lcm_model.specs.Moves.{state}
use Rattle.lcm_model.specs.Operations.{changes, operation}
use Rattle.lcm_laws.proofs.HoldLaws.{changes_of}
use Rattle.lcm_laws.proofs.Lists.{and_left, and_right, and_true, not-false, not-true}
use Rattle.occ_table.specs.Ended.{is_over, kept_where}
use Rattle.occ_table.specs.Rows.{cancel, occurrence, row}
use Rattle.occ_table.specs.Steps.{MayTake, is_asking_row, is_forced_mode, is_new_try_row}
use Rattle.occ_table.specs.declared.rows.OccRow.{OccRow}
use Rattle.occ_table.proofs.EndedLaws.{kept_there, starting_not_over}
use Rattle.occ_table.proofs.JudgeLaws.{found_row, none_of}
use Rattle.occ_table.proofs.MoveLaws.{forced_row}

-- the exchange of occurrence o goes on, as its row says
abbrev asks : List Event → ℕ → Bool
asks H o = same_state (state H o) Starting && not (has_ended H o) && not (is_forced_mode (cancel H o))

asks_row : (H : List Event) (n : ℕ) (r : OccRow) → occurrence H n ≡ Some r → is_asking_row r ≡ asks H n
asks_row H n r e = let mine = found_row H n r e in ap is_asking_row (sym mine.3) ∙ ap (λ (o : ℕ). asks H o) mine.2

pub asking_there : (H : List Event) (n : ℕ) (r : OccRow) → occurrence H n ≡ Some r → (is_asking_row r ≡ true) ↔ IsAsking H n
asking_there H n r e =
    let mine = found_row H n r e in
    let same : is_asking_row r ≡ asks H n = asks_row H n r e in
    let at : Bool = same_state (state H n) Starting in
    let on : Bool = not (has_ended H n) in
    let free : Bool = not (is_forced_mode (cancel H n)) in (
      λ h.
          let all : asks H n ≡ true = sym same ∙ h in
          let front : (at && on) ≡ true = and_left (at && on) free all in
          record {
            asked = ap (λ (x : Option Operation). is_some x) mine.1;
            starting = same_state-true (state H n) Starting (and_left at on front);
            goes_on = not-true (has_ended H n) (and_right at on front);
            not_forced = sym (forced_row H n) ∙ not-true (is_forced_mode (cancel H n)) (and_right (at && on) free all);
          },
      λ h.
          same
          ∙ and_true (at && on) free
          (and_true at on (ap (λ (s : OpState). same_state s Starting) h.starting) (not-false (has_ended H n) h.goes_on))
          (not-false (is_forced_mode (cancel H n)) (forced_row H n ∙ h.not_forced)),
    )

pub asking_none : (H : List Event) (n : ℕ) → occurrence H n ≡ None → (false ≡ true) ↔ IsAsking H n
asking_none H n e =
    let none : operation H n ≡ None = none_of (row H) (operation H n) e in
    (λ h. cc, λ h. sym (ap (λ (x : Option Operation). is_some x) none) ∙ h.asked)

none_is : {A : Type 0} → (x : Option A) → (is_none x ≡ true) ↔ (x ≡ None)
none_is None = (λ h. refl, λ h. refl)
none_is (Some x) = (λ h. cc, λ h. cc)

-- the location that a row has while its occurrence starts
its_location : (H : List Event) (n : ℕ) (r : OccRow) → state H n ≡ Starting → occurrence H n ≡ Some r → r.location ≡ location H n
its_location H n r starts e =
    let mine = found_row H n r e in
    sym (ap (λ (x : OccRow). x.location) mine.3)
    ∙ (ap (λ (o : ℕ). kept_where (is_over H o) (location H o)) mine.2
    ∙ kept_there (is_over H n) (location H n) (starting_not_over H n starts))

new_there : (H : List Event) (n : ℕ) (r : OccRow) (answer : GrantTry) → state H n ≡ Starting → occurrence H n ≡ Some r
    → (is_new_try_row answer r ≡ true) ↔ IsNewTry H n answer
new_there H n r (Later at) starts e =
    let is : r.location ≡ location H n = its_location H n r starts e in
    let test = none_is r.location in
    (λ h. sym is ∙ test.0 h, λ h. test.1 (is ∙ h))
new_there H n r Trouble starts e = (λ h. tt, λ h. refl)
new_there H n r NotCovering starts e = (λ h. tt, λ h. refl)

pub try_there : (H : List Event) (n : ℕ) (r : OccRow) (answer : GrantTry) (judged : Bool) → occurrence H n ≡ Some r
    → judged ≡ (is_asking_row r && is_new_try_row answer r) → (judged ≡ true) ↔ IsAsking H n × IsNewTry H n answer
try_there H n r answer judged e is =
    let asks = asking_there H n r e in (
      λ h.
          let both : (is_asking_row r && is_new_try_row answer r) ≡ true = sym is ∙ h in
          let asking : IsAsking H n = asks.0 (and_left (is_asking_row r) (is_new_try_row answer r) both) in
          (asking, (new_there H n r answer asking.starting e).0 (and_right (is_asking_row r) (is_new_try_row answer r) both)),
      λ h. is ∙ and_true (is_asking_row r) (is_new_try_row answer r) (asks.1 h.0) ((new_there H n r answer h.0.starting e).1 h.1),
    )

pub try_none : (H : List Event) (n : ℕ) (answer : GrantTry) → occurrence H n ≡ None → (false ≡ true) ↔ IsAsking H n × IsNewTry H n answer
try_none H n answer e = let none = asking_none H n e in (λ h. cc, λ h. none.1 h.0)

pub deny_there : (H : List Event) (n : ℕ) (r : OccRow) (judged : Bool) → occurrence H n ≡ Some r → judged ≡ is_asking_row r
    → (judged ≡ true) ↔ IsAsking H n
deny_there H n r judged e is = let asks = asking_there H n r e in (λ h. asks.0 (sym is ∙ h), λ h. is ∙ asks.1 h)

its_changes : (H : List Event) (n : ℕ) (r : OccRow) → occurrence H n ≡ Some r → length r.changes ≡ length (changes H n)
its_changes H n r e =
    let mine = found_row H n r e in
    sym (ap (λ (x : OccRow). length x.changes) mine.3) ∙ sym (ap length (changes_of H n mine.0 mine.1))

pub grant_there : (H : List Event) (n : ℕ) (r : OccRow) (name : List ℕ) (places : List Place) (spots : List ℕ) (judged : Bool)
    → occurrence H n ≡ Some r
    → (judged ≡ true) ↔ MayTake r name places spots → (judged ≡ true) ↔ MayGrant H n name places spots
grant_there H n r name places spots judged e is =
    let asks = asking_there H n r e in
    let long : length r.changes ≡ length (changes H n) = its_changes H n r e in (
      λ h. let may = is.0 h in record {
        asking = asks.0 may.asking;
        named = may.named;
        placed =
            subst (λ (k : ℕ). IsPlacing places spots k) long may.placed;
      },
      λ h. is.1 (record {
        asking = asks.1 h.asking;
        named = h.named;
        placed =
            subst (λ (k : ℕ). IsPlacing places spots k) (sym long) h.placed;
      }),
    )

pub grant_none : (H : List Event) (n : ℕ) (name : List ℕ) (places : List Place) (spots : List ℕ) → occurrence H n ≡ None
    → (false ≡ true) ↔ MayGrant H n name places spots
grant_none H n name places spots e = let none = asking_none H n e in (λ h. cc, λ h. none.1 h.asking)
