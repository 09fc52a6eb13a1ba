-- Events are about occurrences that were asked for.
use Rattle.std.proofs.Common.{◌≡◌, ◌||◌, ◌==◌, ◌∙◌, ◌++◌, ℕ, List, [], ◌∷◌, Bool, true, false, cond, Option, None, Some, is_some, refl, ap}
use Rattle.std.proofs.Common.{subst, filter, filter_map, eqb-true}
use Rattle.std.specs.List.{cons_option}
use Rattle.lcm_events.specs.declared.attempts.Outcome.{Outcome}
use Rattle.lcm_events.specs.declared.attempts.Tag.{Tag}
use Rattle.lcm_events.specs.declared.attempts.Way.{Way}
use Rattle.lcm_events.specs.declared.events.Event.{Event}
use Rattle.lcm_events.specs.declared.events.EventKind.{EventKind}
use Rattle.lcm_events.specs.declared.events.EventKind.TheVariants.{Asked, CallFailed, CancelAsked, Denied, GrantTried, Granted, Intent}
use Rattle.lcm_events.specs.declared.events.EventKind.TheVariants.{Moved, Settled}
use Rattle.lcm_events.specs.declared.events.Operation.{Operation}
use Rattle.lcm_events.specs.declared.states.OpState.TheVariants.{Starting}
use Rattle.lcm_model.specs.Moves.{moved_to, moves, state}
use Rattle.lcm_model.specs.Attempts.{attempts, done_count, intents, is_of, is_of_occurrence, is_open, is_unsettled, open_of, open_tags}
use Rattle.lcm_model.specs.Grants.{answers, grant}
use Rattle.lcm_model.specs.Operations.{occurrence_of, operation}
use Rattle.lcm_model.specs.Since.{cancels, has_trouble, troubles}
use Rattle.lcm_model.specs.Work.{works_in}
use Rattle.lcm_model.specs.Allowed.{IsAllowedWithin, IsLegalWithin}
use Rattle.lcm_laws.specs.Asking.{IsUntouched}
use Rattle.lcm_laws.proofs.Histories.{event, legal_induction}
use Rattle.lcm_laws.proofs.Lists.{by_test}
use Rattle.lcm_laws.proofs.EndLaws.{asked_for}
use Rattle.lcm_laws.proofs.NetLaws.{another, done_count-other, filter_cond_other}
use Rattle.lcm_laws.proofs.OpenLaws.{open_of-ended}
use Rattle.lcm_laws.proofs.SettledLaws.{open_operation, works_later}

-- an operation that is found
asked_at : (H : List Event) (o : ℕ) (a : Operation) → operation H o ≡ Some a → is_some (operation H o) ≡ true
asked_at H o a e = rw e refl

asked_open : (width m : ℕ) (H : List Event) (t : Tag) → IsLegalWithin width m H → is_open H t ≡ true → is_some (operation H t.occ) ≡ true
asked_open width m H t legal opened = let mine = open_operation width m H t legal opened in asked_at H t.occ mine.0 mine.1

asked_begun : (width m : ℕ) (H : List Event) (t : Tag) → IsLegalWithin width m H → state H t.occ ≡ works_in t.way
    → is_some (operation H t.occ) ≡ true
asked_begun width m H t legal works =
    let mine = asked_for width m H legal t.occ (works_in t.way) works (works_later t.way) in asked_at H t.occ mine.0 mine.1

at_some : (H : List Event) (n o : ℕ) → Some n ≡ Some o → is_some (operation H n) ≡ true → is_some (operation H o) ≡ true
at_some H n o e h = let is : n ≡ o = cc in subst (λ (k : ℕ). is_some (operation H k) ≡ true) is h

-- an event is about an occurrence that was asked for
pub about_asked : (width m : ℕ) (H : List Event) (k : EventKind) → IsLegalWithin width m H → IsAllowedWithin width m H k
    → (o : ℕ) → occurrence_of k ≡ Some o → is_some (operation H o) ≡ true
about_asked width m H (GrantTried n answer) legal allowed o e = at_some H n o e allowed.0.asked
about_asked width m H (Granted n grant places spots) legal allowed o e = at_some H n o e allowed.asking.asked
about_asked width m H (Denied n) legal allowed o e = at_some H n o e allowed.asked
about_asked width m H (Intent t) legal allowed o e = at_some H t.occ o e (asked_begun width m H t legal allowed.works)
about_asked width m H (CallFailed t) legal allowed o e = at_some H t.occ o e (asked_open width m H t legal allowed.0)
about_asked width m H (Settled t outcome) legal allowed o e = at_some H t.occ o e (asked_open width m H t legal allowed)
about_asked width m H (Moved n to) legal allowed o e = at_some H n o e allowed.0
about_asked width m H (CancelAsked n mode) legal allowed o e = at_some H n o e allowed.0
about_asked width m H _ legal allowed o e = cc

-- nothing was done to the occurrence, part by part
abbrev Untouched : List Event → ℕ → Type 0
Untouched H o =
    (moves H o ≡ Starting ∷ []) × ((c : ℕ) → attempts H o c ≡ []) × (open_of H o ≡ []) × ((way : Way) (c : ℕ) → done_count way H o c ≡ 0)
    × (answers H o ≡ []) × (grant H o ≡ None) × (cancels H o ≡ []) × (has_trouble H o ≡ false)

not_of : (o c : ℕ) (t : Tag) → (t.occ == o) ≡ false → is_of o c t ≡ false
not_of o c t other = rw other refl

-- an event about another occurrence
elsewhere : {P : Type 0} → (n o : ℕ) → (Some n ≡ Some o → ⊥) → ((n == o) ≡ false → P) → P
elsewhere n o f g = by_test (n == o) (λ same. absurd (f (ap Some (eqb-true n o same)))) g

begun_away : (H : List Event) (t : Tag) (o c : ℕ) → (t.occ == o) ≡ false → attempts H o c ≡ [] → filter (is_of o c) (t ∷ intents H) ≡ []
begun_away H t o c other h = rw other h

untouched_begun : (H : List Event) (time : ℕ) (t : Tag) (o : ℕ) → (t.occ == o) ≡ false → Untouched H o
    → Untouched (event time (Intent t) ∷ H) o
unfolding is_unsettled
untouched_begun H time t o other h = (
  h.0,
  λ c. begun_away H t o c other (h.1 c),
  filter_cond_other (is_of_occurrence o) t (is_unsettled H t) (open_tags H) other ∙ h.2,
  h.3,
  h.4,
  h.5,
  h.6,
  h.7,
)

untouched_ended : (H : List Event) (time : ℕ) (t : Tag) (outcome : Outcome) (o : ℕ) → (t.occ == o) ≡ false → Untouched H o
    → Untouched (event time (Settled t outcome) ∷ H) o
untouched_ended H time t outcome o other h = (
  h.0,
  h.1,
  open_of-ended H time t outcome o ∙ ap (λ (ts : List Tag). filter (another t) ts) h.2,
  λ way c. done_count-other way H time t outcome o c (not_of o c t other) ∙ h.3 way c,
  h.4,
  h.5,
  h.6,
  rw other h.7,
)

untouched_by : (H : List Event) (time : ℕ) (k : EventKind) (o : ℕ) → (occurrence_of k ≡ Some o → ⊥) → Untouched H o
    → Untouched (event time k ∷ H) o
unfolding is_unsettled
untouched_by H time (GrantTried n answer) o f h = elsewhere n o f (λ other. rw other h)
untouched_by H time (Granted n name places spots) o f h = elsewhere n o f (λ other. rw other h)
untouched_by H time (Denied n) o f h = elsewhere n o f (λ other. rw other h)
untouched_by H time (Intent t) o f h = elsewhere t.occ o f (λ other. untouched_begun H time t o other h)
untouched_by H time (CallFailed t) o f h = h
untouched_by H time (Settled t outcome) o f h = elsewhere t.occ o f (λ other. untouched_ended H time t outcome o other h)
untouched_by H time (Moved n to) o f h = elsewhere n o f (λ other. rw other h)
untouched_by H time (CancelAsked n mode) o f h = elsewhere n o f (λ other. rw other h)
untouched_by H time _ o f h = h

-- an occurrence that wasn't asked for wasn't before either
unasked_before : (H : List Event) (time : ℕ) (k : EventKind) (o : ℕ) → operation (event time k ∷ H) o ≡ None → operation H o ≡ None
unasked_before H time (Asked a) o e = find_none (a.occ == o) e where
  find_none : (b : Bool) → cond b (Some a) (operation H o) ≡ None → operation H o ≡ None
  find_none true e = cc
  find_none false e = e
unasked_before H time _ o e = e

untouched_step : (width m : ℕ) (H : List Event) (time : ℕ) (k : EventKind) (o : ℕ) → IsLegalWithin width m H → IsAllowedWithin width m H k
    → (operation H o ≡ None → Untouched H o) → operation (event time k ∷ H) o ≡ None → Untouched (event time k ∷ H) o
untouched_step width m H time k o legal allowed h e =
    let none : operation H o ≡ None = unasked_before H time k o e in
    untouched_by H time k o
    (λ about.
    let asked : is_some (operation H o) ≡ true = about_asked width m H k legal allowed o about in
    let clash : is_some {T = Operation} None ≡ true = subst (λ (a : Option Operation). is_some a ≡ true) none asked in
    cc)
    (h none)

-- nothing was done to an occurrence that wasn't asked for
pub unasked_untouched : (width m : ℕ) (H : List Event) → IsLegalWithin width m H → (o : ℕ) → operation H o ≡ None → IsUntouched H o
unasked_untouched width m H legal o none =
    let h : Untouched H o =
    legal_induction width m (λ H. operation H o ≡ None → Untouched H o)
    (λ e. (refl, λ c. refl, refl, λ way c. refl, refl, refl, refl, refl))
    (λ H time k legal allowed h. untouched_step width m H time k o legal allowed h) H legal none in
    record {
      moves = h.0;
      attempts = h.1;
      none_open = h.2;
      none_done = h.3;
      answers = h.4;
      grant = h.5;
      cancels = h.6;
      no_trouble = h.7;
    }

or_right : (a b : Bool) → b ≡ true → (a || b) ≡ true
or_right true b e = refl
or_right false b e = e

stays_troubled : (H : List Event) (e : Event) (o : ℕ) → moved_to o e.kind ≡ None → has_trouble H o ≡ true → has_trouble (e ∷ H) o ≡ true
stays_troubled H e o still h = rw still (or_right (troubles H o e.kind) (has_trouble H o) h)

none_first : {A : Type 0} → (x : Option A) (xs : List A) → cons_option x xs ≡ [] → x ≡ None
none_first None xs e = refl
none_first (Some x) xs e = cc

none_rest : {A : Type 0} → (x : Option A) (xs : List A) → cons_option x xs ≡ [] → xs ≡ []
none_rest None xs e = e
none_rest (Some x) xs e = cc

-- trouble lasts until the next move
pub trouble_lasts : (H later : List Event) (o : ℕ) → has_trouble H o ≡ true → filter_map (λ e. moved_to o e.kind) later ≡ []
    → has_trouble (later ++ H) o ≡ true
trouble_lasts H [] o h e = h
trouble_lasts H (x ∷ later) o h e =
    stays_troubled (later ++ H) x o (none_first (moved_to o x.kind) _ e)
    (trouble_lasts H later o h (none_rest (moved_to o x.kind) (filter_map (λ e. moved_to o e.kind) later) e))
