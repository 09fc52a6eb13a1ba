-- Grants, their places, and the attempts behind them.
use Rattle.std.proofs.Common.{◌≡◌, ◌<◌, ◌==◌, ◌++◌, ℕ, List, [], ◌∷◌, Bool, true, false, Option, None, Some, is_some, refl, sym, subst}
use Rattle.std.proofs.Common.{length, filter_map, arith, zero, suc, slice_get, ltb, ltb-true, eqb-true}
use Rattle.std.specs.List.{cons_option, list_all, list_any}
use Rattle.std.specs.Prelude.{option_and_then, unwrap_or}
use Rattle.lcm_events.specs.declared.attempts.Tag.{Tag}
use Rattle.lcm_events.specs.declared.attempts.Way.{Way}
use Rattle.lcm_events.specs.declared.attempts.Way.TheVariants.{Forward, Undo}
use Rattle.lcm_events.specs.declared.changes.Change.{Change}
use Rattle.lcm_events.specs.declared.events.Event.{Event}
use Rattle.lcm_events.specs.declared.events.EventKind.{EventKind}
use Rattle.lcm_events.specs.declared.events.EventKind.TheVariants.{Asked, Denied, GrantTried, Granted, Intent, Moved}
use Rattle.lcm_events.specs.declared.events.Operation.{Operation}
use Rattle.lcm_events.specs.declared.places.Place.{Place}
use Rattle.lcm_events.specs.declared.states.OpState.{OpState}
use Rattle.lcm_events.specs.declared.states.OpState.TheVariants.{Completed, Failed, FailedTemp, Processing, RolledBack, RollingBack}
use Rattle.lcm_events.specs.declared.states.OpState.TheVariants.{Starting}
use Rattle.lcm_model.specs.Words.{first}
use Rattle.lcm_model.specs.Moves.{state}
use Rattle.lcm_model.specs.Grants.{GrantAnswer, IsPlacing, answer_in, answers, grant, grant_in, granted_in, granted_place, is_covering}
use Rattle.lcm_model.specs.Grants.{is_granted, place_at}
use Rattle.lcm_model.specs.Operations.{changes, operation}
use Rattle.lcm_model.specs.Work.{MayMove, works_in}
use Rattle.lcm_model.specs.Allowed.{IsAllowedWithin, IsLegalWithin}
use Rattle.lcm_laws.proofs.Histories.{event, legal_before, legal_induction}
use Rattle.lcm_laws.proofs.Lists.{and_left, and_right, by_test}
use Rattle.lcm_laws.proofs.AboutLaws.{unasked_untouched}
use Rattle.lcm_laws.proofs.NumberLaws.{operation-next}
use Rattle.lcm_laws.proofs.OngoingLaws.{state-moved}

-- granted means that there is a grant
granted_step : (H : List Event) (k : EventKind) (o : ℕ) → is_granted H o ≡ is_some (grant H o)
    → list_any is_covering (cons_option (answer_in o k) (answers H o))
    ≡ is_some (first (cons_option (granted_in o k) (filter_map (λ e. granted_in o e.kind) H)))
granted_step H (Granted n name places spots) o h = by_test (n == o) (λ same. rw same refl) (λ other. rw other h)
granted_step H (GrantTried n answer) o h = by_test (n == o) (λ same. rw same h) (λ other. rw other h)
granted_step H (Denied n) o h = by_test (n == o) (λ same. rw same h) (λ other. rw other h)
granted_step H _ o h = h

pub granted_grant : (H : List Event) (o : ℕ) → is_granted H o ≡ is_some (grant H o)
granted_grant [] o = refl
granted_grant (e ∷ H) o = granted_step H e.kind o (granted_grant H o)

-- the place of a change is that of the grant
place_step : (H : List Event) (k : EventKind) (o c : ℕ) → granted_place H o c
    ≡ option_and_then (λ g. place_at g.places g.spots c) (grant H o)
    → unwrap_or (first (cons_option (grant_in o c k) (filter_map (λ e. grant_in o c e.kind) H))) None
    ≡ option_and_then (λ g. place_at g.places g.spots c) (first (cons_option (granted_in o k) (filter_map (λ e. granted_in o e.kind) H)))
place_step H (Granted n name places spots) o c h = by_test (n == o) (λ same. rw same refl) (λ other. rw other h)
place_step H _ o c h = h

pub place_grant : (H : List Event) (o c : ℕ) → granted_place H o c ≡ option_and_then (λ g. place_at g.places g.spots c) (grant H o)
place_grant [] o c = refl
place_grant (e ∷ H) o c = place_step H e.kind o c (place_grant H o c)

-- an entry of a list all of which passes a test
pub all_get : {A : Type 0} → (p : A → Bool) (xs : List A) (n : ℕ) (x : A) → list_all p xs ≡ true → slice_get xs n ≡ Some x → p x ≡ true
all_get p [] n x all e = cc
all_get {A} p (y ∷ xs) zero x all e = let is : y ≡ x = cc in subst (λ (z : A). p z ≡ true) is (and_left (p y) (list_all p xs) all)
all_get p (y ∷ xs) (suc n) x all e = all_get p xs n x (and_right (p y) (list_all p xs) all) e

pub get_some : {A : Type 0} → (xs : List A) (n : ℕ) → n < length xs → is_some (slice_get xs n) ≡ true
get_some [] n h = absurd (omega (arith, h))
get_some (x ∷ xs) zero h = refl
get_some (x ∷ xs) (suc n) h = get_some xs n (omega (arith, h))

spot_placed : (places : List Place) (spots : List ℕ) (c : ℕ) (x : Option ℕ) → slice_get spots c ≡ x → is_some (slice_get spots c) ≡ true
    → list_all (λ n. ltb n (length places)) spots ≡ true → is_some (option_and_then (slice_get places) x) ≡ true
spot_placed places spots c None is some all = let clash : is_some {T = ℕ} None ≡ true =
    subst (λ (o : Option ℕ). is_some o ≡ true) is some in cc
spot_placed places spots c (Some n) is some all =
    get_some places n (ltb-true n (length places) (all_get (λ n. ltb n (length places)) spots c n all is))

-- each change of a grant has a place
pub placed : (places : List Place) (spots : List ℕ) (asked c : ℕ) → IsPlacing places spots asked → c < asked
    → is_some (place_at places spots c) ≡ true
placed places spots asked c h within =
    let size = h.one_a_change in
    spot_placed places spots c (slice_get spots c) refl (get_some spots c (omega (arith, size, within))) h.known

any_more : {A : Type 0} → (p : A → Bool) (x : Option A) (xs : List A) → list_any p xs ≡ true → list_any p (cons_option x xs) ≡ true
any_more p None xs e = e
any_more p (Some x) xs e = by_test (p x) (λ passes. rw passes refl) (λ fails. rw fails e)

-- what was granted stays so
pub granted-next : (H : List Event) (time : ℕ) (k : EventKind) (o : ℕ) → is_granted H o ≡ true → is_granted (event time k ∷ H) o ≡ true
granted-next H time k o e = any_more is_covering (answer_in o k) (answers H o) e

-- an occurrence that was granted was asked for
granted_asked : (width m : ℕ) (H : List Event) (o : ℕ) → IsLegalWithin width m H → is_granted H o ≡ true
    → (a : Operation) × (operation H o ≡ Some a)
granted_asked width m H o legal granted = found (operation H o) refl where
  found : (x : Option Operation) → operation H o ≡ x → (a : Operation) × (operation H o ≡ Some a)
  found None e =
      let none : answers H o ≡ [] = (unasked_untouched width m H legal o e).answers in
      let clash : list_any is_covering [] ≡ true = subst (λ (xs : List GrantAnswer). list_any is_covering xs ≡ true) none granted in
      cc
  found (Some a) e = (a, e)

changes_stay : (width m : ℕ) (H : List Event) (time : ℕ) (k : EventKind) (o : ℕ) → IsLegalWithin width m H → IsAllowedWithin width m H k
    → is_granted H o ≡ true
    → changes (event time k ∷ H) o ≡ changes H o
changes_stay width m H time k o legal allowed granted =
    let mine = granted_asked width m H o legal granted in
    rw (operation-next width m H time k o mine.0 legal allowed mine.1, mine.1) refl

abbrev AllPlaced : List Event → ℕ → Type 0
AllPlaced H o = is_granted H o ≡ true → (c : ℕ) → c < length (changes H o) → is_some (granted_place H o c) ≡ true

placed_step : (width m : ℕ) (H : List Event) (time : ℕ) (k : EventKind) (o : ℕ) → IsLegalWithin width m H → IsAllowedWithin width m H k
    → AllPlaced H o
    → AllPlaced (event time k ∷ H) o
placed_step width m H time (Granted n name places spots) o legal allowed h = by_test (n == o)
    (λ same granted c within.
    let is : n ≡ o = eqb-true n o same in
    let size : c < length (changes H n) = subst (λ (k : ℕ). c < length (changes H k)) (sym is) within in
    rw same (placed places spots (length (changes H n)) c allowed.placed size))
    (λ other. rw other h)
placed_step width m H time (GrantTried n answer) o legal allowed h = by_test (n == o) (λ same. rw same h) (λ other. rw other h)
placed_step width m H time (Denied n) o legal allowed h = by_test (n == o) (λ same. rw same h) (λ other. rw other h)
placed_step width m H time (Asked a) o legal allowed h = λ granted c within. (
    let same : changes (event time (Asked a) ∷ H) o ≡ changes H o = changes_stay width m H time (Asked a) o legal allowed granted in
    h granted c (subst (λ (xs : List Change). c < length xs) same within))
placed_step width m H time _ o legal allowed h = h

-- each change of an occurrence that was granted has a place
pub all_placed : (width m : ℕ) (H : List Event) → IsLegalWithin width m H → (o : ℕ) → is_granted H o ≡ true
    → (c : ℕ) → c < length (changes H o) → is_some (granted_place H o c) ≡ true
all_placed width m H legal o =
    legal_induction width m (λ H. AllPlaced H o) (λ granted c within. cc)
    (λ H time k legal allowed h. placed_step width m H time k o legal allowed h) H legal

-- a state that only an occurrence that was granted is in
abbrev needs_grant : OpState → Bool
needs_grant Starting = false
needs_grant RolledBack = false
needs_grant _ = true

arrives : (H : List Event) (o : ℕ) (from to : OpState) → MayMove H o from to → (needs_grant from ≡ true → is_granted H o ≡ true)
    → needs_grant to ≡ true → is_granted H o ≡ true
arrives H o Starting Processing may h e = may.0
arrives H o Starting RolledBack may h e = cc
arrives H o Processing to may h e = h refl
arrives H o FailedTemp to may h e = h refl
arrives H o RollingBack to may h e = h refl
arrives H o Completed to may h e = h refl
arrives H o Failed to may h e = h refl
arrives H o _ _ may h e = absurd may

abbrev Behind : List Event → ℕ → Type 0
Behind H o = needs_grant (state H o) ≡ true → is_granted H o ≡ true

behind_step : (width m : ℕ) (H : List Event) (time : ℕ) (k : EventKind) (o : ℕ) → IsAllowedWithin width m H k → Behind H o
    → Behind (event time k ∷ H) o
behind_step width m H time (Moved n to) o allowed h e = by_test (n == o)
    (λ same.
    let is : n ≡ o = eqb-true n o same in
    let may : MayMove H o (state H o) to = subst (λ (i : ℕ). MayMove H i (state H i) to) is allowed.1 in
    let there : needs_grant to ≡ true = subst (λ (s : OpState). needs_grant s ≡ true) (state-moved H time o n to true same) e in
    arrives H o (state H o) to may h there)
    (λ other. h (subst (λ (s : OpState). needs_grant s ≡ true) (state-moved H time o n to false other) e))
behind_step width m H time (Granted n name places spots) o allowed h e = granted-next H time (Granted n name places spots) o (h e)
behind_step width m H time (GrantTried n answer) o allowed h e = granted-next H time (GrantTried n answer) o (h e)
behind_step width m H time (Denied n) o allowed h e = granted-next H time (Denied n) o (h e)
behind_step width m H time _ o allowed h e = h e

behind : (width m : ℕ) (H : List Event) → IsLegalWithin width m H → (o : ℕ) → Behind H o
behind width m H legal o =
    legal_induction width m (λ H. Behind H o) (λ e. cc) (λ H time k legal allowed h. behind_step width m H time k o allowed h) H legal

at_work : (w : Way) → needs_grant (works_in w) ≡ true
at_work Forward = refl
at_work Undo = refl

-- where an occurrence works, it was granted
pub works_granted : (width m : ℕ) (H : List Event) → IsLegalWithin width m H → (o : ℕ) (w : Way) → state H o ≡ works_in w
    → is_granted H o ≡ true
works_granted width m H legal o w is = behind width m H legal o (subst (λ (s : OpState). needs_grant s ≡ true) (sym is) (at_work w))

-- an attempt begins behind a grant of its occurrence
pub begun_granted : (width m : ℕ) (H later : List Event) (time : ℕ) (t : Tag) → IsLegalWithin width m (later ++ event time (Intent t) ∷ H)
    → is_granted H t.occ ≡ true
begun_granted width m H later time t legal =
    let here = legal_before width m (event time (Intent t) ∷ H) later legal in
    works_granted width m H here.1 t.occ t.way here.0.works
