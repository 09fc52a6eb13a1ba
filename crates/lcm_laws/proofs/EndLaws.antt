-- Open attempts fit the state, and an occurrence that ended well is made or undone whole.
use Rattle.std.proofs.Common.{◌≡◌, ◌<◌, ◌+◌, ◌==◌, ◌∙◌, ℕ, List, [], ◌∷◌, Bool, true, false, cond, not, Option, None, Some, is_some, refl}
use Rattle.std.proofs.Common.{sym, length, find, arith, eqb-true, subst}
use Rattle.std.specs.List.{list_any, list_all, enumerate_from}
use Rattle.lcm_events.specs.Same.{same_tag}
use Rattle.lcm_events.proofs.SameLaws.{eq-refl, same_tag-true}
use Rattle.lcm_events.specs.declared.attempts.Outcome.{Outcome}
use Rattle.lcm_events.specs.declared.attempts.Tag.{Tag}
use Rattle.lcm_events.specs.declared.attempts.Way.{Way}
use Rattle.lcm_events.specs.declared.attempts.Way.TheVariants.{Forward, Undo}
use Rattle.lcm_events.specs.declared.events.Event.{Event}
use Rattle.lcm_events.specs.declared.events.EventKind.{EventKind}
use Rattle.lcm_events.specs.declared.events.EventKind.TheVariants.{Asked, Intent, Moved, Settled}
use Rattle.lcm_events.specs.declared.events.Operation.{Operation}
use Rattle.lcm_events.specs.declared.states.OpState.{OpState}
use Rattle.lcm_events.specs.declared.states.OpState.TheVariants.{Completed, FailedTemp, Processing, RolledBack, RollingBack, Starting}
use Rattle.lcm_model.specs.Attempts.{is_of, is_of_occurrence, is_open, is_unsettled, net, open_of, open_tags}
use Rattle.lcm_model.specs.Moves.{state}
use Rattle.lcm_model.specs.Operations.{changes, operation, operations}
use Rattle.lcm_model.specs.Work.{MayMove, has_net, works_in}
use Rattle.lcm_model.specs.Allowed.{IsAllowedWithin, IsLegalWithin}
use Rattle.lcm_laws.specs.Nets.{EachNetIs}
use Rattle.lcm_laws.proofs.Histories.{event, legal_induction}
use Rattle.lcm_laws.proofs.Lists.{by_test, any_filter, any_of_filter, places_pass}
use Rattle.lcm_laws.proofs.NetLaws.{done_count-other, open_tags-settled}
use Rattle.lcm_laws.proofs.NumberLaws.{operation-next}
use Rattle.lcm_laws.proofs.OngoingLaws.{state-moved}

abbrev FitsState : List Event → Tag → Type 0
FitsState H t = is_open H t ≡ true → state H t.occ ≡ works_in t.way

-- an open attempt is among those of its occurrence
pub open_of-own : (H : List Event) (t : Tag) → is_open H t ≡ true → list_any (same_tag t) (open_of H t.occ) ≡ true
open_of-own H t h =
    any_filter (same_tag t) (is_of_occurrence t.occ) (open_tags H)
    (λ x same. let is : t ≡ x = same_tag-true t x same in subst (λ (y : Tag). (y.occ == t.occ) ≡ true) is (eq-refl t.occ)) h

-- where an attempt is open, its occurrence doesn't move
stays : (H : List Event) (o : ℕ) (w : Way) (from to : OpState) → from ≡ works_in w → MayMove H o from to → open_of H o ≡ []
stays H o w Processing Completed e may = may.0.none_open
stays H o w Processing FailedTemp e may = may.none_open
stays H o w RollingBack RolledBack e may = may.0.none_open
stays H o w RollingBack FailedTemp e may = may.none_open
stays H o Forward Starting to e may = cc
stays H o Undo Starting to e may = cc
stays H o Forward FailedTemp to e may = cc
stays H o Undo FailedTemp to e may = cc
stays H o w _ _ e may = absurd may

fits_moved : (H : List Event) (time : ℕ) (occ : ℕ) (to : OpState) (t : Tag) → MayMove H occ (state H occ) to → FitsState H t
    → is_open H t ≡ true → state (event time (Moved occ to) ∷ H) t.occ ≡ works_in t.way
fits_moved H time occ to t may h opened = by_test (occ == t.occ)
    (λ same.
    let is : occ ≡ t.occ = eqb-true occ t.occ same in
    let may_t : MayMove H t.occ (state H t.occ) to = subst (λ (n : ℕ). MayMove H n (state H n) to) is may in
    let none : open_of H t.occ ≡ [] = stays H t.occ t.way (state H t.occ) to (h opened) may_t in
    let some : list_any (same_tag t) [] ≡ true = subst (λ (ts : List Tag). list_any (same_tag t) ts ≡ true) none (open_of-own H t opened) in
    cc)
    (λ other. state-moved H time t.occ occ to false other ∙ h opened)

pub begun_open : (u t : Tag) (b : Bool) (ts : List Tag) → list_any (same_tag t) (cond b (u ∷ ts) ts) ≡ true → same_tag t u ≡ false
    → list_any (same_tag t) ts ≡ true
begun_open u t true ts h fails = rw fails at h
begun_open u t false ts h fails = h

fits_state_step : (width m : ℕ) (H : List Event) (time : ℕ) (k : EventKind) (t : Tag) → IsAllowedWithin width m H k → FitsState H t
    → FitsState (event time k ∷ H) t
unfolding is_unsettled
fits_state_step width m H time (Intent u) t allowed h opened = by_test (same_tag t u)
    (λ same. let is : t ≡ u = same_tag-true t u same in subst (λ (y : Tag). state H y.occ ≡ works_in y.way) (sym is) allowed.works)
    (λ other. h (begun_open u t (is_unsettled H u) (open_tags H) opened other))
fits_state_step width m H time (Settled u out) t allowed h opened =
    h (any_of_filter (same_tag t) (λ x. not (same_tag x u)) (open_tags H)
    (subst (λ (ts : List Tag). list_any (same_tag t) ts ≡ true) (open_tags-settled H time u out) opened))
fits_state_step width m H time (Moved occ to) t allowed h opened = fits_moved H time occ to t allowed.1 h opened
fits_state_step width m H time _ t allowed h opened = h opened

-- an open attempt is in the state in which attempts in its way are made
pub open_state : (width m : ℕ) (H : List Event) → IsLegalWithin width m H → (t : Tag) → is_open H t ≡ true → state H t.occ ≡ works_in t.way
open_state width m H legal t =
    legal_induction width m (λ H. FitsState H t) (λ opened. cc) (λ H time k legal allowed h. fits_state_step width m H time k t allowed h) H
    legal

-- an occurrence that isn't asked for is STARTING
abbrev Unasked : List Event → ℕ → Type 0
Unasked H o = operation H o ≡ None → state H o ≡ Starting

unasked_find : (a : Operation) (o : ℕ) (xs : List Operation) (b : Bool) → cond b (Some a) (find (λ x. x.occ == o) xs) ≡ None
    → find (λ x. x.occ == o) xs ≡ None
unasked_find a o xs true e = cc
unasked_find a o xs false e = e

unasked_step : (width m : ℕ) (H : List Event) (time : ℕ) (k : EventKind) (o : ℕ) → IsAllowedWithin width m H k → Unasked H o
    → Unasked (event time k ∷ H) o
unasked_step width m H time (Asked a) o allowed h none = h (unasked_find a o (operations H) (a.occ == o) none)
unasked_step width m H time (Moved occ to) o allowed h none = by_test (occ == o)
    (λ same.
    let is : occ ≡ o = eqb-true occ o same in
    let asked : is_some (operation H o) ≡ true = subst (λ (n : ℕ). is_some (operation H n) ≡ true) is allowed.0 in
    let missing : is_some {T = Operation} None ≡ true = subst (λ (a : Option Operation). is_some a ≡ true) none asked in
    cc)
    (λ other. state-moved H time o occ to false other ∙ h none)
unasked_step width m H time _ o allowed h none = h none

pub unasked_starting : (width m : ℕ) (H : List Event) → IsLegalWithin width m H → (o : ℕ) → operation H o ≡ None → state H o ≡ Starting
unasked_starting width m H legal o =
    legal_induction width m (λ H. Unasked H o) (λ none. refl) (λ H time k legal allowed h. unasked_step width m H time k o allowed h) H
    legal

-- an operation was asked for where its state isn't STARTING
pub asked_for : (width m : ℕ) (H : List Event) → IsLegalWithin width m H → (o : ℕ) (s : OpState) → state H o ≡ s → (s ≡ Starting → ⊥)
    → (a : Operation) × (operation H o ≡ Some a)
asked_for width m H legal o s is fails = found (operation H o) refl where
  found : (x : Option Operation) → operation H o ≡ x → (a : Operation) × (operation H o ≡ Some a)
  found None e = absurd (fails (sym is ∙ unasked_starting width m H legal o e))
  found (Some a) e = (a, e)

-- where the state isn't STARTING, the next event leaves the changes
pub changes-next : (width m : ℕ) (H : List Event) (time : ℕ) (k : EventKind) (o : ℕ) (s : OpState) → IsLegalWithin width m H
    → IsAllowedWithin width m H k
    → state H o ≡ s → (s ≡ Starting → ⊥) → changes (event time k ∷ H) o ≡ changes H o
changes-next width m H time k o s legal allowed is fails =
    let a : (a : Operation) × (operation H o ≡ Some a) = asked_for width m H legal o s is fails in
    rw (operation-next width m H time k o a.0 legal allowed a.1, a.1) refl

-- what an attempt that ends does to the net of a change of another occurrence: nothing
net-settled : (H : List Event) (time : ℕ) (t : Tag) (out : Outcome) (o c : ℕ) → (t.occ == o) ≡ false
    → net (event time (Settled t out) ∷ H) o c ≡ net H o c
net-settled H time t out o c fails =
    let other : is_of o c t ≡ false = rw fails refl in
    rw (done_count-other Forward H time t out o c other, done_count-other Undo H time t out o c other) refl

elsewhere : (width m : ℕ) (H : List Event) → IsLegalWithin width m H → (t : Tag) (o : ℕ) (s : OpState) → is_open H t ≡ true → state H o ≡ s
    → ((w : Way) → s ≡ works_in w → ⊥) → (t.occ == o) ≡ false
elsewhere width m H legal t o s opened is fails = by_test (t.occ == o)
    (λ same.
    let at : t.occ ≡ o = eqb-true t.occ o same in
    absurd (fails t.way (sym is ∙ subst (λ (n : ℕ). state H n ≡ works_in t.way) at (open_state width m H legal t opened))))
    (λ other. other)

-- where the work of an occurrence is done, the next event leaves the nets, unless it moves the occurrence
pub net-next : (width m : ℕ) (H : List Event) (time : ℕ) (k : EventKind) (o c : ℕ) (s : OpState) → IsLegalWithin width m H
    → IsAllowedWithin width m H k → state H o ≡ s
    → ((w : Way) → s ≡ works_in w → ⊥) → net (event time k ∷ H) o c ≡ net H o c
net-next width m H time (Settled t out) o c s legal allowed is fails =
    net-settled H time t out o c (elsewhere width m H legal t o s allowed is fails)
net-next width m H time _ o c s legal allowed is fails = refl

not_at_work : (s : OpState) → (s ≡ Processing → ⊥) → (s ≡ RollingBack → ⊥) → (w : Way) → s ≡ works_in w → ⊥
not_at_work s f g Forward e = f e
not_at_work s f g Undo e = g e

-- in STARTING every net is 0
abbrev Untouched : List Event → ℕ → Type 0
Untouched H o = state H o ≡ Starting → (c : ℕ) → net H o c ≡ 0

never_starting : (H : List Event) (o : ℕ) (from : OpState) → MayMove H o from Starting → ⊥
never_starting H o Starting h = h
never_starting H o _ h = h

untouched_step : (width m : ℕ) (H : List Event) (time : ℕ) (k : EventKind) (o : ℕ) → IsLegalWithin width m H → IsAllowedWithin width m H k
    → Untouched H o → Untouched (event time k ∷ H) o
untouched_step width m H time (Moved occ to) o legal allowed h starting c = by_test (occ == o)
    (λ same.
    let is : to ≡ Starting = sym (state-moved H time o occ to true same) ∙ starting in
    absurd (never_starting H occ (state H occ) (subst (λ (s : OpState). MayMove H occ (state H occ) s) is allowed.1)))
    (λ other. h (sym (state-moved H time o occ to false other) ∙ starting) c)
untouched_step width m H time (Settled t out) o legal allowed h starting c =
    net-next width m H time (Settled t out) o c Starting legal allowed starting (not_at_work Starting (λ e. cc) (λ e. cc)) ∙ h starting c
untouched_step width m H time _ o legal allowed h starting c = h starting c

pub starting_untouched : (width m : ℕ) (H : List Event) → IsLegalWithin width m H → (o : ℕ) → state H o ≡ Starting → (c : ℕ) → net H o c ≡ 0
starting_untouched width m H legal o =
    legal_induction width m (λ H. Untouched H o) (λ e c. refl) (λ H time k legal allowed h.
    untouched_step width m H time k o legal allowed h) H legal

each_net : (H : List Event) (o n : ℕ) → list_all (has_net H o n) (enumerate_from 0 (changes H o)) ≡ true → EachNetIs H o n
unfolding has_net
each_net H o n all c within =
    let is : (net H o (0 + c) == n) ≡ true = places_pass (λ k. net H o k == n) 0 (changes H o) c all within in
    let same : 0 + c ≡ c = omega arith in
    subst (λ (k : ℕ). net H o k ≡ n) same (eqb-true (net H o (0 + c)) n is)

-- a state in which an occurrence has ended, with the net that its changes then have
abbrev Ends : List Event → ℕ → OpState → ℕ → Type 0
Ends H o s n = state H o ≡ s → EachNetIs H o n

-- what has ended stays as it ended
ends_kept : (width m : ℕ) (H : List Event) (time : ℕ) (k : EventKind) (o n : ℕ) (s : OpState) → IsLegalWithin width m H
    → IsAllowedWithin width m H k → state H o ≡ s
    → (s ≡ Starting → ⊥) → ((w : Way) → s ≡ works_in w → ⊥) → EachNetIs H o n → EachNetIs (event time k ∷ H) o n
ends_kept width m H time k o n s legal allowed is no_start no_work h c within =
    let same : changes (event time k ∷ H) o ≡ changes H o = changes-next width m H time k o s legal allowed is no_start in
    net-next width m H time k o c s legal allowed is no_work ∙ h c (subst (λ xs. c < length xs) same within)

-- a move to the end
ends_moved : (width m : ℕ) (H : List Event) (time occ : ℕ) (to : OpState) (o n : ℕ) (s : OpState) → IsLegalWithin width m H
    → IsAllowedWithin width m H (Moved occ to)
    → (s ≡ Starting → ⊥) → ((w : Way) → s ≡ works_in w → ⊥)
    → ((from : OpState) → state H o ≡ from → MayMove H o from s → EachNetIs H o n) → Ends H o s n
    → Ends (event time (Moved occ to) ∷ H) o s n
ends_moved width m H time occ to o n s legal allowed no_start no_work arrives h ended = by_test (occ == o)
    (λ same.
    let is : occ ≡ o = eqb-true occ o same in
    let there : to ≡ s = sym (state-moved H time o occ to true same) ∙ ended in
    let may : MayMove H o (state H o) s =
    subst (λ (x : OpState). MayMove H o (state H o) x) there (subst (λ (x : ℕ). MayMove H x (state H x) to) is allowed.1) in
    arrives (state H o) refl may)
    (λ other.
    let before : state H o ≡ s = sym (state-moved H time o occ to false other) ∙ ended in
    ends_kept width m H time (Moved occ to) o n s legal allowed before no_start no_work (h before))

ends_step : (width m : ℕ) (H : List Event) (time : ℕ) (k : EventKind) (o n : ℕ) (s : OpState) → IsLegalWithin width m H
    → IsAllowedWithin width m H k
    → (s ≡ Starting → ⊥) → ((w : Way) → s ≡ works_in w → ⊥)
    → ((from : OpState) → state H o ≡ from → MayMove H o from s → EachNetIs H o n) → Ends H o s n → Ends (event time k ∷ H) o s n
ends_step width m H time (Moved occ to) o n s legal allowed no_start no_work arrives h ended =
    ends_moved width m H time occ to o n s legal allowed no_start no_work arrives h ended
ends_step width m H time (Asked a) o n s legal allowed no_start no_work arrives h ended =
    ends_kept width m H time (Asked a) o n s legal allowed ended no_start no_work (h ended)
ends_step width m H time (Settled t out) o n s legal allowed no_start no_work arrives h ended =
    ends_kept width m H time (Settled t out) o n s legal allowed ended no_start no_work (h ended)
ends_step width m H time _ o n s legal allowed no_start no_work arrives h ended = h ended

completed_arrives : (H : List Event) (o : ℕ) (from : OpState) → MayMove H o from Completed → EachNetIs H o 1
completed_arrives H o Processing may = each_net H o 1 may.1
completed_arrives H o _ may = absurd may

rolled_arrives : (width m : ℕ) (H : List Event) (o : ℕ) (from : OpState) → IsLegalWithin width m H → state H o ≡ from
    → MayMove H o from RolledBack → EachNetIs H o 0
rolled_arrives width m H o RollingBack legal is may = each_net H o 0 may.1
rolled_arrives width m H o Starting legal is may = λ c within. starting_untouched width m H legal o is c
rolled_arrives width m H o _ legal is may = absurd may

-- every change of a COMPLETED occurrence is made
pub completed_made : (width m : ℕ) (H : List Event) → IsLegalWithin width m H → (o : ℕ) → state H o ≡ Completed → EachNetIs H o 1
completed_made width m H legal o =
    legal_induction width m (λ H. Ends H o Completed 1) (λ e. cc)
    (λ H time k legal allowed h. ends_step width m H time k o 1 Completed legal allowed (λ e. cc)
    (not_at_work Completed (λ e. cc) (λ e. cc))
    (λ from is may. completed_arrives H o from may) h) H legal

-- no change of a ROLLED_BACK occurrence is made
pub rolled_back_undone : (width m : ℕ) (H : List Event) → IsLegalWithin width m H → (o : ℕ) → state H o ≡ RolledBack → EachNetIs H o 0
rolled_back_undone width m H legal o =
    legal_induction width m (λ H. Ends H o RolledBack 0) (λ e. cc)
    (λ H time k legal allowed h. ends_step width m H time k o 0 RolledBack legal allowed (λ e. cc)
    (not_at_work RolledBack (λ e. cc) (λ e. cc))
    (λ from is may. rolled_arrives width m H o from legal is may) h) H legal
