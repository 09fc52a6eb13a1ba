-- How an occurrence may move, by its row.
use Rattle.std.proofs.Common.{◌≡◌, ◌||◌, ◌&&◌, ◌==◌, ◌∙◌, ◌↔◌, ◌+◌, ℕ, List, [], ◌∷◌, Bool, true, false, cond, not, Option, None, Some}
use Rattle.std.proofs.Common.{is_some, refl, ap, sym, subst, length, map, option_map, arith}
use Rattle.std.specs.Prelude.{is_none}
use Rattle.std.specs.List.{enumerate_from, list_all, list_any, range_with_len}
use Rattle.std.proofs.lemmas.List.{length-map, length-reverse}
use Rattle.lcm_events.specs.declared.attempts.Tag.{Tag}
use Rattle.lcm_events.specs.declared.changes.Change.{Change}
use Rattle.lcm_events.specs.declared.events.Event.{Event}
use Rattle.lcm_events.specs.declared.events.Operation.{Operation}
use Rattle.lcm_events.specs.declared.states.CancelMode.{CancelMode}
use Rattle.lcm_events.specs.declared.states.CancelMode.TheVariants.{Forceful, Graceful}
use Rattle.lcm_events.specs.declared.states.OpState.{OpState}
use Rattle.lcm_events.specs.declared.states.OpState.TheVariants.{Completed, Failed, FailedTemp, Processing, RolledBack, RollingBack}
use Rattle.lcm_events.specs.declared.states.OpState.TheVariants.{Starting}
use Rattle.lcm_model.specs.Attempts.{net, open_of}
use Rattle.lcm_model.specs.Grants.{grant, has_ended, is_granted}
use Rattle.lcm_model.specs.Moves.{state}
use Rattle.lcm_model.specs.Operations.{operation}
use Rattle.lcm_model.specs.Since.{cancels, has_trouble, is_cancelled, is_forced, is_forceful}
use Rattle.lcm_model.specs.Work.{HasStopped, IsQuiet, MayMove, all_have_net, gives_up, has_net, is_termination}
use Rattle.lcm_model.specs.Words.{first}
use Rattle.lcm_laws.proofs.GrantLaws.{granted_grant}
use Rattle.lcm_laws.proofs.Lists.{and_left, and_right, and_true, not-false, not-true}
use Rattle.occ_table.specs.Ended.{is_over, kept_grant}
use Rattle.occ_table.specs.Rows.{cancel, nets, occurrence, pending_of, pendings, row}
use Rattle.occ_table.specs.Steps.{gives_up_row, has_stopped_row, is_forced_mode, is_quiet_row, may_move_from, none_open}
use Rattle.std.specs.Prelude.{zip}
use Rattle.lcm_model.specs.Allowed.{IsLegalWithin}
use Rattle.lcm_model.specs.Operations.{operations}
use Rattle.occ_table.specs.Phases.{none_counted}
use Rattle.occ_table.proofs.PhaseLaws.{none-counts, through}
use Rattle.occ_table.proofs.PlanPhases.{sound_made, sound_undone}
use Rattle.occ_table.specs.declared.pending.Pending.{Pending}
use Rattle.occ_table.specs.declared.rows.OccRow.{OccRow}
use Rattle.occ_table.proofs.JudgeLaws.{found_in, found_row, none_of}

some_map : {A B : Type 0} → (f : A → B) (x : Option A) → is_some (option_map f x) ≡ is_some x
some_map f None = refl
some_map f (Some a) = refl

granted_row : (H : List Event) (a : Operation) → is_some (row H a).grant ≡ is_granted H a.occ
granted_row H a = some_map (kept_grant (is_over H a.occ)) (grant H a.occ) ∙ sym (granted_grant H a.occ)

mode_there : (cs : List CancelMode) → is_some (cond (list_any is_forceful cs) (Some Forceful)
    (cond (is_some (first cs)) (Some Graceful) None)) ≡ is_some (first cs)
mode_there [] = refl
mode_there (c ∷ cs) = either (list_any is_forceful (c ∷ cs)) where
  either : (b : Bool) → is_some (cond b (Some Forceful) (Some Graceful)) ≡ true
  either true = refl
  either false = refl

pub cancelled_row : (H : List Event) (o : ℕ) → is_some (cancel H o) ≡ is_cancelled H o
cancelled_row H o = mode_there (cancels H o)

pub forced_row : (H : List Event) (o : ℕ) → is_forced_mode (cancel H o) ≡ is_forced H o
forced_row H o = by (is_forced H o) (is_cancelled H o) where
  by : (f c : Bool) → is_forced_mode (cond f (Some Forceful) (cond c (Some Graceful) None)) ≡ f
  by true c = refl
  by false true = refl
  by false false = refl

none-some : {A : Type 0} → (x : Option A) → is_none x ≡ not (is_some x)
none-some None = refl
none-some (Some a) = refl

none_long : (ps : List Pending) (ts : List Tag) → length ps ≡ length ts → (none_open ps ≡ true) ↔ (ts ≡ [])
none_long [] [] e = (λ h. refl, λ h. refl)
none_long [] (t ∷ ts) e = absurd (omega (arith, e))
none_long (p ∷ ps) [] e = absurd (omega (arith, e))
none_long (p ∷ ps) (t ∷ ts) e = (λ h. cc, λ h. cc)

pub none_row : (H : List Event) (o : ℕ) → (none_open (pendings H o) ≡ true) ↔ (open_of H o ≡ [])
none_row H o = none_long (pendings H o) (open_of H o) (length-reverse (map (pending_of H) (open_of H o))
    ∙ length-map (open_of H o) (pending_of H))

nets_all : (H : List Event) (o k j : ℕ) (xs : List Change)
    → list_all (through (λ p. true) k) (zip xs (map (net H o) (range_with_len j (length xs))))
    ≡ list_all (has_net H o k) (enumerate_from j xs)
unfolding has_net
nets_all H o k j [] = refl
nets_all H o k j (x ∷ xs) = ap (λ (b : Bool). (net H o j == k) && b) (nets_all H o k (j + 1) xs)

nets_row : (H : List Event) (a : Operation) (k : ℕ) → operation H a.occ ≡ Some a
    → list_all (through (λ p. true) k) (zip a.changes (nets H a)) ≡ all_have_net H a.occ k
nets_row H a k e = nets_all H a.occ k 0 a.changes ∙ sym (rw e refl)

all_made : (width m : ℕ) (H : List Event) (a : Operation) → IsLegalWithin width m H → operation H a.occ ≡ Some a
    → none_counted (row H a).waiting ≡ all_have_net H a.occ 1
all_made width m H a legal e =
    none-counts 1 0 a.changes (nets H a) (sound_made width m H a legal (found_in (λ x. x.occ) (operations H) a.occ a e)) ∙ nets_row H a 1 e

all_undone : (width m : ℕ) (H : List Event) (a : Operation) → IsLegalWithin width m H → operation H a.occ ≡ Some a
    → none_counted (row H a).made ≡ all_have_net H a.occ 0
all_undone width m H a legal e =
    none-counts 0 1 a.changes (nets H a) (sound_undone width m H a legal (found_in (λ x. x.occ) (operations H) a.occ a e))
    ∙ nets_row H a 0 e

quiet_row : (H : List Event) (a : Operation) → (is_quiet_row (row H a) ≡ true) ↔ IsQuiet H a.occ
quiet_row H a =
    let none : Bool = none_open (pendings H a.occ) in
    let calm : Bool = not (has_trouble H a.occ) in
    let free : Bool = is_none (cancel H a.occ) in (
      λ h.
          let front : (none && calm) ≡ true = and_left (none && calm) free h in
          let last : free ≡ true = and_right (none && calm) free h in
          record {
            none_open = (none_row H a.occ).0 (and_left none calm front);
            no_trouble = not-true (has_trouble H a.occ) (and_right none calm front);
            no_cancel = not-true (is_cancelled H a.occ) (ap not (sym (cancelled_row H a.occ)) ∙ (sym (none-some (cancel H a.occ)) ∙ last));
          },
      λ h.
          and_true (none && calm) free
          (and_true none calm ((none_row H a.occ).1 h.none_open) (not-false (has_trouble H a.occ) h.no_trouble))
          (none-some (cancel H a.occ) ∙ not-false (is_some (cancel H a.occ)) (cancelled_row H a.occ ∙ h.no_cancel)),
    )

stopped_row : (H : List Event) (a : Operation) → (has_stopped_row (row H a) ≡ true) ↔ HasStopped H a.occ
stopped_row H a =
    let same : (has_trouble H a.occ || is_some (cancel H a.occ)) ≡ (has_trouble H a.occ || is_cancelled H a.occ) =
    ap (λ (b : Bool). has_trouble H a.occ || b) (cancelled_row H a.occ) in (
      λ h. record { none_open = (none_row H a.occ).0 (and_left _ _ h); cause = sym same ∙ and_right (none_open (pendings H a.occ)) _ h },
      λ h. and_true _ _ ((none_row H a.occ).1 h.none_open) (same ∙ h.cause),
    )

gives_up_same : (H : List Event) (a : Operation) → gives_up_row (row H a) ≡ gives_up H a.occ
gives_up_same H a =
    ap (λ (f : Bool). f || (has_ended H a.occ && not (is_some (row H a).grant)) || (is_some (row H a).grant && is_some (cancel H a.occ)))
    (forced_row H a.occ)
    ∙ (ap (λ (g : Bool). is_forced H a.occ || (has_ended H a.occ && not g) || (g && is_some (cancel H a.occ))) (granted_row H a)
    ∙ ap (λ (c : Bool). is_forced H a.occ || (has_ended H a.occ && not (is_granted H a.occ)) || (is_granted H a.occ && c))
    (cancelled_row H a.occ))

by_same : (x y : Bool) → x ≡ y → (x ≡ true) ↔ (y ≡ true)
by_same x y e = (λ h. sym e ∙ h, λ h. e ∙ h)

both_of : {P : Type 0} → (x y z : Bool) → (x ≡ true) ↔ P → y ≡ z → ((x && y) ≡ true) ↔ P × (z ≡ true)
both_of x y z f e = (λ h. (f.0 (and_left x y h), sym e ∙ and_right x y h), λ h. and_true x y (f.1 h.0) (e ∙ h.1))

not_same : (b c : Bool) → b ≡ c → (not b ≡ true) ↔ (c ≡ false)
not_same b c e = (λ h. sym e ∙ not-true b h, λ h. not-false b (e ∙ h))

moves_same : (width m : ℕ) (H : List Event) (a : Operation) → IsLegalWithin width m H → operation H a.occ ≡ Some a → (from to : OpState)
    → (may_move_from from to (row H a) ≡ true) ↔ MayMove H a.occ from to
moves_same width m H a legal e Starting Processing = (
  λ h. (
    sym (granted_row H a) ∙ and_left _ _ h,
    not-true _ (ap not (sym (cancelled_row H a.occ))
        ∙ (sym (none-some (cancel H a.occ)) ∙ and_right (is_some (row H a).grant) _ h)),
  ),
  λ h. and_true _ _ (granted_row H a ∙ h.0) (none-some (cancel H a.occ) ∙ not-false _ (cancelled_row H a.occ ∙ h.1)),
)
moves_same width m H a legal e Starting RolledBack = by_same _ _ (gives_up_same H a)
moves_same width m H a legal e Processing Completed = both_of _ _ _ (quiet_row H a) (all_made width m H a legal e)
moves_same width m H a legal e RollingBack RolledBack = both_of _ _ _ (quiet_row H a) (all_undone width m H a legal e)
moves_same width m H a legal e Processing FailedTemp = stopped_row H a
moves_same width m H a legal e RollingBack FailedTemp = stopped_row H a
moves_same width m H a legal e FailedTemp RollingBack = not_same _ _ (sym (ap is_termination e))
moves_same width m H a legal e FailedTemp Processing = (λ h. tt, λ h. refl)
moves_same width m H a legal e FailedTemp Failed = (λ h. tt, λ h. refl)
moves_same width m H a legal e _ _ = (λ h. cc, λ h. absurd h)

pub move_there : (width m : ℕ) (H : List Event) (n : ℕ) (to : OpState) (r : OccRow) (answer : Bool) → IsLegalWithin width m H
    → occurrence H n ≡ Some r → answer ≡ may_move_from r.state to r
    → (answer ≡ true) ↔ (is_some (operation H n) ≡ true) × MayMove H n (state H n) to
move_there width m H n to r answer legal e is =
    let mine = found_row H n r e in
    let a : Operation = mine.0 in
    let here : operation H a.occ ≡ Some a = ap (λ (o : ℕ). operation H o) mine.2 ∙ mine.1 in
    let by = moves_same width m H a legal here (state H a.occ) to in
    let same : answer ≡ may_move_from (state H a.occ) to (row H a) = is ∙ ap (λ (x : OccRow). may_move_from x.state to x) (sym mine.3) in (
      λ h. (ap (λ (x : Option Operation). is_some x) mine.1, subst (λ (o : ℕ). MayMove H o (state H o) to) mine.2 (by.0 (sym same ∙ h))),
      λ h. same ∙ by.1 (subst (λ (o : ℕ). MayMove H o (state H o) to) (sym mine.2) h.1),
    )

pub move_none : (H : List Event) (n : ℕ) (to : OpState) → occurrence H n ≡ None
    → (false ≡ true) ↔ (is_some (operation H n) ≡ true) × MayMove H n (state H n) to
move_none H n to e =
    let none : operation H n ≡ None = none_of (row H) (operation H n) e in
    (λ h. cc, λ h. sym (ap (λ (x : Option Operation). is_some x) none) ∙ h.0)
