-- The next action takes the step of the cancel that is in force.
use Rattle.std.proofs.Common.{◌≡◌, ◌∷◌, ℕ, List, [], Bool, true, false, not, Option, None, Some, is_some, refl, subst, length, ◌&&◌, ◌||◌}
use Rattle.std.proofs.Common.{inl, inr, ◌⊎◌}
use Rattle.std.specs.List.{list_any}
use Rattle.std.specs.Prelude.{if◌then◌else◌, nat_lt, option_and_then, option_map}
use Rattle.lcm_events.specs.declared.attempts.Tag.{Tag}
use Rattle.lcm_events.specs.declared.events.Event.{Event}
use Rattle.lcm_events.specs.declared.events.GrantTry.TheVariants.{Later, NotCovering, Trouble}
use Rattle.lcm_events.specs.declared.events.Operation.{Operation}
use Rattle.lcm_events.specs.declared.states.CancelMode.{CancelMode}
use Rattle.lcm_events.specs.declared.states.CancelMode.TheVariants.{Forceful, Graceful}
use Rattle.lcm_events.specs.declared.states.OpState.{OpState}
use Rattle.lcm_events.specs.declared.states.OpState.TheVariants.{FailedTemp, Processing, RolledBack, RollingBack, Starting}
use Rattle.lcm_model.specs.declared.actions.Action.{Action}
use Rattle.lcm_model.specs.declared.actions.Action.TheVariants.{AbortAndLook, AskForGrant, Look, MoveTo, Poll}
use Rattle.lcm_model.specs.Grants.{Covering, GrantAnswer, Refused, Tried, answers, has_ended, is_covering, is_granted, is_last, location}
use Rattle.lcm_model.specs.Attempts.{open_of}
use Rattle.lcm_model.specs.Moves.{is_active, state}
use Rattle.lcm_model.specs.Next.{first_open, next_in, next_while_asking, only_when}
use Rattle.lcm_model.specs.Operations.{operation}
use Rattle.lcm_model.specs.Since.{has_trouble, is_cancelled, is_forced}
use Rattle.lcm_model.specs.Words.{first_some, when}
use Rattle.occurrence_graph.specs.Cancels.{CancelsAreTaken, Leaves, TakesStep, Waits}

-- a grant that covers the request ends the exchange
covering_ends : (xs : List GrantAnswer) (b : Bool) → list_any is_covering xs ≡ true → (list_any is_last xs || b) ≡ true
covering_ends [] b e = cc
covering_ends (Covering ∷ xs) b e = refl
covering_ends (Refused ∷ xs) b e = refl
covering_ends (Tried NotCovering ∷ xs) b e = refl
covering_ends (Tried (Later location) ∷ xs) b e = covering_ends xs b e
covering_ends (Tried Trouble ∷ xs) b e = covering_ends xs b e

abbrev asking : Bool → Bool → Bool → Bool → Bool → Option Action
asking forced ended granted cancelled located = first_some (
    when (forced || (ended && not granted) || (granted && cancelled)) (MoveTo RolledBack)
    ∷ when granted (MoveTo Processing)
    ∷ when located Poll
    ∷ Some AskForGrant ∷ [])

abbrev mode_of : Bool → CancelMode
mode_of forced = if forced then Forceful else Graceful

asking_leaves : (forced ended granted located : Bool) → Leaves Starting (mode_of forced) (not ended)
    → asking forced ended granted true located ≡ Some (MoveTo RolledBack)
asking_leaves true ended granted located step = refl
asking_leaves false true true located step = refl
asking_leaves false true false located step = refl
asking_leaves false false granted located (inl never) = cc
asking_leaves false false granted located (inr never) = absurd (let e = never.1 in cc)

asking_waits : (forced ended granted located : Bool) → (granted ≡ true → ended ≡ true) → Waits (mode_of forced) (not ended)
    → (asking forced ended granted true located ≡ Some Poll) ⊎ (asking forced ended granted true located ≡ Some AskForGrant)
asking_waits true ended granted located ends step = absurd (let e = step.1 in cc)
asking_waits false true granted located ends step = absurd (let e = step.0 in cc)
asking_waits false false true located ends step = absurd (let e = ends refl in cc)
asking_waits false false false true ends step = inl refl
asking_waits false false false false ends step = inr refl

abbrev working : Bool → Option Tag → Bool → Bool → Bool → Option Action → Action → Option Action
working forced opened trouble cancelled fewer begin end = first_some (
    only_when forced (option_map AbortAndLook opened)
    ∷ only_when (not (trouble || cancelled) && fewer) begin
    ∷ option_map Look opened
    ∷ when (trouble || cancelled) (MoveTo FailedTemp)
    ∷ Some end ∷ [])

working_leaves : (forced : Bool) (opened : Option Tag) (trouble fewer : Bool) (begin : Option Action) (end : Action)
    → is_some opened ≡ false
    → working forced opened trouble true fewer begin end ≡ Some (MoveTo FailedTemp)
working_leaves forced (Some t) trouble fewer begin end e = cc
working_leaves true None true fewer begin end e = refl
working_leaves true None false fewer begin end e = refl
working_leaves false None true fewer begin end e = refl
working_leaves false None false fewer begin end e = refl

working_halts : (forced : Bool) (opened : Option Tag) (trouble fewer : Bool) (begin : Option Action) (end : Action) → is_some opened ≡ true
    → mode_of forced ≡ Forceful
    → working forced opened trouble true fewer begin end ≡ option_map AbortAndLook opened
working_halts forced None trouble fewer begin end e is = cc
working_halts true (Some t) trouble fewer begin end e is = refl
working_halts false (Some t) trouble fewer begin end e is = cc

working_waits : (forced : Bool) (opened : Option Tag) (trouble fewer : Bool) (begin : Option Action) (end : Action) → is_some opened ≡ true
    → mode_of forced ≡ Graceful
    → working forced opened trouble true fewer begin end ≡ option_map Look opened
working_waits forced None trouble fewer begin end e is = cc
working_waits true (Some t) trouble fewer begin end e is = cc
working_waits false (Some t) true fewer begin end e is = refl
working_waits false (Some t) false fewer begin end e is = refl

not_starting : (at : OpState) (mode : CancelMode) (waiting : Bool) → ¬ (at ≡ Starting) → Leaves at mode waiting → waiting ≡ false
not_starting at mode waiting h (inl e) = e
not_starting at mode waiting h (inr e) = absurd (h (e.0))

takes_asking : (H : List Event) (o : ℕ) → is_cancelled H o ≡ true → TakesStep Starting H o (next_while_asking H o)
takes_asking H o e = record {
  leaves = λ step. rw e (asking_leaves (is_forced H o) (has_ended H o) (is_granted H o) (is_some (location H o)) step);
  halts = λ step. absurd (step.2 refl);
  waits = λ step. rw e (asking_waits (is_forced H o) (has_ended H o) (is_granted H o) (is_some (location H o))
      (covering_ends (answers H o) _) step);
}

takes_processing : (H : List Event) (o : ℕ) → is_cancelled H o ≡ true → TakesStep Processing H o (next_in Processing H o)
takes_processing H o e = record {
  leaves = λ step. rw e (working_leaves (is_forced H o) (first_open H o) (has_trouble H o) (nat_lt (length (open_of H o)) 4) _ _
      (not_starting Processing _ _ (λ never. cc) step));
  halts = λ step. rw e (working_halts (is_forced H o) (first_open H o) (has_trouble H o) (nat_lt (length (open_of H o)) 4) _ _ (step.0)
      (step.1));
  waits = λ step. rw e (working_waits (is_forced H o) (first_open H o) (has_trouble H o) (nat_lt (length (open_of H o)) 4) _ _ (step.0)
      (step.1));
}

takes_rolling_back : (H : List Event) (o : ℕ) → is_cancelled H o ≡ true → TakesStep RollingBack H o (next_in RollingBack H o)
takes_rolling_back H o e = record {
  leaves = λ step. rw e (working_leaves (is_forced H o) (first_open H o) (has_trouble H o) (nat_lt (length (open_of H o)) 4) _ _
      (not_starting RollingBack _ _ (λ never. cc) step));
  halts = λ step. rw e (working_halts (is_forced H o) (first_open H o) (has_trouble H o) (nat_lt (length (open_of H o)) 4) _ _ (step.0)
      (step.1));
  waits = λ step. rw e (working_waits (is_forced H o) (first_open H o) (has_trouble H o) (nat_lt (length (open_of H o)) 4) _ _ (step.0)
      (step.1));
}

takes_in : (at : OpState) (H : List Event) (o : ℕ) → is_active at ≡ true → is_cancelled H o ≡ true → TakesStep at H o (next_in at H o)
takes_in Starting H o active e = takes_asking H o e
takes_in Processing H o active e = takes_processing H o e
takes_in RollingBack H o active e = takes_rolling_back H o e
takes_in _ H o active e = absurd cc

found : (a : Option Operation) (next : Option Action) → is_some a ≡ true → next ≡ option_and_then (λ x. next) a
found None next e = cc
found (Some x) next e = refl

pub cancels_taken : CancelsAreTaken
cancels_taken H o asked active e =
    subst (λ next. TakesStep (state H o) H o next) (found (operation H o) (next_in (state H o) H o) asked)
    (takes_in (state H o) H o active e)
