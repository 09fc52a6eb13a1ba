-- Attempts are aborted only where some are open.
use Rattle.std.proofs.Common.{◌≡◌, ◌∙◌, Bool, true, false, List, [], ◌∷◌, Option, None, Some, ap, refl, sym, ℕ}
use Rattle.std.specs.Prelude.{is_some, option_and_then, option_map, ◌||◌}
use Rattle.lcm_events.specs.declared.attempts.Tag.{Tag}
use Rattle.lcm_events.specs.declared.attempts.Way.{Way}
use Rattle.lcm_events.specs.declared.attempts.Way.TheVariants.{Forward, Undo}
use Rattle.lcm_events.specs.declared.events.Event.{Event}
use Rattle.lcm_events.specs.declared.events.Operation.{Operation}
use Rattle.lcm_events.specs.declared.states.OpState.{OpState}
use Rattle.lcm_events.specs.declared.states.OpState.TheVariants.{FailedTemp, Processing, RolledBack, RollingBack, Starting}
use Rattle.lcm_model.specs.Attempts.{open_of}
use Rattle.lcm_model.specs.Grants.{is_granted, location}
use Rattle.lcm_model.specs.Moves.{state}
use Rattle.lcm_model.specs.Next.{begin_of, chosen, first_open, free, goes_on, next_action, next_at_work, next_in, only_when}
use Rattle.lcm_model.specs.Operations.{operation}
use Rattle.lcm_model.specs.Since.{has_trouble, is_cancelled, is_forced}
use Rattle.lcm_model.specs.Words.{first_some, last, when}
use Rattle.lcm_model.specs.Work.{gives_up}
use Rattle.lcm_model.specs.declared.actions.Action.{Action}
use Rattle.lcm_model.specs.declared.actions.Action.TheVariants.{AbortAndLook, Look, MoveTo, Poll}

-- the action, where there is one, aborts attempts
abbrev aborts : Option Action → Bool
aborts (Some (AbortAndLook t)) = true
aborts _ = false

line : (x : Option Action) (lines : List (Option Action)) → aborts x ≡ false → aborts (first_some lines) ≡ false
    → aborts (first_some (x ∷ lines)) ≡ false
line None lines this rest = rest
line (Some a) lines this rest = this

where_when : (b : Bool) (a : Action) → aborts (Some a) ≡ false → aborts (when b a) ≡ false
where_when true a is = is
where_when false a is = refl

begins : (b : Bool) (H : List Event) (o : ℕ) (w : Way) (x : Option ℕ) → aborts (only_when b (option_map (begin_of H o w) x)) ≡ false
begins true H o w None = refl
begins true H o w (Some c) = refl
begins false H o w x = refl

looks : (x : Option Tag) → aborts (option_map Look x) ≡ false
looks None = refl
looks (Some t) = refl

nothing_open : (b : Bool) → aborts (only_when b (option_map AbortAndLook None)) ≡ false
nothing_open true = refl
nothing_open false = refl

at_work : (H : List Event) (o : ℕ) (w : Way) → open_of H o ≡ [] → aborts (next_at_work H o w) ≡ false
at_work H o w none =
    let first : aborts (only_when (is_forced H o) (option_map AbortAndLook (first_open H o))) ≡ false =
    ap (λ (ts : List Tag). aborts (only_when (is_forced H o) (option_map AbortAndLook (last ts)))) none ∙ nothing_open (is_forced H o) in
    line (only_when (is_forced H o) (option_map AbortAndLook (first_open H o))) _ first
    (line (only_when (goes_on H o) (option_map (begin_of H o w) (chosen w (free H o w)))) _
    (begins (goes_on H o) H o w (chosen w (free H o w)))
    (line (option_map Look (first_open H o)) _ (looks (first_open H o))
    (line (when (has_trouble H o || is_cancelled H o) (MoveTo FailedTemp)) _
    (where_when (has_trouble H o || is_cancelled H o) (MoveTo FailedTemp) refl) refl)))

in_state : (H : List Event) (o : ℕ) (s : OpState) → open_of H o ≡ [] → aborts (next_in s H o) ≡ false
in_state H o Starting none =
    line (when (gives_up H o) (MoveTo RolledBack)) _ (where_when (gives_up H o) (MoveTo RolledBack) refl)
    (line (when (is_granted H o) (MoveTo Processing)) _ (where_when (is_granted H o) (MoveTo Processing) refl)
    (line (when (is_some (location H o)) Poll) _ (where_when (is_some (location H o)) Poll refl) refl))
in_state H o Processing none = at_work H o Forward none
in_state H o RollingBack none = at_work H o Undo none
in_state H o _ none = refl

of_one : (s : Option Action) (x : Option Operation) → aborts s ≡ false → aborts (option_and_then (λ a. s) x) ≡ false
of_one s None is = refl
of_one s (Some a) is = is

-- where no attempt is open none is aborted
pub aborts_some : (H : List Event) (o : ℕ) (t : Tag) → open_of H o ≡ [] → next_action H o ≡ Some (AbortAndLook t) → ⊥
aborts_some H o t none next =
    let never : aborts (next_action H o) ≡ false = of_one (next_in (state H o) H o) (operation H o) (in_state H o (state H o) none) in
    let is : true ≡ false = sym (ap aborts next) ∙ never in
    cc
