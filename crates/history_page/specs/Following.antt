-- What a page keeps of an event about an operation (own rule).
use Rattle.std.specs.Prelude.{ℕ, List, [], ◌∷◌, None, Option, Some}
use Rattle.lcm_events.specs.declared.attempts.Outcome.{Outcome}
use Rattle.lcm_events.specs.declared.attempts.Outcome.TheVariants as outcomes
use Rattle.lcm_events.specs.declared.events.EventKind.{EventKind}
use Rattle.lcm_events.specs.declared.events.EventKind.TheVariants.{Asked, CallFailed, CancelAsked, Denied, GrantTried}
use Rattle.lcm_events.specs.declared.events.EventKind.TheVariants.{Granted, Intent, Moved, Settled}
use Rattle.lcm_events.specs.declared.events.GrantTry.{GrantTry}
use Rattle.lcm_events.specs.declared.events.GrantTry.TheVariants as tries
use Rattle.lcm_events.specs.declared.states.OpState.{OpState}
use Rattle.lcm_events.specs.declared.states.OpState.TheVariants.{Starting}
use Rattle.history_page.specs.declared.stories.Fate.{Fate}
use Rattle.history_page.specs.declared.stories.Fate.TheVariants as fates
use Rattle.history_page.specs.declared.stories.Stage.{Stage}
use Rattle.history_page.specs.declared.stories.Stage.TheVariants as stages
use Rattle.history_page.specs.declared.stories.Step.{Step}

-- the number of the occurrence that an event is about
abbrev pub occurrence_of : EventKind → Option ℕ
occurrence_of (Asked operation) = Some operation.occ
occurrence_of (GrantTried occ answer) = Some occ
occurrence_of (Granted occ grant places spots) = Some occ
occurrence_of (Denied occ) = Some occ
occurrence_of (Intent tag) = Some tag.occ
occurrence_of (CallFailed tag) = Some tag.occ
occurrence_of (Settled tag outcome) = Some tag.occ
occurrence_of (Moved occ to) = Some occ
occurrence_of (CancelAsked occ mode) = Some occ
occurrence_of _ = None

-- how an attempt that ended so stands
abbrev pub fate_of : Outcome → Fate
fate_of (outcomes.Done resource) = fates.Done
fate_of (outcomes.Broken code) = fates.Broken code
fate_of outcomes.Aborted = fates.Aborted
fate_of outcomes.NotBegun = fates.NotBegun

-- what came of a grant request that led to no grant
abbrev pub stage_of_try : GrantTry → Stage
stage_of_try (tries.Later location) = stages.GrantLater
stage_of_try tries.Trouble = stages.GrantTrouble
stage_of_try tries.NotCovering = stages.GrantNotCovering

-- what an event says of its operation besides attempts
abbrev pub stage_of : EventKind → Option Stage
stage_of (Asked operation) = Some (stages.Moved Starting)
stage_of (GrantTried occ answer) = Some (stage_of_try answer)
stage_of (Granted occ grant places spots) = Some stages.Granted
stage_of (Denied occ) = Some stages.Denied
stage_of (CancelAsked occ mode) = Some (stages.CancelAsked mode)
stage_of (Moved occ to) = Some (stages.Moved to)
stage_of _ = None

-- the steps that it adds
abbrev pub steps_of : ℕ → ℕ → Option Stage → List Step
steps_of place moment None = []
steps_of place moment (Some stage) = record { place = place; moment = moment; stage = stage } ∷ []

-- the state that the operation is in after it
abbrev pub state_after : Option Stage → OpState → OpState
state_after (Some (stages.Moved to)) old = to
state_after _ old = old
