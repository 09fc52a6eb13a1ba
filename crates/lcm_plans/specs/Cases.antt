-- What the programs ask of a history, and how what refuses a plan is told of an ask (own rule).
use Rattle.std.specs.Prelude.{Bool, List, None, Option, Some, [], option_and_then, ℕ, ◌<◌, ◌∷◌, ◌≡◌}
use Rattle.lcm_events.specs.declared.asks.Ask.{Ask}
use Rattle.lcm_events.specs.declared.asks.Ask.TheVariants.{Scale}
use Rattle.lcm_events.specs.declared.descriptor.Vnfd.{Vnfd}
use Rattle.lcm_events.specs.declared.events.Event.{Event}
use Rattle.lcm_events.specs.declared.held.Holding.{Holding}
use Rattle.lcm_model.specs.Allowed.{IsLegalWithin}
use Rattle.lcm_model.specs.Holding.{top}
use Rattle.lcm_model.specs.Instances.{inventory_of}
use Rattle.lcm_model.specs.Levels.{aspect_at, target}
use Rattle.lcm_model.specs.Lives.{descriptor}
use Rattle.lcm_model.specs.Refusals.{Situation, state_refusal, step_refusal}
use Rattle.lcm_model.specs.Words.{first_some}
use Rattle.lcm_model.specs.declared.refusals.Refusal.{Refusal}
use Rattle.change_planner.specs.Planning.{refusal}
use Rattle.change_planner.specs.declared.refusals.PlanRefusal.{PlanRefusal}
use Rattle.change_planner.specs.declared.refusals.PlanRefusal.TheVariants.{AboveProfile, Memory, NothingToDo, TooMany}
use Rattle.change_planner.specs.declared.refusals.PlanRefusal.TheVariants.{UnknownVnfc}
use Rattle.lcm_model.specs.declared.refusals.Refusal.TheVariants as refusals

-- no serial of the instance is past the limit of a holding (own limit)
abbrev pub HasSmallSerials : List Event → ℕ → Type 0
HasSmallSerials H i = (v : ℕ) → top H i v < 2147483648

-- an ask of the instance can be judged: the history is a manager's legal one, the descriptor is the instance's, and no
-- serial is past the limit of a holding (own rule)
pub record CanBeAsked (d : Vnfd) (H : List Event) (i : ℕ) : Type 0 where
  pub width : ℕ
  pub manager : ℕ
  pub legal : IsLegalWithin width manager H
  pub described : descriptor H i ≡ Some d
  pub small : HasSmallSerials H i

-- why the steps of SCALE are refused from these levels; no other ask has steps (SOL 003 5.5.2.5)
abbrev pub scale_refusal : Vnfd → List ℕ → Ask → Option Refusal
scale_refusal d levels (Scale way aspect steps) = option_and_then (step_refusal way steps) (aspect_at d levels aspect)
scale_refusal d levels _ = None

-- how a plan's refusal is told of an ask; want of memory refuses nothing (own rule)
abbrev pub told_as : PlanRefusal → Option Refusal
told_as (UnknownVnfc place) = Some refusals.UnknownVnfc
told_as NothingToDo = Some refusals.NothingToDo
told_as (AboveProfile vdu) = Some refusals.AboveProfile
told_as (TooMany size) = Some refusals.TooManyResources
told_as Memory = None

-- why an ask is refused over what a holding says stands: by its steps, then as its plan is (own rule)
abbrev pub refusal_over : Vnfd → Holding → Ask → Option Refusal
refusal_over d h ask = first_some (scale_refusal d h.levels ask
    ∷ option_and_then told_as (refusal d h ask (target d h.levels ask)) ∷ [])

-- how an instance is, as its holding says; busy where an operation of it goes on (own rule)
abbrev pub situation_over : Holding → Bool → Situation
situation_over h busy = record {
  instantiated = h.instantiated;
  started = h.started;
  levels = h.levels;
  held = inventory_of h;
  busy = busy;
}

-- why an ask is refused over what a holding says stands: by the instance's state, by its steps, then as its plan is
-- (own rule)
abbrev pub standing_refusal : Vnfd → Holding → Bool → Ask → Option Refusal
standing_refusal d h busy ask = first_some (state_refusal d (situation_over h busy) ask ∷ refusal_over d h ask ∷ [])
