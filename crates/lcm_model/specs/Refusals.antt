-- When an operation, a task or a deletion is refused, and why first (SOL 003 5.4.3 to 5.4.17; the texts and their order
-- are an own rule).
use Rattle.std.specs.Cmp.Lexicographic.{pointwise}
use Rattle.std.specs.List.{enumerate_from, list_any}
use Rattle.std.specs.Option.{option_map_or}
use Rattle.std.specs.Prelude.{Bool, List, None, Option, Some, [], false, filter, find, is_some, length, nat_lt, not}
use Rattle.std.specs.Prelude.{option_and_then, true, ℕ, ◌&&◌, ◌+◌, ◌==◌, ◌||◌, ◌∷◌}
use Rattle.lcm_events.specs.Same.{same_name, same_state, same_verb}
use Rattle.lcm_events.specs.declared.asks.Aim.{Aim}
use Rattle.lcm_events.specs.declared.asks.Ask.{Ask}
use Rattle.lcm_events.specs.declared.asks.Ask.TheVariants.{Heal, Instantiate, Operate, Scale, ScaleToLevel, Terminate}
use Rattle.lcm_events.specs.declared.asks.AspectLevel.{AspectLevel}
use Rattle.lcm_events.specs.declared.asks.OpKind.{OpKind}
use Rattle.lcm_events.specs.declared.asks.ScaleWay.{ScaleWay}
use Rattle.lcm_events.specs.declared.changes.Change.{Change}
use Rattle.lcm_events.specs.declared.changes.Verb.TheVariants.{Create}
use Rattle.lcm_events.specs.declared.descriptor.Aspect.{Aspect}
use Rattle.lcm_events.specs.declared.descriptor.Vnfd.{Vnfd}
use Rattle.lcm_events.specs.declared.events.Event.{Event}
use Rattle.lcm_events.specs.declared.states.OpState.{OpState}
use Rattle.lcm_events.specs.declared.states.OpState.TheVariants.{FailedTemp}
use Rattle.lcm_events.specs.declared.states.Task.{Task}
use Rattle.lcm_events.specs.declared.states.Task.TheVariants.{Cancel, Rollback}
use Rattle.lcm_model.specs.declared.refusals.Refusal.{Refusal}
use Rattle.lcm_model.specs.declared.refusals.TaskRefusal.{TaskRefusal}
use Rattle.lcm_model.specs.declared.refusals.TaskRefusal.TheVariants.{NotSupported, WrongState}
use Rattle.lcm_model.specs.Words.{first, first_some, same_bool, when}
use Rattle.lcm_model.specs.Moves.{is_active, state}
use Rattle.lcm_model.specs.Operations.{ongoing}
use Rattle.lcm_model.specs.Levels.{aimed, aspect_at, count, level_of, target}
use Rattle.lcm_model.specs.Vnfcs.{Inventory, is_in_step, is_there}
use Rattle.lcm_model.specs.Instances.{defs_up_to, inventory, is_instantiated, is_started, levels}
use Rattle.lcm_model.specs.Plans.{Case, plan, started}
use Rattle.lcm_events.specs.declared.asks.Aim.TheVariants as aims
use Rattle.lcm_events.specs.declared.asks.OpKind.TheVariants as kinds
use Rattle.lcm_events.specs.declared.asks.ScaleWay.TheVariants.{Out, In}
use Rattle.lcm_model.specs.declared.refusals.Refusal.TheVariants as refusals

-- how an instance is, as a refusal asks it (own rule)
pub record Situation : Type 0 where
  pub instantiated : Bool
  pub started : Bool
  pub levels : List ℕ
  pub held : Inventory
  pub busy : Bool

-- how an instance is after a history (own rule)
abbrev pub situation : Vnfd → List Event → ℕ → Situation
situation d H i = record {
  instantiated = is_instantiated H i;
  started = is_started H i;
  levels = levels d H i;
  held = inventory H i;
  busy = is_some (first (ongoing H i));
}

-- the level is the descriptor's, or none is named (SOL 003 5.5.2.4)
abbrev pub is_known_level : Vnfd → Option (List ℕ) → Bool
is_known_level d None = true
is_known_level d (Some name) = is_some (level_of d name)

-- the aspect of this name (SOL 001, ScalingAspects)
abbrev pub aspect_named : Vnfd → List ℕ → Option Aspect
aspect_named d name = find (λ a. same_name a.name name) d.aspects

-- the aspect is the descriptor's (SOL 001, ScalingAspects)
abbrev pub has_aspect : Vnfd → List ℕ → Bool
has_aspect d name = is_some (aspect_named d name)

-- an aspect is named twice (own rule)
abbrev pub names_twice : List AspectLevel → Bool
names_twice [] = false
names_twice (x ∷ named) = list_any (λ y. same_name y.aspect x.aspect) named || names_twice named

-- the level is above its aspect's maximum (SOL 001, ScalingAspects)
abbrev pub is_above : Vnfd → AspectLevel → Bool
is_above d x = option_map_or (λ a. nat_lt a.maximum x.level) (aspect_named d x.aspect) false

-- why the aim of SCALE_TO_LEVEL is refused by itself (SOL 003 5.5.2.6)
abbrev pub aim_refusal : Vnfd → Aim → Option Refusal
aim_refusal d (aims.Level name) = when (not (is_some (level_of d name))) refusals.UnknownLevel
aim_refusal d (aims.Aspects named) = first_some (
    when (list_any (λ x. not (has_aspect d x.aspect)) named) refusals.UnknownAspect
    ∷ when (names_twice named) refusals.AspectTwice
    ∷ when (list_any (is_above d) named) refusals.LevelAboveMaximum ∷ [])

-- why an ask is refused against the descriptor or by itself (SOL 003 5.5.2.4 to 5.5.2.10)
abbrev pub content_refusal : Vnfd → Ask → Option Refusal
content_refusal d (Instantiate flavour level) = first_some (
    when (not (same_name flavour d.flavour_id)) refusals.UnknownFlavour
    ∷ when (not (is_known_level d level)) refusals.UnknownLevel ∷ [])
content_refusal d (Scale way aspect steps) = first_some (
    when (not (has_aspect d aspect)) refusals.UnknownAspect
    ∷ when (steps == 0) refusals.NoSteps ∷ [])
content_refusal d (ScaleToLevel aim) = aim_refusal d aim
content_refusal d _ = None

-- the operation needs an instance in step (own rule)
abbrev pub needs_step : Ask → Bool
needs_step (Scale way aspect steps) = true
needs_step (ScaleToLevel aim) = true
needs_step (Operate started stop) = true
needs_step _ = false

-- the operation needs an instance that is STARTED (own rule)
abbrev pub needs_started : Ask → Bool
needs_started (Scale way aspect steps) = true
needs_started (ScaleToLevel aim) = true
needs_started _ = false

-- why the instantiation state refuses an ask (SOL 003 5.4.4 to 5.4.10)
abbrev pub instantiation_refusal : Ask → Bool → Option Refusal
instantiation_refusal (Instantiate flavour level) instantiated = when instantiated refusals.Instantiated
instantiation_refusal _ instantiated = when (not instantiated) refusals.NotInstantiated

-- why an instance's state refuses an ask (SOL 003 5.4.4 to 5.4.10; "in step" is an own rule)
abbrev pub state_refusal : Vnfd → Situation → Ask → Option Refusal
state_refusal d now ask = first_some (
    instantiation_refusal ask now.instantiated
    ∷ when now.busy refusals.Ongoing
    ∷ when (needs_step ask && not (is_in_step d now.held now.levels now.started)) refusals.OutOfStep
    ∷ when (needs_started ask && not now.started) refusals.Stopped ∷ [])

-- why steps in this way from an aspect's level are refused (SOL 003 5.5.2.5)
abbrev pub step_refusal : ScaleWay → ℕ → Aspect × ℕ → Option Refusal
step_refusal In steps a = when (nat_lt a.1 steps) refusals.BelowZero
step_refusal Out steps a = when (nat_lt a.0.maximum (a.1 + steps)) refusals.AboveMaximum

-- why what an ask names is refused against what stands (SOL 003 5.5.2.5, 5.5.2.9)
abbrev pub naming_refusal : Vnfd → Situation → Ask → Option Refusal
naming_refusal d now (Scale way aspect steps) = option_and_then (step_refusal way steps) (aspect_at d now.levels aspect)
naming_refusal d now (Heal cause named) = when (list_any (λ x. not (is_there d now.held x.vdu x.serial)) named)
    refusals.UnknownVnfc
naming_refusal d now _ = None

-- an ask aims at what is already so (own rule)
abbrev pub has_nothing_to_do : Vnfd → Situation → Ask → Bool
has_nothing_to_do d now (ScaleToLevel aim) = pointwise ◌==◌ (aimed d now.levels aim) now.levels
has_nothing_to_do d now (Operate started stop) = same_bool started now.started
has_nothing_to_do d now _ = false

-- the ask is TERMINATE (SOL 003 5.4.8)
abbrev pub is_terminate : Ask → Bool
is_terminate (Terminate mode timeout) = true
is_terminate _ = false

-- some VDU would have more machines than its maximum (SOL 001, vdu_profile)
abbrev pub is_above_profile : Vnfd → List ℕ → Bool
is_above_profile d to = list_any (λ x. nat_lt x.1.maximum (count d x.0 to)) (enumerate_from 0 d.vdus)

-- how many definitions of the instance stand (own rule)
abbrev pub standing : Vnfd → Inventory → ℕ
standing d held = length (filter held.stands (defs_up_to d held.top))

-- how many definitions the changes create (own rule)
abbrev pub created : List Change → ℕ
created xs = length (filter (λ c. same_verb c.verb Create) xs)

-- what is created and what stands is more than an instance may have (own limit)
abbrev pub is_too_large : Vnfd → Inventory → List Change → Bool
is_too_large d held xs = nat_lt 0 (created xs) && nat_lt 2500 (standing d held + created xs)

-- what the plan of an ask is made for (own rule)
abbrev pub case_in : Vnfd → Situation → Ask → Case
case_in d now ask = record { vnfd = d; held = now.held; ask = ask; to = target d now.levels ask }

-- why an ask is refused against what stands and what is planned (SOL 003 5.4.4 to 5.4.10; the limits are own rules)
abbrev pub plan_refusal : Vnfd → Situation → Ask → Option Refusal
plan_refusal d now ask = first_some (
    naming_refusal d now ask
    ∷ when (has_nothing_to_do d now ask) refusals.NothingToDo
    ∷ when (not (is_terminate ask) && is_above_profile d (target d now.levels ask)) refusals.AboveProfile
    ∷ when (is_too_large d now.held (plan (case_in d now ask))) refusals.TooManyResources ∷ [])

-- why an ask is refused: by its content, by the instance's state, by what stands and is planned, in this order (own
-- rule)
abbrev pub ask_refusal : Vnfd → Situation → Ask → Option Refusal
ask_refusal d now ask = first_some (content_refusal d ask ∷ state_refusal d now ask ∷ plan_refusal d now ask ∷ [])

-- why the deletion of an instance is refused (SOL 003 5.4.3)
abbrev pub delete_refusal : List Event → ℕ → Option Refusal
delete_refusal H i = first_some (when (is_instantiated H i) refusals.Instantiated
    ∷ when (is_some (first (ongoing H i))) refusals.Ongoing ∷ [])

-- the state in which a task may be asked (SOL 003 5.4.14 to 5.4.17)
abbrev pub serves : Task → OpState → Bool
serves Cancel state = is_active state
serves _ state = same_state state FailedTemp

-- the operation has the task: TERMINATE isn't rolled back (own rule)
abbrev pub has_task : OpKind → Task → Bool
has_task kinds.Terminate Rollback = false
has_task _ _ = true

-- why a task on an occurrence is refused (SOL 003 5.4.14 to 5.4.17)
abbrev pub task_refusal : OpKind → OpState → Task → Option TaskRefusal
task_refusal kind state task = first_some (when (not (has_task kind task)) NotSupported
    ∷ when (not (serves task state)) (WrongState state) ∷ [])
