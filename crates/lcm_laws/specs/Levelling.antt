-- The levels of an instance are those that an operation aimed at (SOL 003 5.5.2.2, scaleStatus).
use Rattle.std.specs.Prelude.{List, None, Option, Some, if◌then◌else◌, is_some, option_and_then, ℕ, ◌&&◌, ◌++◌, ◌==◌}
use Rattle.std.specs.Prelude.{◌∷◌, ◌≡◌}
use Rattle.lcm_events.specs.declared.descriptor.Vnfd.{Vnfd}
use Rattle.lcm_events.specs.declared.events.Event.{Event}
use Rattle.lcm_events.specs.declared.events.EventKind.{EventKind}
use Rattle.lcm_events.specs.declared.events.EventKind.TheVariants.{Asked, Moved}
use Rattle.lcm_events.specs.declared.events.Operation.{Operation}
use Rattle.lcm_model.specs.Allowed.{IsLegalWithin}
use Rattle.lcm_model.specs.Instances.{levels, sets_levels}
use Rattle.lcm_model.specs.Levels.{no_levels, target}
use Rattle.lcm_model.specs.Operations.{operation}
use Rattle.lcm_model.specs.Words.{first, told}

-- the operation of the instance that an event moves to where it sets the levels: INSTANTIATE to COMPLETED or FAILED, a
-- scaling to COMPLETED (SOL 003 5.4.4 to 5.4.6)
abbrev pub setting_in : ℕ → List Event → EventKind → Option Operation
setting_in i H (Moved o to) = option_and_then (λ a. if (a.instance == i) && is_some (sets_levels a.ask to) then Some a
    else None) (operation H o)
setting_in i H _ = None

-- the operation that set the levels of the instance last (SOL 003 5.4.4 to 5.4.6)
abbrev pub last_setting : List Event → ℕ → Option Operation
last_setting H i = first (told (setting_in i) H)

-- the levels are those that the operation aimed at, from the levels that were when it was asked for (SOL 001, scaling
-- policies)
pub record AreTargetsOf (d : Vnfd) (H : List Event) (i : ℕ) (a : Operation) : Type 0 where
  pub earlier : List Event
  pub later : List Event
  pub time : ℕ
  pub asked : H ≡ later ++ record { moment = time; kind = Asked a } ∷ earlier
  pub levels : levels d H i ≡ target d (levels d earlier i) a.ask

-- what the levels of the instance are, where an operation has set them and where none has (SOL 003 5.5.2.2,
-- scaleStatus)
abbrev pub LevelsBy : Vnfd → List Event → ℕ → Option Operation → Type 0
LevelsBy d H i None = levels d H i ≡ no_levels d
LevelsBy d H i (Some a) = AreTargetsOf d H i a

-- in a legal history the levels of an instance are the target of the operation that set them last, and 0 where none has
-- (SOL 003 5.5.2.2)
abbrev pub LevelsAreTargets : Type 0
LevelsAreTargets = (width m : ℕ) (H : List Event) → IsLegalWithin width m H → (i : ℕ) (d : Vnfd)
    → LevelsBy d H i (last_setting H i)
