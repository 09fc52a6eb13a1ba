-- What the bodies of requests for operations of an instance say (SOL 003 5.5.2.5, 5.5.2.6, 5.5.2.8 to 5.5.2.10): the
-- first member that is missing or wrong, in the body's order, or what it says.
use Rattle.std.specs.Prelude.{[], ◌∷◌, Err, List, None, Ok, Option, Result, Some, codes, unwrap_or, ℕ}
use Rattle.lcm_events.specs.declared.asks.Aim.{Aim}
use Rattle.lcm_events.specs.declared.asks.Aim.TheVariants.{Aspects, Level}
use Rattle.lcm_events.specs.declared.asks.AspectLevel.{AspectLevel}
use Rattle.serde_json.specs.Data.{Data}
use Rattle.json_bodies.specs.Body.{and_then, document, line_in, member_of, name_in, needed, object_read, optional}
use Rattle.json_bodies.specs.Body.{optional_read, some_name_in}
use Rattle.json_bodies.specs.Forms.{list_in, objects_in, power_in, stop_in, way_in, whole_in}
use Rattle.json_bodies.specs.declared.body.BodyFault.{BodyFault}
use Rattle.json_bodies.specs.declared.body.BodyFault.TheVariants.{Lacks, Wrong}
use Rattle.json_bodies.specs.declared.healing.HealBody.{HealBody}
use Rattle.json_bodies.specs.declared.scaling.ScaleBody.{ScaleBody}
use Rattle.json_bodies.specs.declared.stopping.OperateBody.{OperateBody}
use Rattle.json_bodies.specs.declared.stopping.TerminateBody.{TerminateBody}

-- SCALE's; one step where no number is said (SOL 003 5.5.2.5, ScaleVnfRequest)
abbrev pub scale_in : Data → Result ScaleBody BodyFault
scale_in d =
    and_then (needed way_in (codes "type") d) (λ way.
    and_then (needed some_name_in (codes "aspectId") d) (λ aspect.
    and_then (optional whole_in (codes "numberOfSteps") d) (λ steps.
    Ok (record { way = way; aspect = aspect; steps = unwrap_or steps 1 }))))

abbrev pub scale_of : List ℕ → Result ScaleBody BodyFault
scale_of bytes = object_read scale_in (document bytes)

-- what each of some objects says by its own members, or the first fault of the first that has one (own rule)
abbrev pub each_read : {A : Type 0} → (Data → Result A BodyFault) → List Data → Result (List A) BodyFault
each_read object [] = Ok []
each_read object (d ∷ ds) = and_then (object d) (λ a. and_then (each_read object ds) (λ more. Ok (a ∷ more)))

-- what a list of objects says, or that the member of this name is none (own rule)
abbrev pub objects_read : {A : Type 0} → (Data → Result A BodyFault) → List ℕ → Option (List Data)
    → Result (List A) BodyFault
objects_read object name None = Err (Wrong name)
objects_read object name (Some ds) = each_read object ds

-- the level of an aspect (SOL 003 5.5.2.6, ScaleVnfToLevelRequest, scaleInfo)
abbrev pub aspect_level_in : Data → Result AspectLevel BodyFault
aspect_level_in d =
    and_then (needed some_name_in (codes "aspectId") d) (λ aspect.
    and_then (needed whole_in (codes "scaleLevel") d) (λ level.
    Ok (record { aspect = aspect; level = level })))

-- the levels of aspects that the value of this member says (SOL 003 5.5.2.6)
abbrev pub levels_in : List ℕ → Data → Result (List AspectLevel) BodyFault
levels_in name d = objects_read aspect_level_in name (objects_in d)

-- exactly one of the two: with neither the first is missing, with both the second is wrong (SOL 003 5.5.2.6)
abbrev pub one_aim : Option (List ℕ) → Option (List AspectLevel) → Result Aim BodyFault
one_aim (Some level) None = Ok (Level level)
one_aim None (Some levels) = Ok (Aspects levels)
one_aim None None = Err (Lacks (codes "instantiationLevelId"))
one_aim (Some level) (Some levels) = Err (Wrong (codes "scaleInfo"))

-- SCALE_TO_LEVEL's (SOL 003 5.5.2.6, ScaleVnfToLevelRequest)
abbrev pub scale_to_level_in : Data → Result Aim BodyFault
scale_to_level_in d =
    and_then (optional name_in (codes "instantiationLevelId") d) (λ level.
    and_then (optional_read levels_in (codes "scaleInfo") (member_of (codes "scaleInfo") d)) (λ levels.
    one_aim level levels))

abbrev pub scale_to_level_of : List ℕ → Result Aim BodyFault
scale_to_level_of bytes = object_read scale_to_level_in (document bytes)

-- HEAL's; no list names no machine (SOL 003 5.5.2.9, HealVnfRequest; SOL 002 for vnfcInstanceId; own limit)
abbrev pub heal_in : Data → Result HealBody BodyFault
heal_in d =
    and_then (optional line_in (codes "cause") d) (λ cause.
    and_then (optional (list_in 512 name_in) (codes "vnfcInstanceId") d) (λ named.
    Ok (record { cause = cause; named = unwrap_or named [] })))

abbrev pub heal_of : List ℕ → Result HealBody BodyFault
heal_of bytes = object_read heal_in (document bytes)

-- OPERATE's (SOL 003 5.5.2.10, OperateVnfRequest)
abbrev pub operate_in : Data → Result OperateBody BodyFault
operate_in d =
    and_then (needed power_in (codes "changeStateTo") d) (λ started.
    and_then (optional stop_in (codes "stopType") d) (λ stop.
    Ok (record { started = started; stop = stop })))

abbrev pub operate_of : List ℕ → Result OperateBody BodyFault
operate_of bytes = object_read operate_in (document bytes)

-- TERMINATE's (SOL 003 5.5.2.8, TerminateVnfRequest)
abbrev pub terminate_in : Data → Result TerminateBody BodyFault
terminate_in d =
    and_then (needed stop_in (codes "terminationType") d) (λ mode.
    and_then (optional whole_in (codes "gracefulTerminationTimeout") d) (λ timeout.
    Ok (record { mode = mode; timeout = timeout })))

abbrev pub terminate_of : List ℕ → Result TerminateBody BodyFault
terminate_of bytes = object_read terminate_in (document bytes)
