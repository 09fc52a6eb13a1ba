-- Whether the numbers that a descriptor states for its levels are those that its deltas lead to (SOL 001,
-- VduInstantiationLevels).
use Rattle.std.specs.Prelude.{ℕ, List, [], Bool, false, ◌==◌, if◌then◌else◌, Option, Some, None, option_and_then, codes}
use Rattle.std.specs.Option.{option_map_or}
use Rattle.serde_json.specs.Data.{Data}
use Rattle.serde_json.specs.Find.{get}
use Rattle.lcm_events.specs.declared.descriptor.Vnfd.{Vnfd}
use Rattle.lcm_model.specs.Levels.{count, level_of}
use Rattle.vnfd_document.specs.declared.fault.VnfdFault.{VnfdFault}
use Rattle.vnfd_document.specs.declared.fault.VnfdFault.TheVariants.{OutOfStep, Wrong}
use Rattle.vnfd_document.specs.Checks.{first_failing}
use Rattle.vnfd_document.specs.Json.{Named, members_of, whole}
use Rattle.vnfd_document.specs.Names.{is_name, name_or_empty, unknown}
use Rattle.vnfd_document.specs.Places.{property, targets}
use Rattle.vnfd_nodes.specs.Built.{place_of}

-- the number of instances that is stated (SOL 001, VduLevel, number_of_instances)
abbrev pub stated : Data → Option ℕ
stated d = option_and_then (whole 0 4294967295) (get (codes "number_of_instances") d)

-- a whole number is stated, and it is this one
abbrev pub is_stated : ℕ → Option ℕ → Bool
is_stated n None = false
is_stated n (Some m) = m == n

-- what is stated for a VDU, which has this place, at a level is the number that its deltas lead to
abbrev pub step_refusal : Vnfd → Named → List ℕ → List ℕ → Option ℕ → Option VnfdFault
step_refusal v level numbers target None = Some (unknown target)
step_refusal v level numbers target (Some place) =
    if is_stated (count v place numbers) (stated level.1) then None
    else Some (OutOfStep (name_or_empty level.0) (name_or_empty target))

-- it is so for the VDU of this name
abbrev pub target_refusal : Vnfd → List Named → Named → List ℕ → List ℕ → Option VnfdFault
target_refusal v vdus level numbers target = step_refusal v level numbers target (place_of 0 vdus target)

-- it is so for all targets of a policy
unfoldable pub targets_refusal : Vnfd → List Named → Named → List ℕ → Option (List (List ℕ)) → Option VnfdFault
targets_refusal v vdus level numbers None = Some (Wrong (codes "targets"))
targets_refusal v vdus level numbers (Some names) = first_failing (target_refusal v vdus level numbers) names

-- the levels of the instantiation level of this name
abbrev pub numbers_of : Vnfd → List ℕ → Option (List ℕ)
numbers_of v name = if is_name name then level_of v name else None

-- the level that a policy speaks of is known, and then it is so for all targets
abbrev pub level_refusal : Vnfd → List Named → Option (List (List ℕ)) → Named → Option (List ℕ) → Option VnfdFault
level_refusal v vdus names level None = Some (unknown level.0)
level_refusal v vdus names level (Some numbers) = targets_refusal v vdus level numbers names

-- it is so for all levels that a policy speaks of, in byte order of their names (SOL 001, VduInstantiationLevels,
-- levels)
unfoldable pub levels_refusal : Vnfd → List Named → Option (List (List ℕ)) → List Named → Option VnfdFault
levels_refusal v vdus names levels = first_failing (λ level. level_refusal v vdus names level (numbers_of v level.0))
    levels

abbrev pub policy_refusal : Vnfd → List Named → Data → Option VnfdFault
policy_refusal v vdus d = levels_refusal v vdus (targets d) (option_map_or members_of (property (codes "levels") d) [])

-- it is so for all of these policies
unfoldable pub steps_refusal : Vnfd → List Named → List Named → Option VnfdFault
steps_refusal v vdus policies = first_failing (λ p. policy_refusal v vdus p.1) policies
