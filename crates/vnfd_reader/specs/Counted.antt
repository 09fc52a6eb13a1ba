-- What a policy states is compared with what was found once: the number of instances of each VDU at each level, and the
-- VDU that each target names (SOL 001, VduInstantiationLevels).
use Rattle.std.specs.Prelude.{ℕ, List, if◌then◌else◌, map, find, slice_get, Option, Some, None, option_map, unwrap_or}
use Rattle.std.specs.Prelude.{codes}
use Rattle.std.specs.List.{enumerate_from}
use Rattle.lcm_events.specs.Same.{same_name}
use Rattle.lcm_events.specs.declared.descriptor.Vnfd.{Vnfd}
use Rattle.lcm_model.specs.Levels.{count}
use Rattle.vnfd_document.specs.declared.fault.VnfdFault.{VnfdFault}
use Rattle.vnfd_document.specs.declared.fault.VnfdFault.TheVariants.{OutOfStep, Wrong}
use Rattle.vnfd_document.specs.Checks.{first_failing}
use Rattle.vnfd_document.specs.Json.{Named}
use Rattle.vnfd_document.specs.Names.{is_name, name_or_empty, unknown}
use Rattle.vnfd_nodes.specs.Built.{place_of}
use Rattle.vnfd_reader.specs.Steps.{is_stated, stated}

-- the number of instances of each of these VDUs at these levels
abbrev pub counts_at : Vnfd → List Named → List ℕ → List ℕ
counts_at v vdus numbers = map (λ x. count v x.0 numbers) (enumerate_from 0 vdus)

-- each level by name, with the number of instances of each VDU there
abbrev pub counted : Vnfd → List Named → List (List ℕ × List ℕ)
counted v vdus = map (λ l. (l.name, counts_at v vdus l.numbers)) v.levels

-- the numbers of instances at the level of this name
abbrev pub counts_of : List (List ℕ × List ℕ) → List ℕ → Option (List ℕ)
counts_of table name = if is_name name then option_map (λ x. x.1) (find (λ x. same_name x.0 name) table) else None

-- a target, with the place of the VDU that it names
abbrev pub aim_at : List Named → List ℕ → List ℕ × Option ℕ
aim_at vdus target = (target, place_of 0 vdus target)

-- what is stated for a target at a level of this name is the number of instances of its VDU there
abbrev pub place_refusal : List ℕ → Option ℕ → List ℕ → List ℕ → Option ℕ → Option VnfdFault
place_refusal counts number level target None = Some (unknown target)
place_refusal counts number level target (Some place) =
    if is_stated (unwrap_or (slice_get counts place) 0) number then None
    else Some (OutOfStep (name_or_empty level) (name_or_empty target))

abbrev pub aim_refusal : List ℕ → Option ℕ → List ℕ → List ℕ × Option ℕ → Option VnfdFault
aim_refusal counts number level aim = place_refusal counts number level aim.0 aim.1

-- it is so for all targets of a policy
abbrev pub aims_refusal : List ℕ → Option ℕ → List ℕ → Option (List (List ℕ × Option ℕ)) → Option VnfdFault
aims_refusal counts number level None = Some (Wrong (codes "targets"))
aims_refusal counts number level (Some aims) = first_failing (aim_refusal counts number level) aims

-- the level that a policy speaks of is known, and then it is so for all targets
abbrev pub at_level_refusal : Option (List (List ℕ × Option ℕ)) → Named → Option (List ℕ) → Option VnfdFault
at_level_refusal aims level None = Some (unknown level.0)
at_level_refusal aims level (Some counts) = aims_refusal counts (stated level.1) level.0 aims

-- it is so for all levels that a policy speaks of
abbrev pub at_levels_refusal : List (List ℕ × List ℕ) → Option (List (List ℕ × Option ℕ)) → List Named
    → Option VnfdFault
at_levels_refusal table aims levels = first_failing (λ level. at_level_refusal aims level (counts_of table level.0))
    levels
