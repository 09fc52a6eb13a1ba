-- Scaling aspects, and why they are refused (SOL 001, ScalingAspects; limits: own rule).
use Rattle.std.specs.List.{flat_map, list_all}
use Rattle.std.specs.Option.{option_map_or}
use Rattle.std.specs.Prelude.{ℕ, List, [], ◌∷◌, length, ◌==◌, ◌&&◌, ◌||◌, Bool, if◌then◌else◌, is_some, Option, Some}
use Rattle.std.specs.Prelude.{None, option_and_then, unwrap_or, codes}
use Rattle.serde_json.specs.Data.{Data, Items}
use Rattle.serde_json.specs.Find.{get, as_array, as_object, as_str}
use Rattle.vnfd_document.specs.declared.fault.VnfdFault.{VnfdFault}
use Rattle.vnfd_document.specs.declared.fault.VnfdFault.TheVariants.{Wrong}
use Rattle.vnfd_document.specs.Checks.{first_fault, first_failing}
use Rattle.vnfd_document.specs.Json.{Named, entries_of, items_in, whole}
use Rattle.vnfd_document.specs.Places.{of_type, property}
use Rattle.vnfd_policies.specs.Policies.{scaling_aspects, members_at, too_many}
use Rattle.vnfd_document.specs.Members.{needed}

-- the aspects, in byte order of their names (SOL 001, ScalingAspects, aspects)
abbrev pub aspects : List Named → List Named
aspects policies = flat_map (λ p. members_at (property (codes "aspects") p.1)) (of_type scaling_aspects policies)

-- an aspect's greatest level, which is a whole number to 1,000 (SOL 001, ScalingAspect, max_scale_level; own limit)
abbrev pub maximum : Data → ℕ
maximum aspect = unwrap_or (option_and_then (whole 0 1000) (get (codes "max_scale_level") aspect)) 0

-- the names of an aspect's steps; where its greatest level is 0 it has no steps (SOL 001, ScalingAspect, step_deltas)
abbrev pub steps : Data → List Data
steps aspect = if maximum aspect == 0 then [] else option_map_or entries_of (get (codes "step_deltas") aspect) []

-- these are the names of so many steps: a text for each, or one text for all of them
abbrev pub are_steps : ℕ → List Data → Bool
are_steps most names = list_all (λ d. is_some (as_str d)) names && ((length names == 1) || (length names == most))

-- the list that names so many steps, where the value is one
abbrev pub step_list : ℕ → Data → Option Items
step_list most d = option_and_then (λ items. if are_steps most (items_in items) then Some items else None) (as_array d)

-- why the policies with aspects are refused: there are two, or the aspects of the one are missing, or no object
abbrev pub form_refusal : List Named → Option VnfdFault
form_refusal [] = None
form_refusal (p ∷ []) = needed (codes "aspects") as_object (property (codes "aspects") p.1)
form_refusal (p ∷ q ∷ more) = Some (Wrong (codes "aspects"))

-- why an aspect's greatest level is refused
abbrev pub maximum_refusal : Named → Option VnfdFault
maximum_refusal a = needed (codes "max_scale_level") (whole 0 1000) (get (codes "max_scale_level") a.1)

-- why an aspect's steps are refused, which are passed over where its greatest level is 0
abbrev pub steps_refusal : Named → Option VnfdFault
steps_refusal a = if maximum a.1 == 0 then None else needed (codes "step_deltas") (step_list (maximum a.1))
    (get (codes "step_deltas") a.1)

-- why the aspects are refused: the form of the policy, then their number, then each one's greatest level, then each
-- one's steps
abbrev pub aspects_refusal : List Named → Option VnfdFault
aspects_refusal policies =
    first_fault (form_refusal (of_type scaling_aspects policies) ∷ too_many 16 (codes "aspects") (aspects policies)
    ∷ first_failing maximum_refusal (aspects policies) ∷ first_failing steps_refusal (aspects policies) ∷ [])
