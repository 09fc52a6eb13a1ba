-- What the policies of a descriptor are refused for, and which of their names a descriptor keeps (SOL 001, policy
-- types).
use Rattle.std.specs.List.{flat_map}
use Rattle.std.specs.Prelude.{ℕ, List, [], ◌∷◌, ◌++◌, map, Option}
use Rattle.vnfd_document.specs.declared.fault.VnfdFault.{VnfdFault}
use Rattle.vnfd_document.specs.Checks.{first_fault}
use Rattle.vnfd_document.specs.Json.{Named}
use Rattle.vnfd_document.specs.Places.{of_type}
use Rattle.vnfd_policies.specs.Policies.{instantiation_levels, vdu_levels}
use Rattle.vnfd_policies.specs.Aspects.{aspects, aspects_refusal}
use Rattle.vnfd_policies.specs.Deltas.{all_deltas_refusal}
use Rattle.vnfd_policies.specs.Initial.{initials_refusal}
use Rattle.vnfd_policies.specs.Levels.{levels_in, levels_refusal}

-- the names of all aspects and of all levels, in the order of their policies
unfoldable pub policy_names : List Named → List (List ℕ)
policy_names policies =
    map (λ a. a.0) (aspects policies) ++ map (λ l. l.0) (flat_map (λ p. levels_in p.1)
    (of_type instantiation_levels policies))

-- why the policies are refused: the aspects, then what their steps add to the VDUs, then the initial deltas, then the
-- levels
unfoldable pub policies_refusal : List Named → List Named → Option VnfdFault
policies_refusal vdus policies =
    first_fault (aspects_refusal policies ∷ all_deltas_refusal vdus policies ∷ initials_refusal vdus policies
    ∷ levels_refusal policies ∷ [])

-- the policies that say how many instances of a VDU there are at each level (SOL 001, VduInstantiationLevels)
unfoldable pub level_policies : List Named → List Named
level_policies policies = of_type vdu_levels policies
