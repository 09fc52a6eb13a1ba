-- How many instances of a VDU there are at first, and why that is refused (SOL 001, VduInitialDelta; limits and
-- defaults: own rule).
use Rattle.std.specs.List.{flat_map, list_any}
use Rattle.std.specs.Option.{option_map_or, option_or}
use Rattle.std.specs.Prelude.{ℕ, List, [], ◌∷◌, ◌&&◌, not, Bool, if◌then◌else◌, is_some, find, Option, Some, None}
use Rattle.std.specs.Prelude.{option_and_then, option_map, unwrap_or, codes}
use Rattle.std.specs.Str.{bytes_eq}
use Rattle.serde_json.specs.Data.{Data}
use Rattle.serde_json.specs.Find.{get}
use Rattle.vnfd_document.specs.declared.fault.VnfdFault.{VnfdFault}
use Rattle.vnfd_document.specs.declared.fault.VnfdFault.TheVariants.{Lacks, Wrong}
use Rattle.vnfd_document.specs.Checks.{first_fault, first_failing}
use Rattle.vnfd_document.specs.Json.{Named, at, whole}
use Rattle.vnfd_document.specs.Members.{needed}
use Rattle.vnfd_document.specs.Places.{of_type, property, targets}
use Rattle.vnfd_policies.specs.Policies.{aspect_deltas, initial_delta, vdu_levels, aims_at, targets_refusal}
use Rattle.vnfd_policies.specs.Policies.{with_earlier}
use Rattle.vnfd_policies.specs.Levels.{default_name}

-- the instances in the value, a whole number to 65,535 (SOL 001, VduLevel, number_of_instances; own limit)
abbrev pub instances : Data → Option ℕ
instances d = option_and_then (whole 0 65535) (get (codes "number_of_instances") d)

-- what the policies aim at, in order
abbrev pub all_targets : List Named → List (List ℕ)
all_targets policies = flat_map (λ p. unwrap_or (targets p.1) []) policies

-- a target of a policy stands before it, among those of earlier policies or its own
abbrev pub is_target_twice : List (List ℕ) → List (List ℕ) → Bool
is_target_twice earlier names = list_any (λ t. list_any (bytes_eq t.1) t.0) (with_earlier earlier names)

-- why a policy is refused that aims at a VDU for the second time
abbrev pub again_refusal : List (List ℕ) → List (List ℕ) → Option VnfdFault
again_refusal earlier names = if is_target_twice earlier names then Some (Wrong (codes "initial_delta")) else None

-- why a policy with an initial delta is refused, where these policies stand before it: its targets, then a VDU that is
-- a target for the second time, then its number
abbrev pub initial_refusal : List Named → List Named × Named → Option VnfdFault
initial_refusal vdus p =
    first_fault (targets_refusal vdus (targets p.1.1) ∷ again_refusal (all_targets p.0) (unwrap_or (targets p.1.1) [])
    ∷ needed (codes "initial_delta") instances (property (codes "initial_delta") p.1.1) ∷ [])

-- one of the policies aims at the VDU
abbrev pub is_aimed_at : List Named → List ℕ → Bool
is_aimed_at policies vdu = list_any (λ p. aims_at vdu p.1) policies

-- why a VDU is refused: it has deltas of an aspect, and no initial delta
abbrev pub missing_refusal : List Named → List Named → Named → Option VnfdFault
missing_refusal deltas initials vdu =
    if is_aimed_at deltas vdu.0 && not (is_aimed_at initials vdu.0) then Some (Lacks (codes "initial_delta")) else None

-- why some policies with an initial delta are refused, where these stand before them: the first of them that is
abbrev pub initials_refusal_after : List Named → List Named → List Named → Option VnfdFault
initials_refusal_after vdus earlier policies = first_failing (initial_refusal vdus) (with_earlier earlier policies)

-- why the initial deltas are refused: the first policy that is, then a VDU that lacks one
abbrev pub initials_refusal : List Named → List Named → Option VnfdFault
initials_refusal vdus policies =
    first_fault (initials_refusal_after vdus [] (of_type initial_delta policies)
    ∷ first_failing (missing_refusal (of_type aspect_deltas policies) (of_type initial_delta policies)) vdus ∷ [])

-- the instances that a policy gives the VDU at the level of this name (SOL 001, VduInstantiationLevels)
abbrev pub given_at : List ℕ → List ℕ → Data → Option ℕ
given_at level vdu policy =
    if aims_at vdu policy then option_and_then instances (at (codes "properties" ∷ codes "levels" ∷ level ∷ []) policy)
    else None

-- what the first of the policies that gives the VDU a number at this level gives it
abbrev pub first_given : List ℕ → List ℕ → List Named → Option ℕ
first_given level vdu [] = None
first_given level vdu (p ∷ policies) = option_or (given_at level vdu p.1) (first_given level vdu policies)

-- the initial delta of the policy that aims at the VDU
abbrev pub delta_of : List ℕ → List Named → Option ℕ
delta_of vdu policies = option_map (λ p. unwrap_or (option_and_then instances (property (codes "initial_delta") p.1)) 0)
    (find (λ p. aims_at vdu p.1) policies)

-- the instances of the VDU at first: its initial delta, else what it is given at the default level, else 1 (SOL 001,
-- VduInitialDelta; defaults: own rule)
unfoldable pub initial_of : List Named → List ℕ → ℕ
initial_of policies vdu =
    unwrap_or (option_or (delta_of vdu (of_type initial_delta policies))
    (first_given (default_name policies) vdu (of_type vdu_levels policies))) 1
