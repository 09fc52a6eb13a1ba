-- Instantiation levels, and why they are refused (SOL 001, InstantiationLevels; limits and defaults: own rule).
use Rattle.std.specs.List.{position_from}
use Rattle.std.specs.Option.{option_map_or, option_or}
use Rattle.std.specs.Prelude.{ℕ, List, [], ◌∷◌, length, nat_le, if◌then◌else◌, is_some, map, find, Option, Some, None}
use Rattle.std.specs.Prelude.{option_and_then, option_map, unwrap_or, codes}
use Rattle.std.specs.Str.{bytes_eq}
use Rattle.lcm_events.specs.declared.descriptor.Level.{Level}
use Rattle.serde_json.specs.Data.{Data}
use Rattle.serde_json.specs.Find.{get, as_str}
use Rattle.vnfd_document.specs.declared.fault.VnfdFault.{VnfdFault}
use Rattle.vnfd_document.specs.declared.fault.VnfdFault.TheVariants.{Lacks, Wrong}
use Rattle.vnfd_document.specs.Checks.{first_fault, first_failing}
use Rattle.vnfd_document.specs.Json.{Named, at, whole, within}
use Rattle.vnfd_document.specs.Names.{name_or_empty, unknown}
use Rattle.vnfd_document.specs.Places.{of_type, property}
use Rattle.vnfd_policies.specs.Policies.{instantiation_levels, members_at, too_many, unknown_in}
use Rattle.vnfd_policies.specs.Aspects.{aspects, maximum}

-- the levels of a policy, in byte order of their names (SOL 001, InstantiationLevels, levels)
abbrev pub levels_in : Data → List Named
levels_in policy = members_at (property (codes "levels") policy)

-- why the levels are refused where there is none (SOL 001, InstantiationLevels, levels)
abbrev pub none_refusal : List Named → Option VnfdFault
none_refusal [] = Some (Lacks (codes "levels"))
none_refusal (l ∷ levels) = None

-- why a scale level is refused: it is no whole number up to this greatest level (SOL 001, InstantiationLevels,
-- scale_level)
abbrev pub number_refusal : ℕ → Data → Option VnfdFault
number_refusal most scale =
    if is_some (option_and_then (whole 0 most) (get (codes "scale_level") scale)) then None
    else Some (Wrong (codes "scale_level"))

-- why the scale level of an aspect is refused: there is no such aspect, or its number is refused
abbrev pub level_of_refusal : Named → Option Named → Option VnfdFault
level_of_refusal s None = Some (unknown s.0)
level_of_refusal s (Some a) = number_refusal (maximum a.1) s.1

abbrev pub scale_refusal : List Named → Named → Option VnfdFault
scale_refusal all s = level_of_refusal s (find (λ a. bytes_eq a.0 s.0) all)

-- why a level is refused: the first of its scale levels that is (SOL 001, InstantiationLevels, scale_info)
abbrev pub level_refusal : List Named → Data → Option VnfdFault
level_refusal all level = first_failing (scale_refusal all) (members_at (get (codes "scale_info") level))

-- why the default level is refused: it is no text, or names no level, or isn't there where there are several levels
abbrev pub default_text_refusal : List Named → Option (List ℕ) → Option VnfdFault
default_text_refusal levels None = Some (Wrong (codes "default_level"))
default_text_refusal levels (Some name) = unknown_in levels name

abbrev pub default_refusal : List Named → Option Data → Option VnfdFault
default_refusal levels None = if nat_le (length levels) 1 then None else Some (Lacks (codes "default_level"))
default_refusal levels (Some d) = default_text_refusal levels (as_str d)

-- why a policy with levels is refused: it has no level, or too many, or a level that is refused, or a default level
-- that is
abbrev pub policy_levels_refusal : List Named → Data → Option VnfdFault
policy_levels_refusal all policy =
    first_fault (none_refusal (levels_in policy) ∷ too_many 64 (codes "levels") (levels_in policy)
    ∷ first_failing (λ l. level_refusal all l.1) (levels_in policy)
    ∷ default_refusal (levels_in policy) (property (codes "default_level") policy) ∷ [])

-- why the policies with levels are refused: there are two, or the one is refused
abbrev pub policies_with_levels_refusal : List Named → List Named → Option VnfdFault
policies_with_levels_refusal all [] = None
policies_with_levels_refusal all (p ∷ []) = policy_levels_refusal all p.1
policies_with_levels_refusal all (p ∷ q ∷ more) = Some (Wrong (codes "levels"))

-- why the instantiation levels are refused
abbrev pub levels_refusal : List Named → Option VnfdFault
levels_refusal policies = policies_with_levels_refusal (aspects policies) (of_type instantiation_levels policies)

-- the scale level of an aspect at a level, a whole number up to its greatest level, and 0 where it gives none (default:
-- own rule)
abbrev pub number_at : Data → Named → ℕ
number_at level aspect = unwrap_or (option_and_then (whole 0 (maximum aspect.1))
    (at (codes "scale_info" ∷ aspect.0 ∷ codes "scale_level" ∷ []) level)) 0

-- a level, with the scale level of each aspect
abbrev pub level_of : List Named → Named → Level
level_of all l = record { name = name_or_empty l.0; numbers = map (number_at l.1) all }

-- the levels: those of the policy, and where there is none one level named `default` with every aspect at 0 (own rule)
abbrev pub levels_by : List Named → List Named → List Level
levels_by all [] = record { name = codes "default"; numbers = map (λ a. 0) all } ∷ []
levels_by all (p ∷ more) = map (level_of all) (levels_in p.1)

unfoldable pub levels_of : List Named → List Level
levels_of policies = levels_by (aspects policies) (of_type instantiation_levels policies)

-- the name of the first level, where there is one
abbrev pub first_name : List Named → List ℕ
first_name [] = []
first_name (l ∷ levels) = l.0

-- the name of the default level of a policy: the one that it names, else its first level's
abbrev pub default_name_in : Data → List ℕ
default_name_in policy = unwrap_or (option_and_then as_str (property (codes "default_level") policy))
    (first_name (levels_in policy))

-- the name of the default level, which is `default` where no policy has levels (own rule)
abbrev pub default_name_by : List Named → List ℕ
default_name_by [] = codes "default"
default_name_by (p ∷ more) = default_name_in p.1

abbrev pub default_name : List Named → List ℕ
default_name policies = default_name_by (of_type instantiation_levels policies)

-- the number of the default level among the levels, which is 0 where no policy has levels. A document that isn't
-- refused has at most 64 levels; of one that is, a number past 16 bits is 0 (own rule)
abbrev pub default_number : Data → ℕ
default_number policy = unwrap_or (option_and_then (within 0 65535)
    (position_from (λ l. bytes_eq l.0 (default_name_in policy)) 0 (levels_in policy))) 0

abbrev pub default_by : List Named → ℕ
default_by [] = 0
default_by (p ∷ more) = default_number p.1

unfoldable pub default_of : List Named → ℕ
default_of policies = default_by (of_type instantiation_levels policies)
