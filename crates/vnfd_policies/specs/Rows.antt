-- The aspects of a descriptor, with a row of deltas for each VDU that has some (SOL 001, ScalingAspects,
-- VduScalingAspectDeltas).
use Rattle.std.specs.List.{enumerate_from, filter_map}
use Rattle.std.specs.Prelude.{ℕ, List, length, ◌==◌, if◌then◌else◌, map, filter, find, Option, option_and_then}
use Rattle.std.specs.Prelude.{option_map, unwrap_or, codes}
use Rattle.std.specs.Str.{bytes_eq}
use Rattle.lcm_events.specs.declared.descriptor.Aspect.{Aspect}
use Rattle.lcm_events.specs.declared.descriptor.Row.{Row}
use Rattle.serde_json.specs.Data.{Data}
use Rattle.vnfd_document.specs.Json.{Named}
use Rattle.vnfd_document.specs.Names.{name_or_empty}
use Rattle.vnfd_document.specs.Places.{of_type, property}
use Rattle.vnfd_policies.specs.Policies.{aspect_deltas, aims_at}
use Rattle.vnfd_policies.specs.Aspects.{aspects, maximum, steps}
use Rattle.vnfd_policies.specs.Deltas.{aspect_name, step_delta}

-- what a step adds by these deltas, and 0 where they are absent or have none for it
abbrev pub delta_in : Option Data → Data → ℕ
delta_in deltas step = unwrap_or (option_and_then (λ d. step_delta d step) deltas) 0

-- what each of these steps adds by the deltas of a policy
abbrev pub deltas_by : Data → List Data → List ℕ
deltas_by policy names = map (delta_in (property (codes "deltas") policy)) names

-- the row of the VDU of this number and name: that of the policy that aims at it
abbrev pub row_of : Data → List Named → ℕ → List ℕ → Option Row
row_of aspect policies number vdu =
    option_map (λ p. record { vdu = number; deltas = deltas_by p.1 (steps aspect) })
    (find (λ p. aims_at vdu p.1) policies)

-- the rows of an aspect in order of VDU, by the policies that are for it
abbrev pub rows_of : List Named → List Named → Data → List Row
rows_of vdus policies aspect = filter_map (λ v. row_of aspect policies v.0 v.1.0) (enumerate_from 0 vdus)

-- the policies that are for the aspect of this name
abbrev pub policies_for : List ℕ → List Named → List Named
policies_for name policies = filter (λ p. bytes_eq (aspect_name p.1) name) policies

-- how many deltas each row of an aspect has: none where its greatest level is 0, one for all its steps, or one for each
abbrev pub step_count : Data → ℕ
step_count aspect = if length (steps aspect) == 1 then 1 else maximum aspect

-- an aspect with its rows
abbrev pub aspect_of : List Named → List Named → Named → Aspect
aspect_of vdus policies a =
    record {
      name = name_or_empty a.0;
      maximum = maximum a.1;
      steps = step_count a.1;
      rows =
          rows_of vdus (policies_for a.0 policies) a.1;
    }

-- the aspects, in byte order of their names
unfoldable pub aspects_of : List Named → List Named → List Aspect
aspects_of vdus policies = map (aspect_of vdus (of_type aspect_deltas policies)) (aspects policies)
