-- What each step of an aspect adds to a VDU, and why that is refused (SOL 001, VduScalingAspectDeltas; limits: own
-- rule).
use Rattle.std.specs.List.{flat_map, list_all, list_any}
use Rattle.std.specs.Option.{option_map_or}
use Rattle.std.specs.Prelude.{ℕ, List, [], ◌∷◌, length, nat_eq, ◌≡◌, ◌==◌, ◌&&◌, Bool, false, if◌then◌else◌, is_some}
use Rattle.std.specs.Prelude.{map, filter, find, Option, Some, None, option_and_then, unwrap_or, codes}
use Rattle.std.specs.Str.{bytes_eq}
use Rattle.serde_json.specs.Data.{Data}
use Rattle.serde_json.specs.Find.{as_str}
use Rattle.vnfd_document.specs.declared.fault.VnfdFault.{VnfdFault}
use Rattle.vnfd_document.specs.declared.fault.VnfdFault.TheVariants.{Lacks, Wrong}
use Rattle.vnfd_document.specs.Checks.{first_fault, first_failing}
use Rattle.vnfd_document.specs.Json.{Named, at, is_text, whole}
use Rattle.vnfd_document.specs.Members.{needed}
use Rattle.vnfd_document.specs.Places.{of_type, property, targets}
use Rattle.vnfd_policies.specs.Policies.{aspect_deltas, aims_at, targets_refusal, unknown_in, with_earlier}
use Rattle.vnfd_policies.specs.Aspects.{aspects, steps}

-- the name of the aspect that the policy is for, and the empty one where it gives none (SOL 001,
-- VduScalingAspectDeltas, aspect)
abbrev pub aspect_name : Data → List ℕ
aspect_name policy = unwrap_or (option_and_then as_str (property (codes "aspect") policy)) []

-- the instances that a step adds, by the deltas of a policy, a whole number to 65,535 (SOL 001, VduScalingAspectDeltas,
-- deltas; own limit)
abbrev pub step_delta : Data → Data → Option ℕ
step_delta deltas step = option_and_then (λ name. option_and_then (whole 0 65535)
    (at (name ∷ codes "number_of_instances" ∷ []) deltas)) (as_str step)

-- the steps of the aspect of this name
abbrev pub steps_of : List Named → List ℕ → List Data
steps_of all name = option_map_or (λ a. steps a.1) (find (λ a. bytes_eq a.0 name) all) []

-- the aspects and VDUs, by name, that the policy gives deltas for
abbrev pub cells : List Named → Data → List (List ℕ × List ℕ)
cells vdus policy = map (λ v. (aspect_name policy, v.0)) (filter (λ v. aims_at v.0 policy) vdus)

-- the aspect and the VDU are among these
abbrev pub is_cell_in : List (List ℕ × List ℕ) → List ℕ × List ℕ → Bool
is_cell_in taken cell = list_any (λ c. bytes_eq c.0 cell.0 && bytes_eq c.1 cell.1) taken

-- why the aspect that a policy is for is refused: it is missing, or no text, or no aspect has this name
abbrev pub text_refusal : List Named → Option (List ℕ) → Option VnfdFault
text_refusal all None = Some (Wrong (codes "aspect"))
text_refusal all (Some name) = unknown_in all name

abbrev pub aspect_refusal : List Named → Option Data → Option VnfdFault
aspect_refusal all None = Some (Lacks (codes "aspect"))
aspect_refusal all (Some d) = text_refusal all (as_str d)

-- the deltas, where each of these steps has one
abbrev pub deltas_for : List Data → Data → Option Data
deltas_for names d = if list_all (λ s. is_some (step_delta d s)) names then Some d else None

-- the same steps, however often each stands: what holds of all of these holds of all of those, and there are some of
-- both or none
pub record AreSameSteps (these those : List Data) : Type 0 where
  pub all : (test : Data → Bool) → list_all test these ≡ list_all test those
  pub none : nat_eq (length these) 0 ≡ nat_eq (length those) 0

-- the values are the same text
abbrev pub are_same_text : Data → Data → Bool
are_same_text a b = option_map_or (λ text. is_text text b) (as_str a) false

-- why the deltas of a policy are refused, where there is a step to look up: they are missing, or one has no delta
abbrev pub deltas_refusal : List Data → Option Data → Option VnfdFault
deltas_refusal names deltas = if length names == 0 then None else needed (codes "deltas") (deltas_for names) deltas

-- why a policy is refused whose VDUs have deltas of its aspect from an earlier policy
abbrev pub twice_refusal : List Named → List Named → Data → Option VnfdFault
twice_refusal vdus earlier policy = if list_any (is_cell_in (flat_map (λ p. cells vdus p.1) earlier))
    (cells vdus policy) then Some (Wrong (codes "deltas")) else None

-- why a policy with deltas is refused by itself: its aspect, then its targets, then its deltas
abbrev pub single_refusal : List Named → List Named → Data → Option VnfdFault
single_refusal vdus all policy =
    first_fault (aspect_refusal all (property (codes "aspect") policy) ∷ targets_refusal vdus (targets policy)
    ∷ deltas_refusal (steps_of all (aspect_name policy)) (property (codes "deltas") policy) ∷ [])

-- why a policy with deltas is refused, where these policies stand before it: by itself, or for a VDU with two policies
-- for one aspect
abbrev pub policy_refusal : List Named → List Named → List Named × Named → Option VnfdFault
policy_refusal vdus all p = first_fault (single_refusal vdus all p.1.1 ∷ twice_refusal vdus p.0 p.1.1 ∷ [])

-- why some policies with deltas are refused, where these stand before them: the first of them that is
abbrev pub policies_refusal_after : List Named → List Named → List Named → List Named → Option VnfdFault
policies_refusal_after vdus all earlier policies = first_failing (policy_refusal vdus all)
    (with_earlier earlier policies)

-- why the policies with deltas are refused
abbrev pub all_deltas_refusal : List Named → List Named → Option VnfdFault
all_deltas_refusal vdus policies = policies_refusal_after vdus (aspects policies) [] (of_type aspect_deltas policies)
