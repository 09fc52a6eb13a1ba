-- Policies on scaling: their types, what stands in them, and which VDUs they aim at (SOL 001, policy types; TOSCA
-- Simple Profile 1.2, targets).
use Rattle.std.specs.List.{list_any}
use Rattle.std.specs.Option.{option_map_or, option_or}
use Rattle.std.specs.Prelude.{ℕ, List, [], ◌∷◌, ◌++◌, length, nat_lt, Bool, false, if◌then◌else◌, Option, Some, None}
use Rattle.std.specs.Prelude.{codes}
use Rattle.std.specs.Str.{bytes_eq}
use Rattle.serde_json.specs.Data.{Data}
use Rattle.vnfd_document.specs.declared.fault.VnfdFault.{VnfdFault}
use Rattle.vnfd_document.specs.declared.fault.VnfdFault.TheVariants.{Wrong, TooMany}
use Rattle.vnfd_document.specs.Checks.{first_failing}
use Rattle.vnfd_document.specs.Json.{Named, members_of}
use Rattle.vnfd_document.specs.Names.{unknown}
use Rattle.vnfd_document.specs.Places.{targets}

-- what scales, and how far (SOL 001, ScalingAspects)
abbrev pub scaling_aspects : List ℕ
scaling_aspects = codes "tosca.policies.nfv.ScalingAspects"

-- what each step of an aspect adds to a VDU (SOL 001, VduScalingAspectDeltas)
abbrev pub aspect_deltas : List ℕ
aspect_deltas = codes "tosca.policies.nfv.VduScalingAspectDeltas"

-- how many instances of a VDU there are at first (SOL 001, VduInitialDelta)
abbrev pub initial_delta : List ℕ
initial_delta = codes "tosca.policies.nfv.VduInitialDelta"

-- the levels that an instance can be made at (SOL 001, InstantiationLevels)
abbrev pub instantiation_levels : List ℕ
instantiation_levels = codes "tosca.policies.nfv.InstantiationLevels"

-- how many instances of a VDU there are at each level (SOL 001, VduInstantiationLevels)
abbrev pub vdu_levels : List ℕ
vdu_levels = codes "tosca.policies.nfv.VduInstantiationLevels"

-- the members of what stands there: none where nothing does, or where it is no object
abbrev pub members_at : Option Data → List Named
members_at d = option_map_or members_of d []

-- one of these has this name
abbrev pub is_named : List ℕ → List Named → Bool
is_named name xs = list_any (λ x. bytes_eq x.0 name) xs

-- the policy aims at the VDU of this name: it is one of its targets
abbrev pub aims_at : List ℕ → Data → Bool
aims_at vdu policy = option_map_or (list_any (bytes_eq vdu)) (targets policy) false

-- each with those that stand before it
abbrev pub with_earlier : {A : Type 0} → List A → List A → List (List A × A)
with_earlier earlier [] = []
with_earlier earlier (x ∷ xs) = (earlier, x) ∷ with_earlier (earlier ++ x ∷ []) xs

-- why there are too many of these
abbrev pub too_many : ℕ → List ℕ → List Named → Option VnfdFault
too_many most name xs = if nat_lt most (length xs) then Some (TooMany name) else None

-- why a text that is to name one of these is refused: none has this name
abbrev pub unknown_in : List Named → List ℕ → Option VnfdFault
unknown_in xs name = if is_named name xs then None else Some (unknown name)

-- why the targets of a policy are refused: they have another form than a list of texts, or the first of them that names
-- no VDU
abbrev pub targets_refusal : List Named → Option (List (List ℕ)) → Option VnfdFault
targets_refusal vdus None = Some (Wrong (codes "targets"))
targets_refusal vdus (Some names) = first_failing (unknown_in vdus) names
