-- What passes the checks of policies makes a valid descriptor, as far as its aspects, levels and initial deltas go.
use Rattle.std.proofs.Common.{◌≡◌, ℕ, List, length, map, Bool, true, None, nat_le, nat_lt, sym, ◌∙◌}
use Rattle.std.proofs.lemmas.Bool.{and_parts}
use Rattle.std.specs.List.{flat_map, list_all}
use Rattle.lcm_events.specs.declared.descriptor.Vnfd.{Vnfd}
use Rattle.lcm_model.specs.Descriptors.{are_sorted, is_valid_aspect, is_valid_level}
use Rattle.vnfd_document.specs.Json.{Named}
use Rattle.vnfd_document.specs.Names.{is_given_name}
use Rattle.vnfd_document.specs.Order.{AllInOrder}
use Rattle.vnfd_document.specs.Places.{of_type}
use Rattle.vnfd_policies.specs.Aspects.{aspects}
use Rattle.vnfd_policies.specs.Initial.{initial_of}
use Rattle.vnfd_policies.specs.Levels.{default_of, levels_in, levels_of}
use Rattle.vnfd_policies.specs.Policies.{instantiation_levels}
use Rattle.vnfd_policies.specs.Refusal.{policies_refusal, policy_names}
use Rattle.vnfd_policies.specs.Rows.{aspects_of}
use Rattle.vnfd_policies.proofs.LevelLaws as of_levels
use Rattle.vnfd_policies.proofs.ListLaws.{names_given}
use Rattle.vnfd_policies.proofs.SortedLaws as in_order
use Rattle.vnfd_policies.proofs.ValidLaws as of_aspects

-- there are at most 16 aspects
pub few_aspects : (vdus policies : List Named) → policies_refusal vdus policies ≡ None
    → nat_le (length (aspects_of vdus policies)) 16 ≡ true
few_aspects vdus policies passes = of_aspects.aspects_few vdus policies passes

-- there are at most 64 levels
pub few_levels : (vdus policies : List Named) → policies_refusal vdus policies ≡ None → nat_le (length (levels_of policies)) 64 ≡ true
few_levels vdus policies passes = of_levels.levels_few vdus policies passes

-- the default level is one of the levels
pub default_exists : (vdus policies : List Named) → policies_refusal vdus policies ≡ None
    → nat_lt (default_of policies) (length (levels_of policies)) ≡ true
default_exists vdus policies passes = of_levels.default_below vdus policies passes

aspects_given : (policies : List Named) → list_all is_given_name (policy_names policies) ≡ true
    → list_all (λ a. is_given_name a.0) (aspects policies) ≡ true
unfolding policy_names
aspects_given policies given =
    let levels = flat_map (λ p. levels_in p.1) (of_type instantiation_levels policies) in
    (and_parts (list_all (λ a. is_given_name a.0) (aspects policies)) _ (sym (names_given (aspects policies) levels) ∙ given)).0

-- the aspects are in byte order of their names, each once
pub aspects_sorted : (vdus policies : List Named) → AllInOrder policies → list_all is_given_name (policy_names policies) ≡ true
    → policies_refusal vdus policies ≡ None
    → are_sorted (map (λ a. a.name) (aspects_of vdus policies)) ≡ true
aspects_sorted vdus policies ordered given passes = in_order.aspects_sorted vdus policies ordered passes (aspects_given policies given)

-- the levels are in byte order of their names, each once
pub levels_sorted : (vdus policies : List Named) → AllInOrder policies → list_all is_given_name (policy_names policies) ≡ true
    → policies_refusal vdus policies ≡ None
    → are_sorted (map (λ l. l.name) (levels_of policies)) ≡ true
levels_sorted vdus policies ordered given passes = in_order.levels_sorted vdus policies ordered passes given

-- each aspect is valid, in a descriptor with so many VDUs
pub aspects_valid : (d : Vnfd) (vdus policies : List Named) → length d.vdus ≡ length vdus → AllInOrder policies
    → list_all is_given_name (policy_names policies) ≡ true → policies_refusal vdus policies ≡ None
    → list_all (is_valid_aspect d) (aspects_of vdus policies) ≡ true
aspects_valid d vdus policies same ordered given passes = of_aspects.aspects_valid d vdus policies same passes
    (aspects_given policies given)

-- each level is valid, in a descriptor with these aspects
pub levels_valid : (d : Vnfd) (vdus policies : List Named) → d.aspects ≡ aspects_of vdus policies → AllInOrder policies
    → list_all is_given_name (policy_names policies) ≡ true → policies_refusal vdus policies ≡ None
    → list_all (is_valid_level d) (levels_of policies) ≡ true
levels_valid d vdus policies same ordered given passes = of_levels.levels_valid d vdus policies same given

-- an initial delta is within its limit
pub initial_small : (policies : List Named) (vdu : List ℕ) → nat_le (initial_of policies vdu) 65535 ≡ true
initial_small policies vdu = of_aspects.initial_valid policies vdu
