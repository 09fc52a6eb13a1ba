-- All names are given where those of the policies that are left are.
use Rattle.std.proofs.Common.{◌≡◌, map, drop}
use Rattle.std.specs.List.{flat_map, list_all}
use Rattle.vnfd_document.specs.Names.{is_given_name}
use Rattle.vnfd_document.specs.Places.{property}
use Rattle.vnfd_document.specs.Seen.{seen}
use Rattle.vnfd_policies.specs.Policies.{members_at}
use Rattle.vnfd_policies.proofs.are_names_given.Given as goal

abbrev pub invariant-loop-policy : goal.invariant-loop-policy
invariant-loop-policy l =
    list_all (λ m. is_given_name m.0) (flat_map (λ p. members_at (property l.fn.name p.1)) (map seen l.fn.policies))
    ≡ list_all (λ m. is_given_name m.0) (flat_map (λ p. members_at (property l.name p.1)) (map seen (drop l.policy-index l.policies)))
