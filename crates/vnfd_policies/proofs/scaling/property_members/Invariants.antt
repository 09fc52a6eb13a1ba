-- What was taken, and the members of what is left, are the members of all.
use Rattle.std.proofs.Common.{◌≡◌, ◌++◌, map, drop}
use Rattle.std.specs.List.{flat_map}
use Rattle.vnfd_document.specs.Places.{property}
use Rattle.vnfd_document.specs.Seen.{seen}
use Rattle.vnfd_policies.specs.Policies.{members_at}
use Rattle.vnfd_policies.proofs.scaling.property_members.Given as goal

abbrev pub invariant-loop-policy : goal.invariant-loop-policy
invariant-loop-policy l =
    flat_map (λ p. members_at (property l.fn.name p.1)) (map seen l.fn.policies)
    ≡ map seen l.found.items ++ flat_map (λ p. members_at (property l.name p.1)) (map seen (drop l.policy-index l.policies))
