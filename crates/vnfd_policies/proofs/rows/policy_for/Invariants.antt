-- The first of all policies that aims at the VDU is the first of those that are left.
use Rattle.std.proofs.Common.{◌≡◌, map, drop, find}
use Rattle.vnfd_document.specs.Seen.{seen}
use Rattle.vnfd_policies.specs.Policies.{aims_at}
use Rattle.vnfd_policies.proofs.rows.policy_for.Given as goal

abbrev pub invariant-loop-policy : goal.invariant-loop-policy
invariant-loop-policy l =
    find (λ p. aims_at l.fn.vdu p.1) (map seen l.fn.policies) ≡ find (λ p. aims_at l.vdu p.1) (map seen (drop l.policy-index l.policies))
