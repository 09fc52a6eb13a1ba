-- The delta among all policies is the one among those that are left.
use Rattle.std.proofs.Common.{◌≡◌, map, drop}
use Rattle.vnfd_document.specs.Seen.{seen}
use Rattle.vnfd_policies.specs.Initial.{delta_of}
use Rattle.vnfd_policies.proofs.initial_deltas.delta_of.Given as goal

abbrev pub invariant-loop-policy : goal.invariant-loop-policy
invariant-loop-policy l =
    delta_of l.fn.vdu (map seen l.fn.policies) ≡ delta_of l.vdu (map seen (drop l.policy-index l.policies))
