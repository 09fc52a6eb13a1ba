-- The first number that all policies give is the first that those that are left give.
use Rattle.std.proofs.Common.{◌≡◌, map, drop}
use Rattle.vnfd_document.specs.Seen.{seen}
use Rattle.vnfd_policies.specs.Initial.{first_given}
use Rattle.vnfd_policies.proofs.initial_deltas.first_given.Given as goal

abbrev pub invariant-loop-policy : goal.invariant-loop-policy
invariant-loop-policy l =
    first_given l.fn.level l.fn.vdu (map seen l.fn.policies) ≡ first_given l.level l.vdu (map seen (drop l.policy-index l.policies))
