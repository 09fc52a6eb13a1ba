-- What was found, and those for the aspect among what is left, are those for it.
use Rattle.std.proofs.Common.{◌≡◌, ◌++◌, map, drop}
use Rattle.vnfd_document.specs.Seen.{seen}
use Rattle.vnfd_policies.specs.Rows.{policies_for}
use Rattle.vnfd_policies.proofs.rows.policies_for.Given as goal

abbrev pub invariant-loop-policy : goal.invariant-loop-policy
invariant-loop-policy l =
    policies_for l.fn.name (map seen l.fn.policies) ≡ map seen l.found.items
    ++ policies_for l.name (map seen (drop l.policy-index l.policies))
