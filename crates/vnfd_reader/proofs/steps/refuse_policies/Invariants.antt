-- The first policy that is out of step is among those that are left.
use Rattle.std.proofs.Common.{◌≡◌, map, drop}
use Rattle.vnfd_document.specs.Checks.{first_failing}
use Rattle.vnfd_document.specs.Seen.{seen}
use Rattle.vnfd_reader.specs.Steps.{policy_refusal}
use Rattle.vnfd_reader.proofs.steps.refuse_policies.Given as goal

abbrev pub invariant-loop-policy : goal.invariant-loop-policy
invariant-loop-policy l =
    first_failing (λ p. policy_refusal l.fn.vnfd (map seen l.fn.vdus) p.1) (map seen l.fn.policies)
    ≡ first_failing (λ p. policy_refusal l.vnfd (map seen l.vdus) p.1) (map seen (drop l.policy-index l.policies))
