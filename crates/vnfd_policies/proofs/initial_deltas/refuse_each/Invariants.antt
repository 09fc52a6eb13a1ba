-- The first of all policies that is refused is the first of those that are left, and the targets of those before it are known.
use Rattle.std.proofs.Common.{◌≡◌, [], map, drop, take}
use Rattle.vnfd_document.specs.Seen.{seen}
use Rattle.vnfd_policies.specs.Initial.{all_targets, initials_refusal_after}
use Rattle.vnfd_policies.proofs.initial_deltas.refuse_each.Given as goal

abbrev pub invariant-loop-policy : goal.invariant-loop-policy
invariant-loop-policy l = record {
  refusal : initials_refusal_after (map seen l.fn.vdus) [] (map seen l.fn.policies)
      ≡ initials_refusal_after (map seen l.vdus) (map seen (take l.policy-index l.policies)) (map seen (drop l.policy-index l.policies));
  aimed_at : map (λ name. name.now) l.aimed_at.items ≡ all_targets (map seen (take l.policy-index l.policies));
}
