-- The first of all policies that is refused is the first of those that are left, and the cells of those before it are taken.
use Rattle.std.proofs.Common.{◌≡◌, [], map, drop, take}
use Rattle.std.specs.List.{flat_map}
use Rattle.vnfd_document.specs.Seen.{seen}
use Rattle.vnfd_policies.specs.Cells.{cell}
use Rattle.vnfd_policies.specs.Deltas.{cells, policies_refusal_after}
use Rattle.vnfd_policies.proofs.deltas.refuse_each.Given as goal

abbrev pub invariant-loop-policy : goal.invariant-loop-policy
invariant-loop-policy l = record {
  refusal : policies_refusal_after (map seen l.fn.vdus) (map seen l.fn.aspects) [] (map seen l.fn.policies)
      ≡ policies_refusal_after (map seen l.vdus) (map seen l.aspects) (map seen (take l.policy-index l.policies))
      (map seen (drop l.policy-index l.policies));
  taken : map cell l.taken.items ≡ flat_map (λ p. cells (map seen l.vdus) p.1) (map seen (take l.policy-index l.policies));
}
