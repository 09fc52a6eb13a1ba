-- One of all policies aims at the VDU where one of those that are left does.
use Rattle.std.proofs.Common.{◌≡◌, map, drop}
use Rattle.vnfd_document.specs.Seen.{seen}
use Rattle.vnfd_policies.specs.Initial.{is_aimed_at}
use Rattle.vnfd_policies.proofs.initial_deltas.is_aimed_at.Given as goal

abbrev pub invariant-loop-policy : goal.invariant-loop-policy
invariant-loop-policy l =
    is_aimed_at (map seen l.fn.policies) l.fn.vdu ≡ is_aimed_at (map seen (drop l.policy-index l.policies)) l.vdu
