-- The first of all VDUs that lacks an initial delta is the first of those that are left.
use Rattle.std.proofs.Common.{◌≡◌, map, drop}
use Rattle.vnfd_document.specs.Checks.{first_failing}
use Rattle.vnfd_document.specs.Seen.{seen}
use Rattle.vnfd_policies.specs.Initial.{missing_refusal}
use Rattle.vnfd_policies.proofs.initial_deltas.refuse_missing.Given as goal

abbrev pub invariant-loop-vdu : goal.invariant-loop-vdu
invariant-loop-vdu l =
    first_failing (missing_refusal (map seen l.fn.with_deltas) (map seen l.fn.initials)) (map seen l.fn.vdus)
    ≡ first_failing (missing_refusal (map seen l.with_deltas) (map seen l.initials)) (map seen (drop l.vdu-index l.vdus))
