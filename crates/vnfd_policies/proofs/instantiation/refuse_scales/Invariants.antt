-- The first of all scale levels that is refused is the first of those that are left.
use Rattle.std.proofs.Common.{◌≡◌, map, drop}
use Rattle.vnfd_document.specs.Checks.{first_failing}
use Rattle.vnfd_document.specs.Seen.{seen}
use Rattle.vnfd_policies.specs.Levels.{scale_refusal}
use Rattle.vnfd_policies.proofs.instantiation.refuse_scales.Given as goal

abbrev pub invariant-loop-scale : goal.invariant-loop-scale
invariant-loop-scale l =
    first_failing (scale_refusal (map seen l.fn.aspects)) (map seen l.fn.scales)
    ≡ first_failing (scale_refusal (map seen l.aspects)) (map seen (drop l.scale-index l.scales))
