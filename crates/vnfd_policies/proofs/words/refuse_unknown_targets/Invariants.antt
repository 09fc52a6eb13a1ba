-- The first of all that names no VDU is the first of those that are left.
use Rattle.std.proofs.Common.{◌≡◌, map, drop}
use Rattle.vnfd_document.specs.Checks.{first_failing}
use Rattle.vnfd_document.specs.Seen.{seen}
use Rattle.vnfd_policies.specs.Policies.{unknown_in}
use Rattle.vnfd_policies.proofs.words.refuse_unknown_targets.Given as goal

abbrev pub invariant-loop-name : goal.invariant-loop-name
invariant-loop-name l =
    first_failing (unknown_in (map seen l.fn.vdus)) (map (λ name. name.now) l.fn.names)
    ≡ first_failing (unknown_in (map seen l.vdus)) (map (λ name. name.now) (drop l.name-index l.names))
