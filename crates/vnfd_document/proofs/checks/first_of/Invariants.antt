-- The first that fails is among those that are left.
use Rattle.std.proofs.Common.{◌≡◌, map, drop}
use Rattle.vnfd_document.specs.Checks.{first_failing}
use Rattle.vnfd_document.specs.Seen.{seen}
use Rattle.vnfd_document.proofs.checks.first_of.Given as goal

abbrev pub invariant-loop-thing : goal.invariant-loop-thing
invariant-loop-thing g l =
    first_failing (g.C.Check.says l.fn.check) (map seen l.fn.things)
    ≡ first_failing (g.C.Check.says l.check) (map seen (drop l.thing-index l.things))
