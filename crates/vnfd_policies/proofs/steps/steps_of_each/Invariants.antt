-- What was found, and the aspects that are left, are all aspects.
use Rattle.std.proofs.Common.{◌≡◌, ◌++◌, map, drop}
use Rattle.vnfd_document.specs.Seen.{seen}
use Rattle.vnfd_policies.specs.AspectsSeen.{aspect_seen}
use Rattle.vnfd_policies.proofs.steps.steps_of_each.Given as goal

abbrev pub invariant-loop-aspect : goal.invariant-loop-aspect
invariant-loop-aspect l =
    map seen l.fn.aspects ≡ map aspect_seen l.found.items ++ map seen (drop l.aspect-index l.aspects)
