-- What was taken, and those of the type among what is left, are those of the type.
use Rattle.std.proofs.Common.{◌≡◌, ◌++◌, map, drop}
use Rattle.vnfd_document.specs.Places.{of_type}
use Rattle.vnfd_document.specs.Seen.{seen}
use Rattle.vnfd_document.proofs.entries.of_type.Given as goal

abbrev pub invariant-loop-thing : goal.invariant-loop-thing
invariant-loop-thing l = of_type l.fn.kind (map seen l.fn.things)
    ≡ map seen l.found.items ++ of_type l.kind (map seen (drop l.thing-index l.things))
