-- What was taken, and what stands under the name among what is left, is all that stands under it.
use Rattle.std.proofs.Common.{◌≡◌, ◌++◌, map, drop}
use Rattle.serde_json.specs.View.{view}
use Rattle.vnfd_document.specs.Places.{under}
use Rattle.vnfd_document.specs.Seen.{seen}
use Rattle.vnfd_document.proofs.requirements.values_under.Given as goal

abbrev pub invariant-loop-thing : goal.invariant-loop-thing
invariant-loop-thing l =
    under l.fn.kind (map seen l.fn.things) ≡ map (λ v. view v.now) l.found.items ++ under l.kind (map seen (drop l.thing-index l.things))
