-- The first of all that has the name is the first of those that are left.
use Rattle.std.proofs.Common.{◌≡◌, map, drop, find}
use Rattle.std.specs.Str.{bytes_eq}
use Rattle.vnfd_document.specs.Seen.{seen}
use Rattle.vnfd_policies.proofs.words.named.Given as goal

abbrev pub invariant-loop-thing : goal.invariant-loop-thing
invariant-loop-thing l =
    find (λ x. bytes_eq x.0 l.fn.name) (map seen l.fn.things) ≡ find (λ x. bytes_eq x.0 l.name) (map seen (drop l.thing-index l.things))
