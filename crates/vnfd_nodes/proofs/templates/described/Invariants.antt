-- What was taken, and what is described among what is left, is all that is described.
use Rattle.std.proofs.Common.{◌≡◌, ◌++◌, map, drop}
use Rattle.vnfd_document.specs.Seen.{seen}
use Rattle.vnfd_nodes.specs.Nodes.{products_in}
use Rattle.vnfd_nodes.proofs.templates.described.Given as goal

abbrev pub invariant-loop-template : goal.invariant-loop-template
invariant-loop-template l =
    products_in (map seen l.fn.templates) ≡ map seen l.found.items ++ products_in (map seen (drop l.template-index l.templates))
