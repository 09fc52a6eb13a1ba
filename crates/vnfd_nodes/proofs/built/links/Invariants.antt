-- The links so far, and those that are left.
use Rattle.std.proofs.Common.{◌≡◌, ◌++◌, map, drop}
use Rattle.vnfd_document.specs.Names.{name_or_empty}
use Rattle.vnfd_document.specs.Seen.{seen}
use Rattle.vnfd_nodes.proofs.built.links.Given as goal

abbrev pub invariant-loop-template : goal.invariant-loop-template
invariant-loop-template l =
    map (λ x. name_or_empty x.0) (map seen l.fn.templates) ≡ l.found.items
    ++ map (λ x. name_or_empty x.0) (map seen (drop l.template-index l.templates))
