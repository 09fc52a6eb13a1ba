-- The ports so far, and those that are left.
use Rattle.std.proofs.Common.{◌≡◌, ◌++◌, map, drop}
use Rattle.vnfd_document.specs.Seen.{seen}
use Rattle.vnfd_nodes.specs.Built.{port_of}
use Rattle.vnfd_nodes.proofs.built.ports.Given as goal

abbrev pub invariant-loop-template : goal.invariant-loop-template
invariant-loop-template l =
    map (port_of (map seen l.fn.vdus) (map seen l.fn.links)) (map seen l.fn.templates)
    ≡ l.found.items ++ map (port_of (map seen l.vdus) (map seen l.links)) (map seen (drop l.template-index l.templates))
