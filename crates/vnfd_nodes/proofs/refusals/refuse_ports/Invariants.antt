-- The first port that is refused is among those that are left.
use Rattle.std.proofs.Common.{◌≡◌, map, drop}
use Rattle.vnfd_document.specs.Checks.{first_failing}
use Rattle.vnfd_document.specs.Seen.{seen}
use Rattle.vnfd_nodes.specs.Nodes.{port_refusal}
use Rattle.vnfd_nodes.proofs.refusals.refuse_ports.Given as goal

abbrev pub invariant-loop-port : goal.invariant-loop-port
invariant-loop-port l =
    first_failing (port_refusal (map seen l.fn.nodes.vdus.items) (map seen l.fn.nodes.links.items)) (map seen l.fn.nodes.ports.items)
    ≡ first_failing (port_refusal (map seen l.vdus) (map seen l.links)) (map seen (drop l.port-index l.nodes.ports.items))
