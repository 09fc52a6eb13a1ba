-- All have names where those that are left have.
use Rattle.std.proofs.Common.{◌≡◌, map, drop}
use Rattle.vnfd_document.specs.Seen.{seen}
use Rattle.vnfd_nodes.specs.Nodes.{have_names}
use Rattle.vnfd_nodes.proofs.refusals.have_names.Given as goal

abbrev pub invariant-loop-template : goal.invariant-loop-template
invariant-loop-template l = have_names (map seen l.fn.templates) ≡ have_names (map seen (drop l.template-index l.templates))
