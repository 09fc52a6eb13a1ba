-- One has the name where one of those that are left has it.
use Rattle.std.proofs.Common.{◌≡◌, map, drop}
use Rattle.vnfd_document.specs.Seen.{seen}
use Rattle.vnfd_nodes.specs.Nodes.{is_known}
use Rattle.vnfd_nodes.proofs.refusals.is_known.Given as goal

abbrev pub invariant-loop-thing : goal.invariant-loop-thing
invariant-loop-thing l = is_known (map seen l.fn.things) l.fn.target ≡ is_known (map seen (drop l.thing-index l.things)) l.target
