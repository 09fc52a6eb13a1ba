-- The place is among those that are left.
use Rattle.std.proofs.Common.{◌≡◌, map, drop}
use Rattle.vnfd_document.specs.Seen.{seen}
use Rattle.vnfd_nodes.specs.Built.{place_of}
use Rattle.vnfd_nodes.proofs.built.place_of.Given as goal

abbrev pub invariant-loop-at : goal.invariant-loop-at
invariant-loop-at l = place_of 0 (map seen l.fn.things) l.fn.target ≡ place_of l.at (map seen (drop l.at l.things)) l.target
