-- The storages so far, and those that are left.
use Rattle.std.proofs.Common.{◌≡◌, ◌++◌, map, drop}
use Rattle.vnfd_document.specs.Seen.{seen}
use Rattle.vnfd_nodes.specs.Built.{storage_of}
use Rattle.vnfd_nodes.proofs.built.storages.Given as goal

abbrev pub invariant-loop-template : goal.invariant-loop-template
invariant-loop-template l =
    map storage_of (map seen l.fn.templates) ≡ l.found.items ++ map storage_of (map seen (drop l.template-index l.templates))
