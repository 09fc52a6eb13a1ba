-- The first VDU whose storages are refused is among those that are left.
use Rattle.std.proofs.Common.{◌≡◌, map, drop}
use Rattle.vnfd_document.specs.Checks.{first_failing}
use Rattle.vnfd_document.specs.Seen.{seen}
use Rattle.vnfd_nodes.specs.Nodes.{storage_refusal}
use Rattle.vnfd_nodes.proofs.refusals.refuse_storages.Given as goal

abbrev pub invariant-loop-vdu : goal.invariant-loop-vdu
invariant-loop-vdu l =
    first_failing (storage_refusal (map seen l.fn.nodes.storages.items)) (map seen l.fn.nodes.vdus.items)
    ≡ first_failing (storage_refusal (map seen l.storages)) (map seen (drop l.vdu-index l.nodes.vdus.items))
