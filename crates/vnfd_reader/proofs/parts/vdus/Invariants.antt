-- The VDUs so far, and those that are left.
use Rattle.std.proofs.Common.{◌≡◌, ◌++◌, map, drop}
use Rattle.vnfd_document.specs.Seen.{seen}
use Rattle.vnfd_nodes.specs.Built.{vdu_of}
use Rattle.vnfd_policies.specs.Initial.{initial_of}
use Rattle.vnfd_reader.proofs.parts.vdus.Given as goal

abbrev pub invariant-loop-template : goal.invariant-loop-template
invariant-loop-template l =
    map (λ x. vdu_of (map seen l.fn.storages) (initial_of (map seen l.fn.policies.all.items) x.0) x) (map seen l.fn.templates)
    ≡ l.found.items ++ map (λ x. vdu_of (map seen l.storages) (initial_of (map seen l.policies.all.items) x.0) x)
    (map seen (drop l.template-index l.templates))
