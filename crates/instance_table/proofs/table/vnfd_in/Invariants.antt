use Rattle.std.proofs.Common.{drop, find, ◌≡◌}
use Rattle.lcm_events.specs.Same.{same_name}
use Rattle.instance_table.proofs.table.vnfd_in.Given as goal

abbrev pub invariant-loop-vnfd : goal.invariant-loop-vnfd
invariant-loop-vnfd l = find (λ d. same_name d.descriptor_id l.id) (drop l.vnfd-index l.descriptors)
    ≡ find (λ d. same_name d.descriptor_id l.id) l.descriptors
