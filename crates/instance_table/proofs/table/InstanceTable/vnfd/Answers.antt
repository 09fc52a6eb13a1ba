use Rattle.std.proofs.Common.{◌∙◌, ap, find}
use Rattle.lcm_events.specs.Same.{same_name}
use Rattle.lcm_events.specs.declared.descriptor.Vnfd.{Vnfd}
use Rattle.instance_table.specs.Rows.{Rows}
use Rattle.instance_table.proofs.RowLaws.{vnfd_found}
use Rattle.instance_table.proofs.table.InstanceTable.vnfd.Goals as goal

pub returns : goal.returns
returns c = record {
  finds = λ width m H legal stands.
      c.vnfd_named.ensures
      ∙ (ap (λ (rs : Rows). find (λ (d : Vnfd). same_name d.descriptor_id c.args.id.now) rs.descriptors) stands
      ∙ vnfd_found width m H c.args.id.now legal);
  named = c.vnfd_named.ensures;
}
