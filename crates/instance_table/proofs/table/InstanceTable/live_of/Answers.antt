use Rattle.std.proofs.Common.{◌∙◌, ap, filter, length}
use Rattle.instance_table.specs.Rows.{Rows}
use Rattle.instance_table.specs.Table.{is_role_of}
use Rattle.instance_table.proofs.CountLaws.{roles_counted}
use Rattle.instance_table.proofs.table.InstanceTable.live_of.Goals as goal

pub returns : goal.returns
returns c = record {
  live = λ H stands.
      c.count_of.ensures
      ∙ (ap (λ (rs : Rows). length (filter (is_role_of c.args.role) rs.subscriptions)) stands ∙ roles_counted H c.args.role);
}
