use Rattle.std.proofs.Common.{◌∙◌, ◌==◌, ℕ, List, ap, find}
use Rattle.instance_table.specs.Rows.{Rows, instance_rows}
use Rattle.instance_table.specs.declared.rows.InstanceRow.{InstanceRow}
use Rattle.instance_table.proofs.RowLaws.{instance_found, ordered}
use Rattle.instance_table.proofs.table.InstanceTable.instance.Goals as goal

pub returns : goal.returns
returns c = record {
  finds = λ width m H legal stands. instance_found width m H c.args.self.now.rows c.args.n _ legal stands c.instance_numbered.ensures;
  among = λ width m H legal stands.
      c.instance_numbered.ensures (ordered width m H c.args.self.now.rows legal stands).instances
      ∙ ap (λ (rs : Rows). find (λ (r : InstanceRow). r.number == c.args.n) rs.instances) stands;
}
