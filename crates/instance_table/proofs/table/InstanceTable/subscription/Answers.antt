use Rattle.instance_table.proofs.RowLaws.{subscription_found}
use Rattle.instance_table.proofs.table.InstanceTable.subscription.Goals as goal

pub returns : goal.returns
returns c = record {
  finds = λ width m H legal stands. subscription_found width m H c.args.self.now.rows c.args.n _ legal stands
      c.subscription_numbered.ensures;
}
