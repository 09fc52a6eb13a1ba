use Rattle.std.proofs.Common.{◌∙◌, ap}
use Rattle.instance_table.specs.Rows.{Rows}
use Rattle.instance_table.specs.Steps.{next_place}
use Rattle.instance_table.proofs.RowLaws.{applied, ordered}
use Rattle.instance_table.proofs.table.InstanceTable.apply.Goals as goal

pub returns-clause-applies : goal.returns-clause-applies
returns-clause-applies c = λ width m H short legal allowed stands.
    let old : Rows = c.args.self.now.rows in
    applied width m H c.args.e.now old _ short legal allowed stands
    (c.count_event.ensures.rows ∙ ap (λ (rs : Rows). record rs { events = next_place rs.events })
    (c.follow.ensures.rows (ordered width m H old legal stands)))
