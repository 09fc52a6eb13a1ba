use Rattle.instance_table.proofs.RowLaws.{rows_held}
use Rattle.instance_table.proofs.standing.rows_have_holdings.Goals as goal

pub returns : goal.returns
returns c = rows_held
