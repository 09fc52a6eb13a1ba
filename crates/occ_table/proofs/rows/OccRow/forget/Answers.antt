use Rattle.occ_table.proofs.EndedLaws.{forgotten_all, forgotten_none}
use Rattle.occ_table.proofs.rows.OccRow.forget.Goals as goal

pub returns-then-over : goal.returns-then-over
returns-then-over c = rw (c.clear.ensures, c.strip_grant.ensures) (forgotten_all c.args.self.now c.args.over c.if-over.true)

pub returns-else-over : goal.returns-else-over
returns-else-over c = forgotten_none c.args.self.now c.args.over c.if-over.false
