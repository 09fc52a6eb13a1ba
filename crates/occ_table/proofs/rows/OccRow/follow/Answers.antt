-- Turns and ends that the search closes late.
use Rattle.std.proofs.Common.{arith}
use Rattle.std.proofs.lemmas.Grind.{common_steps}
use Rattle.occ_table.proofs.rows.OccRow.follow.Goals as goal

pub returns-else-ends-clause-room : goal.returns-else-ends-clause-room
returns-else-ends-clause-room c = grind (arith, common_steps)
