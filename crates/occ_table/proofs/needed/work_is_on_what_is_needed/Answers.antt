use Rattle.occ_table.proofs.NeededLaws.{work_on_needed}
use Rattle.occ_table.proofs.needed.work_is_on_what_is_needed.Goals as goal

pub returns : goal.returns
returns c = work_on_needed
