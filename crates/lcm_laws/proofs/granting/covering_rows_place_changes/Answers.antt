use Rattle.lcm_laws.proofs.CoverLaws.{rows_place}
use Rattle.lcm_laws.proofs.granting.covering_rows_place_changes.Goals as goal

pub returns : goal.returns
returns c = rows_place
