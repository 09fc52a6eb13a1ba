use Rattle.lcm_laws.proofs.CoverLaws.{rows_given}
use Rattle.lcm_laws.proofs.granting.recorded_places_are_those_of_rows.Goals as goal

pub returns : goal.returns
returns c = rows_given
