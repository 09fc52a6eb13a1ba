use Rattle.lcm_laws.proofs.NumberLaws.{operation-later}
use Rattle.lcm_laws.proofs.operations.operations_stay_found.Goals as goal

pub returns : goal.returns
returns c = operation-later
