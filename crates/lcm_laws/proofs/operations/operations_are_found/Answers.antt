use Rattle.lcm_laws.proofs.NumberLaws.{found_exactly}
use Rattle.lcm_laws.proofs.operations.operations_are_found.Goals as goal

pub returns : goal.returns
returns c = found_exactly
