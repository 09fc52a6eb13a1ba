use Rattle.lcm_laws.proofs.OngoingLaws.{one_ongoing}
use Rattle.lcm_laws.proofs.operations.one_operation_goes_on.Goals as goal

pub returns : goal.returns
returns c = one_ongoing
