use Rattle.lcm_laws.proofs.HoldingLaws.{holding_of}
use Rattle.lcm_laws.proofs.holdings.holdings_are_of_the_descriptor.Goals as goal

pub returns : goal.returns
returns c = holding_of
