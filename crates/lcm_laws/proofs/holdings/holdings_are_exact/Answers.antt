use Rattle.lcm_laws.proofs.HoldingLaws.{holding_exact}
use Rattle.lcm_laws.proofs.holdings.holdings_are_exact.Goals as goal

pub returns : goal.returns
returns c = holding_exact
