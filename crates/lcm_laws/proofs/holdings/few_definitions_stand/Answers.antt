use Rattle.lcm_laws.proofs.BoundLaws.{standing_few}
use Rattle.lcm_laws.proofs.holdings.few_definitions_stand.Goals as goal

pub returns : goal.returns
returns c = standing_few
