use Rattle.lcm_laws.proofs.BeginLaws.{needs_exact}
use Rattle.lcm_laws.proofs.needing.needs_are_exact.Goals as goal

pub returns : goal.returns
returns c = needs_exact
