use Rattle.lcm_laws.proofs.WorldLaws.{stands_on}
use Rattle.lcm_laws.proofs.needing.what_stands_is_on_what_stands.Goals as goal

pub returns : goal.returns
returns c = stands_on
