use Rattle.lcm_laws.proofs.WorldLaws.{computes_linked}
use Rattle.lcm_laws.proofs.needing.computes_stand_beside_links.Goals as goal

pub returns : goal.returns
returns c = computes_linked
