use Rattle.lcm_laws.proofs.MakerLaws.{stands_named}
use Rattle.lcm_laws.proofs.standing.what_stands_has_a_place.Goals as goal

pub returns : goal.returns
returns c = stands_named
