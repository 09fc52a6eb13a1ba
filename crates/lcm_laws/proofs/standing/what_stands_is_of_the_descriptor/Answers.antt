use Rattle.lcm_laws.proofs.StandLaws.{stands_of}
use Rattle.lcm_laws.proofs.standing.what_stands_is_of_the_descriptor.Goals as goal

pub returns : goal.returns
returns c = stands_of
