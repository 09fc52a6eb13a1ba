use Rattle.lcm_laws.proofs.Histories.{legal_before}
use Rattle.lcm_laws.proofs.beginnings.beginnings_are_legal.Goals as goal

pub returns : goal.returns
returns c = legal_before
