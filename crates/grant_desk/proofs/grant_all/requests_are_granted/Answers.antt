use Rattle.grant_desk.proofs.GrantAllLaws.{requests_granted}
use Rattle.grant_desk.proofs.grant_all.requests_are_granted.Goals as goal

pub returns : goal.returns
returns c = requests_granted
