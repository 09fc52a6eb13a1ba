use Rattle.lcm_laws.proofs.NextLaws.{next_legal}
use Rattle.lcm_laws.proofs.acting.next_actions_are_allowed.Goals as goal

pub returns : goal.returns
returns c = next_legal
