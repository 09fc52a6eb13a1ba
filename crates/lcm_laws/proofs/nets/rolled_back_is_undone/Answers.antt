use Rattle.lcm_laws.proofs.EndLaws.{rolled_back_undone}
use Rattle.lcm_laws.proofs.nets.rolled_back_is_undone.Goals as goal

pub returns : goal.returns
returns c = rolled_back_undone
