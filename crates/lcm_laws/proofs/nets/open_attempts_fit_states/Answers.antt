use Rattle.lcm_laws.proofs.EndLaws.{open_state}
use Rattle.lcm_laws.proofs.nets.open_attempts_fit_states.Goals as goal

pub returns : goal.returns
returns c = open_state
