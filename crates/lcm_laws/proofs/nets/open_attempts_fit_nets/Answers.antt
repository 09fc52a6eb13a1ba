use Rattle.lcm_laws.proofs.NetLaws.{open_fits}
use Rattle.lcm_laws.proofs.nets.open_attempts_fit_nets.Goals as goal

pub returns : goal.returns
returns c = open_fits
