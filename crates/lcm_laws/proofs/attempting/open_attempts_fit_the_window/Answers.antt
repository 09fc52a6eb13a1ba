use Rattle.lcm_laws.proofs.OpenLaws.{open_few}
use Rattle.lcm_laws.proofs.attempting.open_attempts_fit_the_window.Goals as goal

pub returns : goal.returns
returns c = open_few
