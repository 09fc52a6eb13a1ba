use Rattle.lcm_laws.proofs.AboutLaws.{trouble_lasts}
use Rattle.lcm_laws.proofs.asking.trouble_lasts.Goals as goal

pub returns : goal.returns
returns c = trouble_lasts
