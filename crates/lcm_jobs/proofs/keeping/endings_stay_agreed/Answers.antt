use Rattle.lcm_jobs.proofs.Endings.{agree_on}
use Rattle.lcm_jobs.proofs.keeping.endings_stay_agreed.Goals as goal

pub returns : goal.returns
returns c = agree_on
