-- The rows are those of the history.
use Rattle.std.proofs.Common.{ap, length}
use Rattle.lcm_trial.proofs.requests.live.Goals as goal

pub returns : goal.returns
returns g c = λ H keeps. ap length (c.instances-2.ensures.lists H (c.instances.ensures.rows H keeps))
