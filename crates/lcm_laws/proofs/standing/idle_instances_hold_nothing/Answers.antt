use Rattle.lcm_laws.proofs.HoldLaws.{idle_holds_nothing}
use Rattle.lcm_laws.proofs.standing.idle_instances_hold_nothing.Goals as goal

pub returns : goal.returns
returns c = idle_holds_nothing
