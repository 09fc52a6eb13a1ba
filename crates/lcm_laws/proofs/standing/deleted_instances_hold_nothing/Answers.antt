use Rattle.lcm_laws.proofs.HoldLaws.{deleted_holds_nothing}
use Rattle.lcm_laws.proofs.standing.deleted_instances_hold_nothing.Goals as goal

pub returns : goal.returns
returns c = deleted_holds_nothing
