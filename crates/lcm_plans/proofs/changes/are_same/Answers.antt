use Rattle.lcm_plans.proofs.ChangeLaws.{same_changes}
use Rattle.lcm_plans.proofs.changes.are_same.Goals as goal

pub returns : goal.returns
returns c = same_changes c.are_equal.result c.args.a.now c.args.b.now c.are_equal.ensures
