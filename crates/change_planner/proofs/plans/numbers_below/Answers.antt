use Rattle.change_planner.proofs.RangeLaws.{range_on}
use Rattle.change_planner.proofs.plans.numbers_below.Goals as goal

pub loop-number-preserved : goal.loop-number-preserved
loop-number-preserved c = rw c.in_ok-push.ensures.items (range_on _ _ _ _ c.loop-number-test.true c.loop-number.invariant)
