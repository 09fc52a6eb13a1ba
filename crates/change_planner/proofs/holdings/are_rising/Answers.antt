use Rattle.std.proofs.Common.{sym, ◌∙◌}
use Rattle.lcm_model.specs.Descriptors.{is_def_before}
use Rattle.change_planner.proofs.OrderLaws.{rising_past}
use Rattle.change_planner.proofs.holdings.are_rising.Goals as goal

pub loop-at-preserved : goal.loop-at-preserved
loop-at-preserved c =
    rising_past (λ x y. is_def_before x.def y.def) c.args.items.now c.loop-at.at _ _ _ c.loop-at.auto.at c.loop-at-test.true
    (sym c.is_def_before.ensures ∙ c.if-not-is_def_before.false) c.loop-at.invariant
