use Rattle.change_planner.proofs.SearchLaws.{rising_sorted}
use Rattle.change_planner.proofs.plans.is_among_rising.Goals as goal

pub is_among_sorted-requires : goal.is_among_sorted-requires
is_among_sorted-requires c = rising_sorted c.args.numbers.now c.requires
