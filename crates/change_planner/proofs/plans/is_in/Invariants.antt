use Rattle.std.proofs.Common.{drop, ◌≡◌}
use Rattle.lcm_model.specs.Words.{is_among}
use Rattle.change_planner.proofs.plans.is_in.Given as goal

abbrev pub invariant-loop-other : goal.invariant-loop-other
invariant-loop-other l =
    is_among (drop l.other-index l.numbers) l.number ≡ is_among l.numbers l.number
