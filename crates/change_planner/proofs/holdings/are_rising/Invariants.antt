use Rattle.std.proofs.Common.{drop, ◌-◌, ◌≡◌}
use Rattle.lcm_events.specs.Descriptors.{is_rising}
use Rattle.lcm_model.specs.Descriptors.{is_def_before}
use Rattle.change_planner.proofs.holdings.are_rising.Given as goal

abbrev pub invariant-loop-at : goal.invariant-loop-at
invariant-loop-at l =
    is_rising (λ x y. is_def_before x.def y.def) (drop (l.at - 1) l.items) ≡ is_rising (λ x y. is_def_before x.def y.def) l.items
