use Rattle.std.proofs.Common.{drop, find, ◌≡◌}
use Rattle.lcm_events.specs.Same.{same_def}
use Rattle.change_planner.specs.Acts.{held}
use Rattle.change_planner.proofs.acts.held_in.Given as goal

abbrev pub invariant-loop-item : goal.invariant-loop-item
invariant-loop-item l = find (λ y. same_def y.def l.def) (drop l.item-index l.holding.items) ≡ held l.holding l.def
