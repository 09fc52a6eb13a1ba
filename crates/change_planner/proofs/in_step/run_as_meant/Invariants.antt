use Rattle.std.proofs.Common.{drop, ◌≡◌}
use Rattle.std.specs.List.{list_all}
use Rattle.change_planner.specs.Rolls.{runs_as_meant}
use Rattle.change_planner.proofs.in_step.run_as_meant.Given as goal

abbrev pub invariant-loop-item : goal.invariant-loop-item
invariant-loop-item l = list_all (runs_as_meant l.started) (drop l.item-index l.items) ≡ list_all (runs_as_meant l.started) l.items
