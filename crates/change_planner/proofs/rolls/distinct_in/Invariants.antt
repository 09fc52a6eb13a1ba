use Rattle.std.proofs.Common.{drop, ◌++◌, ◌≡◌}
use Rattle.change_planner.specs.Rolls.{distinct}
use Rattle.change_planner.proofs.rolls.distinct_in.Given as goal

abbrev pub invariant-loop-item : goal.invariant-loop-item
invariant-loop-item l = l.serials.items ++ distinct l.vdu l.last (drop l.item-index l.items) ≡ distinct l.vdu 0 l.items
