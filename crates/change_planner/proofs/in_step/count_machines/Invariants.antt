use Rattle.std.proofs.Common.{drop, length, ◌+◌, ◌≡◌, ◌≤◌}
use Rattle.change_planner.specs.Rolls.{distinct}
use Rattle.change_planner.proofs.in_step.count_machines.Given as goal

abbrev pub invariant-loop-item : goal.invariant-loop-item
invariant-loop-item l = record {
  counted : l.count + length (distinct l.vdu l.last (drop l.item-index l.items)) ≡ length (distinct l.vdu 0 l.items);
  bound : l.count ≤ l.item-index;
}
