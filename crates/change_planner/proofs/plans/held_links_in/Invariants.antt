use Rattle.std.proofs.Common.{drop, ◌++◌, ◌≡◌}
use Rattle.change_planner.specs.Rolls.{held_links}
use Rattle.change_planner.proofs.plans.held_links_in.Given as goal

abbrev pub invariant-loop-item : goal.invariant-loop-item
invariant-loop-item l =
    l.numbers.items ++ held_links (drop l.item-index l.items) ≡ held_links l.items
