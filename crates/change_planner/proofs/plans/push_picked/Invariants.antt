use Rattle.std.proofs.Common.{drop, ◌++◌, ◌≡◌}
use Rattle.change_planner.specs.Rolls.{changes_where, is_picked}
use Rattle.change_planner.proofs.plans.push_picked.Given as goal

abbrev pub invariant-loop-item : goal.invariant-loop-item
invariant-loop-item l =
    l.list.items ++ changes_where l.verb (is_picked l.pick l.rolls) (drop l.item-index l.items)
    ≡ l.fn.list.items ++ changes_where l.verb (is_picked l.pick l.rolls) l.items
