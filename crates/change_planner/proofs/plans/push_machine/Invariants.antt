use Rattle.std.proofs.Common.{drop, map, ◌++◌, ◌≡◌}
use Rattle.lcm_events.specs.declared.changes.Verb.TheVariants.{Create}
use Rattle.lcm_model.specs.Plans.{change}
use Rattle.lcm_model.specs.Vnfcs.{def_of}
use Rattle.change_planner.proofs.plans.push_machine.Given as goal

abbrev pub invariant-loop-item : goal.invariant-loop-item
invariant-loop-item l =
    l.list.items ++ map (change Create) (map (def_of l.kind l.vdu l.serial) (drop l.item-index l.items))
    ≡ l.fn.list.items ++ map (change Create) (map (def_of l.kind l.vdu l.serial) l.items)
