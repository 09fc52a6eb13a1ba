use Rattle.std.proofs.Common.{drop, map, ◌++◌, ◌≡◌}
use Rattle.std.specs.Prelude.{flat_map}
use Rattle.std.specs.List.{enumerate_from}
use Rattle.lcm_events.specs.declared.changes.Verb.TheVariants.{Create}
use Rattle.lcm_model.specs.Plans.{change}
use Rattle.change_planner.specs.Rolls.{made_by, new_defs}
use Rattle.change_planner.proofs.plans.push_made.Given as goal

abbrev pub invariant-loop-vdu : goal.invariant-loop-vdu
invariant-loop-vdu l =
    l.list.items ++ map (change Create) (flat_map (new_defs l.vnfd l.kind) (enumerate_from l.vdu (drop l.vdu l.rolls)))
    ≡ l.fn.list.items ++ made_by l.vnfd l.kind l.rolls
