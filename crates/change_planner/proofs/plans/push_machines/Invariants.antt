use Rattle.std.proofs.Common.{map, ◌++◌, ◌+◌, ◌-◌, ◌≡◌}
use Rattle.std.specs.Prelude.{flat_map}
use Rattle.std.specs.List.{range_with_len}
use Rattle.lcm_events.specs.declared.changes.Verb.TheVariants.{Create}
use Rattle.lcm_model.specs.Plans.{change}
use Rattle.lcm_model.specs.Vnfcs.{def_of}
use Rattle.change_planner.proofs.plans.push_machines.Given as goal

abbrev pub invariant-loop-at : goal.invariant-loop-at
invariant-loop-at l =
    l.list.items ++ map (change Create) (flat_map (λ s. map (def_of l.kind l.vdu s) l.items)
    (range_with_len (l.top + 1 + l.at) (l.missing - l.at))) ≡ l.fn.list.items
    ++ map (change Create) (flat_map (λ s. map (def_of l.kind l.vdu s) l.items) (range_with_len (l.top + 1) l.missing))
