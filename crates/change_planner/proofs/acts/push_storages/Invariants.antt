use Rattle.std.proofs.Common.{drop, map, ◌++◌, ◌≡◌}
use Rattle.std.specs.Prelude.{filter_map}
use Rattle.lcm_events.specs.declared.changes.DefKind.TheVariants.{Storage}
use Rattle.lcm_model.specs.Vnfcs.{def_of}
use Rattle.change_planner.specs.Acts.{resource_held}
use Rattle.change_planner.proofs.acts.push_storages.Given as goal

abbrev pub invariant-loop-item : goal.invariant-loop-item
invariant-loop-item l = l.names ++ filter_map (resource_held l.holding) (map (def_of Storage l.vdu l.serial) (drop l.item-index l.storages))
    ≡ l.fn.names ++ filter_map (resource_held l.holding) (map (def_of Storage l.vdu l.serial) l.storages)
