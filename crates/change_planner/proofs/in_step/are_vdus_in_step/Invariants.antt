use Rattle.std.proofs.Common.{◌-◌, ◌≡◌}
use Rattle.std.specs.List.{list_all, range_with_len}
use Rattle.lcm_model.specs.Instances.{inventory_of}
use Rattle.lcm_model.specs.Vnfcs.{is_vdu_in_step, vdu_numbers}
use Rattle.change_planner.proofs.in_step.are_vdus_in_step.Given as goal

abbrev pub invariant-loop-vdu : goal.invariant-loop-vdu
invariant-loop-vdu l =
    list_all (is_vdu_in_step l.vnfd (inventory_of l.holding) l.holding.levels l.holding.started) (range_with_len l.vdu (l.count - l.vdu))
    ≡ list_all (is_vdu_in_step l.vnfd (inventory_of l.holding) l.holding.levels l.holding.started) (vdu_numbers l.vnfd)
