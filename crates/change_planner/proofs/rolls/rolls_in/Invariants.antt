use Rattle.std.proofs.Common.{map, true, ◌++◌, ◌-◌, ◌≡◌}
use Rattle.std.specs.List.{list_all, range_with_len}
use Rattle.lcm_model.specs.Vnfcs.{vdu_numbers}
use Rattle.change_planner.specs.Rolls.{case_in, is_small, roll_of}
use Rattle.change_planner.proofs.rolls.rolls_in.Given as goal

abbrev pub invariant-loop-vdu : goal.invariant-loop-vdu
invariant-loop-vdu l = record {
  rolls : l.rolls.items ++ map (roll_of (case_in l.case)) (range_with_len l.vdu (l.count - l.vdu))
      ≡ map (roll_of (case_in l.case)) (vdu_numbers l.case.vnfd.now);
  small : list_all is_small l.rolls.items ≡ true;
}
