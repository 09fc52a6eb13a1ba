use Rattle.std.proofs.Common.{drop, not, ◌&&◌, ◌++◌, ◌≡◌}
use Rattle.std.specs.Prelude.{filter}
use Rattle.lcm_model.specs.Instances.{inventory_of}
use Rattle.lcm_model.specs.Words.{is_among}
use Rattle.lcm_model.specs.Vnfcs.{is_whole}
use Rattle.change_planner.proofs.rolls.whole_without.Given as goal

abbrev pub invariant-loop-serial : goal.invariant-loop-serial
invariant-loop-serial l =
    l.kept.items ++ filter (λ s. is_whole l.case.vnfd.now (inventory_of l.case.holding.now) l.vdu s && not (is_among l.named s))
    (drop l.serial-index l.serials)
    ≡ filter (λ s. is_whole l.case.vnfd.now (inventory_of l.case.holding.now) l.vdu s && not (is_among l.named s)) l.serials
