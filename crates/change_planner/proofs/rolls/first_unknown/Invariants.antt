use Rattle.std.proofs.Common.{drop, find, not, ◌≡◌}
use Rattle.std.specs.List.{enumerate_from}
use Rattle.std.specs.Prelude.{option_map}
use Rattle.lcm_model.specs.Instances.{inventory_of}
use Rattle.lcm_model.specs.Vnfcs.{is_there}
use Rattle.change_planner.proofs.rolls.first_unknown.Given as goal

abbrev pub invariant-loop-place : goal.invariant-loop-place
invariant-loop-place l =
    option_map (λ x. x.0) (find (λ x. not (is_there l.case.vnfd.now (inventory_of l.case.holding.now) x.1.vdu x.1.serial))
    (enumerate_from l.place (drop l.place l.named)))
    ≡ option_map (λ x. x.0) (find (λ x. not (is_there l.case.vnfd.now (inventory_of l.case.holding.now) x.1.vdu x.1.serial))
    (enumerate_from 0 l.named))
