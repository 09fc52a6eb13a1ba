use Rattle.std.proofs.Common.{drop, find, nat_lt, ◌≡◌}
use Rattle.std.specs.List.{enumerate_from}
use Rattle.std.specs.Prelude.{option_map}
use Rattle.lcm_model.specs.Levels.{count}
use Rattle.change_planner.specs.Planning.{vdu_above}
use Rattle.change_planner.proofs.planning.vdu_above_in.Given as goal

abbrev pub invariant-loop-number : goal.invariant-loop-number
invariant-loop-number l = option_map (λ x. x.0) (find (λ x. nat_lt x.1.maximum (count l.vnfd x.0 l.to))
    (enumerate_from l.number (drop l.number l.vnfd.vdus))) ≡ vdu_above l.vnfd l.to
