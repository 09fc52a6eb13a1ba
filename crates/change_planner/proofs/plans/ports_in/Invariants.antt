use Rattle.std.proofs.Common.{drop, map, ◌++◌, ◌==◌, ◌≡◌}
use Rattle.std.specs.Prelude.{filter}
use Rattle.std.specs.List.{enumerate_from}
use Rattle.change_planner.proofs.plans.ports_in.Given as goal

abbrev pub invariant-loop-number : goal.invariant-loop-number
invariant-loop-number l =
    l.numbers.items ++ map (λ x. x.0) (filter (λ x. x.1.vdu == l.vdu) (enumerate_from l.number (drop l.number l.ports)))
    ≡ map (λ x. x.0) (filter (λ x. x.1.vdu == l.vdu) (enumerate_from 0 l.ports))
