use Rattle.std.proofs.Common.{drop, map, ◌==◌, ◌≡◌}
use Rattle.std.specs.List.{enumerate_from}
use Rattle.std.specs.Prelude.{filter}
use Rattle.lcm_model.specs.Words.{is_among}
use Rattle.change_planner.proofs.holdings.is_port_of.Given as goal

abbrev pub invariant-loop-number : goal.invariant-loop-number
invariant-loop-number l =
    is_among (map (λ x. x.0) (filter (λ x. x.1.vdu == l.vdu) (enumerate_from l.number (drop l.number l.ports)))) l.item
    ≡ is_among (map (λ x. x.0) (filter (λ x. x.1.vdu == l.vdu) (enumerate_from 0 l.ports))) l.item
