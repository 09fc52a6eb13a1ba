use Rattle.std.proofs.Common.{drop, length, map, ◌+◌, ◌==◌, ◌≡◌, ◌≤◌}
use Rattle.std.specs.List.{enumerate_from}
use Rattle.std.specs.Prelude.{filter}
use Rattle.change_planner.proofs.rolls.count_ports.Given as goal

abbrev pub invariant-loop-port : goal.invariant-loop-port
invariant-loop-port l = record {
  counted : l.count + length (map (λ x. x.0) (filter (λ x. x.1.vdu == l.vdu) (enumerate_from l.port-index (drop l.port-index l.ports))))
      ≡ length (map (λ x. x.0) (filter (λ x. x.1.vdu == l.vdu) (enumerate_from 0 l.ports)));
  bound : l.count ≤ l.port-index;
}
