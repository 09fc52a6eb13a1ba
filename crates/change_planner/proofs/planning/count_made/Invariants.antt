use Rattle.std.proofs.Common.{drop, ◌*◌, ◌+◌, ◌≡◌, ◌≤◌}
use Rattle.std.specs.List.{enumerate_from}
use Rattle.change_planner.specs.Rolls.{parts_made}
use Rattle.change_planner.proofs.planning.count_made.Given as goal

abbrev pub invariant-loop-vdu : goal.invariant-loop-vdu
invariant-loop-vdu l = record {
  counted : l.count + parts_made l.vnfd (enumerate_from l.vdu (drop l.vdu l.rolls)) ≡ parts_made l.vnfd (enumerate_from 0 l.rolls);
  bound : l.count ≤ l.vdu * 403720830975;
}
