use Rattle.std.proofs.Common.{drop, ◌≡◌}
use Rattle.std.specs.List.{list_any}
use Rattle.json_bodies.specs.Machines.{same_machine}
use Rattle.json_bodies.proofs.machines.is_among.Given as goal

abbrev pub invariant-loop-other : goal.invariant-loop-other
invariant-loop-other l = list_any (same_machine l.machine) (drop l.other-index l.machines) ≡ list_any (same_machine l.machine) l.machines
