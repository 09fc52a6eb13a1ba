-- What was named, and those that are left and weren't named, are all.
use Rattle.std.proofs.Common.{drop, length, map, ◌++◌, ◌≡◌, ◌≤◌}
use Rattle.json_bodies.specs.Machines.{machine_named, machines_after, machines_named}
use Rattle.json_bodies.proofs.machines.machines_named.Given as goal

abbrev pub invariant-loop-text : goal.invariant-loop-text
invariant-loop-text l =
    (l.machines.items ++ machines_after l.machines.items (map (machine_named l.vnfd) (drop l.text-index l.texts))
    ≡ machines_named l.vnfd l.texts)
    × (length l.machines.items ≤ l.text-index)
