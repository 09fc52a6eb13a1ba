-- The machine is one of the VDUs that are left.
use Rattle.std.proofs.Common.{drop, ◌≡◌}
use Rattle.std.specs.List.{enumerate_from}
use Rattle.std.specs.Prelude.{filter_map, slice_get}
use Rattle.json_bodies.specs.Machines.{machine_of}
use Rattle.json_bodies.proofs.machines.machine_in.Given as goal

abbrev pub invariant-loop-number : goal.invariant-loop-number
invariant-loop-number l =
    slice_get (filter_map (machine_of l.text) (enumerate_from l.number (drop l.number l.vdus))) 0
    ≡ slice_get (filter_map (machine_of l.text) (enumerate_from 0 l.vdus)) 0
