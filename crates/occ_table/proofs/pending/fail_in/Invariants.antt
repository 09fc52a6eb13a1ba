use Rattle.std.proofs.Common.{◌≡◌, ◌++◌, drop, map, take}
use Rattle.occ_table.specs.Steps.{failed_by}
use Rattle.occ_table.proofs.pending.fail_in.Given as goal

abbrev pub invariant-loop-pending : goal.invariant-loop-pending
invariant-loop-pending l =
    take l.pending-index l.entries ++ map (failed_by l.tag) (drop l.pending-index l.entries) ≡ map (failed_by l.tag) l.initial.entries
