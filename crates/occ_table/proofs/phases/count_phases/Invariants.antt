use Rattle.std.proofs.Common.{take, ◌≡◌}
use Rattle.occ_table.specs.Phases.{in_phases}
use Rattle.occ_table.proofs.phases.count_phases.Given as goal

abbrev pub invariant-loop-change : goal.invariant-loop-change
invariant-loop-change l = l.counts ≡ in_phases (take l.change-index l.changes)
