use Rattle.std.proofs.Common.{drop, ◌≡◌}
use Rattle.occ_table.specs.Steps.{has_open_at}
use Rattle.occ_table.proofs.pending.has_open_in.Given as goal

abbrev pub invariant-loop-pending : goal.invariant-loop-pending
invariant-loop-pending l = has_open_at l.change (drop l.pending-index l.entries) ≡ has_open_at l.change l.entries
