use Rattle.std.proofs.Common.{drop, ◌≡◌}
use Rattle.occ_table.specs.Steps.{has_open_among}
use Rattle.occ_table.proofs.pending.is_open_in.Given as goal

abbrev pub invariant-loop-pending : goal.invariant-loop-pending
invariant-loop-pending l = has_open_among l.tag (drop l.pending-index l.entries) ≡ has_open_among l.tag l.entries
