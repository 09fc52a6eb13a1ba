use Rattle.std.proofs.Common.{◌≡◌, None, replicate}
use Rattle.occ_table.proofs.used.Uses.none.Given as goal

abbrev pub invariant-loop : goal.invariant-loop
invariant-loop l = l.entries.items ≡ replicate l.counter None
