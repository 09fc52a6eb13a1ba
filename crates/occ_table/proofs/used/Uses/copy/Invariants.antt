use Rattle.std.proofs.Common.{◌≡◌, take}
use Rattle.occ_table.proofs.used.Uses.copy.Given as goal

abbrev pub invariant-loop-used : goal.invariant-loop-used
invariant-loop-used l = l.entries.items ≡ take l.used-index l.self
