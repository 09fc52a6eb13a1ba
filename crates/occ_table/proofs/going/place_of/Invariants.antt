use Rattle.std.proofs.Common.{drop, ◌+◌, ◌≡◌}
use Rattle.occ_table.specs.Going.{first_from}
use Rattle.occ_table.proofs.going.place_of.Given as goal

abbrev pub invariant-loop-at : goal.invariant-loop-at
invariant-loop-at l = l.at + first_from l.number (drop l.at l.numbers) ≡ first_from l.number l.numbers
