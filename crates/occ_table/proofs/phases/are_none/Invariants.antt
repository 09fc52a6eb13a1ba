use Rattle.std.proofs.Common.{drop, ◌≡◌}
use Rattle.occ_table.specs.Phases.{none_counted}
use Rattle.occ_table.proofs.phases.are_none.Given as goal

abbrev pub invariant-loop-count : goal.invariant-loop-count
invariant-loop-count l = none_counted (drop l.count-index l.counts) ≡ none_counted l.counts
