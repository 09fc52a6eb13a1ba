use Rattle.std.proofs.Common.{drop, not, ◌≡◌, ◌||◌, ◌==◌}
use Rattle.std.specs.List.{enumerate_from, list_all}
use Rattle.occ_table.specs.Phases.{goes_first, is_clear}
use Rattle.occ_table.proofs.phases.are_clear.Given as goal

abbrev pub invariant-loop-at : goal.invariant-loop-at
invariant-loop-at l =
    list_all (λ x. not (goes_first l.way l.phase x.0) || (x.1 == 0)) (enumerate_from l.at (drop l.at l.counts))
    ≡ is_clear l.way l.phase l.counts
