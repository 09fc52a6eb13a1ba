use Rattle.std.proofs.Common.{drop, not, ◌++◌, ◌≡◌}
use Rattle.std.specs.Prelude.{filter}
use Rattle.lcm_model.specs.Words.{is_among}
use Rattle.change_planner.proofs.plans.without.Given as goal

abbrev pub invariant-loop-number : goal.invariant-loop-number
invariant-loop-number l = l.missing.items ++ filter (λ n. not (is_among l.held n)) (drop l.number-index l.numbers)
    ≡ filter (λ n. not (is_among l.held n)) l.numbers
