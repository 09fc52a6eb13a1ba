use Rattle.std.proofs.Common.{drop, ◌≡◌}
use Rattle.std.specs.List.{list_all}
use Rattle.std.specs.Prelude.{nat_lt}
use Rattle.change_planner.proofs.holdings.are_small.Given as goal

abbrev pub invariant-loop-top : goal.invariant-loop-top
invariant-loop-top l =
    list_all (λ n. nat_lt n 2147483648) (drop l.top-index l.tops) ≡ list_all (λ n. nat_lt n 2147483648) l.tops
