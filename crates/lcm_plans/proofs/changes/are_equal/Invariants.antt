use Rattle.std.proofs.Common.{drop, ◌≡◌}
use Rattle.std.specs.Cmp.Lexicographic.{pointwise}
use Rattle.lcm_events.specs.Same.{same_change}
use Rattle.lcm_plans.proofs.changes.are_equal.Given as goal

abbrev pub invariant-loop-at : goal.invariant-loop-at
invariant-loop-at l = pointwise same_change (drop l.at l.a) (drop l.at l.b) ≡ pointwise same_change l.a l.b
