use Rattle.std.proofs.Common.{drop, ◌≡◌}
use Rattle.lcm_model.specs.Refusals.{names_twice}
use Rattle.lcm_plans.proofs.refusals.is_named_twice.Given as goal

abbrev pub invariant-loop-at : goal.invariant-loop-at
invariant-loop-at l = names_twice (drop l.at l.named) ≡ names_twice l.named
