use Rattle.std.proofs.Common.{drop, ◌≡◌}
use Rattle.std.specs.List.{list_any}
use Rattle.lcm_model.specs.Refusals.{is_above}
use Rattle.lcm_plans.proofs.refusals.names_above.Given as goal

abbrev pub invariant-loop-x : goal.invariant-loop-x
invariant-loop-x l = list_any (is_above l.vnfd) (drop l.x-index l.named) ≡ list_any (is_above l.vnfd) l.named
