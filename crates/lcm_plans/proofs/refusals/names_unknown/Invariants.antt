use Rattle.std.proofs.Common.{drop, not, ◌≡◌}
use Rattle.std.specs.List.{list_any}
use Rattle.lcm_model.specs.Refusals.{has_aspect}
use Rattle.lcm_plans.proofs.refusals.names_unknown.Given as goal

abbrev pub invariant-loop-x : goal.invariant-loop-x
invariant-loop-x l = list_any (λ x. not (has_aspect l.vnfd x.aspect)) (drop l.x-index l.named)
    ≡ list_any (λ x. not (has_aspect l.vnfd x.aspect)) l.named
