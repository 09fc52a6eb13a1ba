use Rattle.std.proofs.Common.{drop, ◌≡◌}
use Rattle.std.specs.List.{list_any}
use Rattle.lcm_events.specs.Same.{same_name}
use Rattle.lcm_plans.proofs.refusals.is_aspect_among.Given as goal

abbrev pub invariant-loop-x : goal.invariant-loop-x
invariant-loop-x l = list_any (λ y. same_name y.aspect l.name) (drop l.x-index l.named) ≡ list_any (λ y. same_name y.aspect l.name) l.named
