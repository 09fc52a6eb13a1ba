use Rattle.std.proofs.Common.{drop, find, ◌≡◌}
use Rattle.lcm_events.specs.Same.{same_name}
use Rattle.lcm_model.specs.Refusals.{aspect_named}
use Rattle.lcm_plans.proofs.refusals.aspect_in.Given as goal

abbrev pub invariant-loop-aspect : goal.invariant-loop-aspect
invariant-loop-aspect l = find (λ a. same_name a.name l.name) (drop l.aspect-index l.vnfd.aspects) ≡ aspect_named l.vnfd l.name
