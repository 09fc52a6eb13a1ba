use Rattle.lcm_events.specs.Same.{same_name}
use Rattle.std.proofs.Common.{drop, ◌≡◌}
use Rattle.std.specs.Prelude.{find}
use Rattle.lcm_model.proofs.targets.level_named.Given as goal

abbrev pub invariant-loop-level : goal.invariant-loop-level
invariant-loop-level l = find (λ x. same_name x.name l.name) (drop l.level-index l.vnfd.levels)
    ≡ find (λ x. same_name x.name l.name) l.vnfd.levels
