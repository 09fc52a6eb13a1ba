use Rattle.lcm_model.specs.Levels.{at_aspect, to_level}
use Rattle.std.proofs.Common.{drop, ◌++◌, ◌≡◌}
use Rattle.lcm_model.proofs.targets.replaced_levels.Given as goal

abbrev pub invariant-loop-at : goal.invariant-loop-at
invariant-loop-at l = l.replaced.items ++ at_aspect (drop l.at l.aspects) l.name (to_level l.level) (drop l.at l.levels)
    ≡ at_aspect l.aspects l.name (to_level l.level) l.levels
