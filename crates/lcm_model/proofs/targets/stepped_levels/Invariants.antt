use Rattle.lcm_model.specs.Levels.{at_aspect, moved_by}
use Rattle.std.proofs.Common.{drop, ◌++◌, ◌≡◌}
use Rattle.lcm_model.proofs.targets.stepped_levels.Given as goal

abbrev pub invariant-loop-at : goal.invariant-loop-at
invariant-loop-at l = l.moved.items ++ at_aspect (drop l.at l.aspects) l.name (moved_by l.way l.steps) (drop l.at l.levels)
    ≡ at_aspect l.aspects l.name (moved_by l.way l.steps) l.levels
