use Rattle.lcm_model.specs.Levels.{is_aspect}
use Rattle.std.proofs.Common.{drop, ◌≡◌}
use Rattle.std.specs.Prelude.{find, zip}
use Rattle.lcm_model.proofs.targets.aspect_of.Given as goal

abbrev pub invariant-loop-at : goal.invariant-loop-at
invariant-loop-at l = find (is_aspect l.name) (zip (drop l.at l.aspects) (drop l.at l.levels))
    ≡ find (is_aspect l.name) (zip l.aspects l.levels)
