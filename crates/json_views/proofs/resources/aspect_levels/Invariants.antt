-- The levels that were taken, and those of the aspects that are left, are all.
use Rattle.std.proofs.Common.{◌≡◌, ◌++◌, map}
use Rattle.std.specs.Prelude.{zip}
use Rattle.json_views.specs.Resources.{level_of}
use Rattle.json_views.proofs.resources.aspect_levels.Given as goal

abbrev pub invariant-loop-aspect : goal.invariant-loop-aspect
invariant-loop-aspect l =
    map level_of (zip l.fn.vnfd.aspects l.fn.holding.levels) ≡ l.levels.items
    ++ map level_of (zip l.aspect-iterator.a.rest.now l.aspect-iterator.b.rest.now)
