-- What was found, and the levels that are left, are all levels.
use Rattle.std.proofs.Common.{◌≡◌, ◌++◌, map, drop}
use Rattle.vnfd_document.specs.Seen.{seen}
use Rattle.vnfd_policies.specs.Levels.{level_of}
use Rattle.vnfd_policies.proofs.instantiation.each_level.Given as goal

abbrev pub invariant-loop-level : goal.invariant-loop-level
invariant-loop-level l =
    map (level_of (map seen l.fn.aspects)) (map seen l.fn.levels)
    ≡ l.found.items ++ map (level_of (map seen l.aspects)) (map seen (drop l.level-index l.levels))
