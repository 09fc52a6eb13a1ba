-- What was found, and the numbers of the aspects that are left, are those of all.
use Rattle.std.proofs.Common.{◌≡◌, ◌++◌, map, drop}
use Rattle.serde_json.specs.View.{view}
use Rattle.vnfd_document.specs.Seen.{seen}
use Rattle.vnfd_policies.specs.Levels.{number_at}
use Rattle.vnfd_policies.proofs.instantiation.level_of.Given as goal

abbrev pub invariant-loop-aspect : goal.invariant-loop-aspect
invariant-loop-aspect l =
    map (number_at (view l.fn.level.value.now)) (map seen l.fn.aspects)
    ≡ l.numbers.items ++ map (number_at (view l.level.value.now)) (map seen (drop l.aspect-index l.aspects))
