-- The first of all levels that is refused is the first of those that are left.
use Rattle.std.proofs.Common.{◌≡◌, map, drop}
use Rattle.vnfd_document.specs.Checks.{first_failing}
use Rattle.vnfd_document.specs.Seen.{seen}
use Rattle.vnfd_policies.specs.Levels.{level_refusal}
use Rattle.vnfd_policies.proofs.instantiation.refuse_each.Given as goal

abbrev pub invariant-loop-level : goal.invariant-loop-level
invariant-loop-level l =
    first_failing (λ x. level_refusal (map seen l.fn.aspects) x.1) (map seen l.fn.levels)
    ≡ first_failing (λ x. level_refusal (map seen l.aspects) x.1) (map seen (drop l.level-index l.levels))
