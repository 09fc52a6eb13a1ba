-- The first level that is out of step is among those that are left.
use Rattle.std.proofs.Common.{◌≡◌, map, drop, option_map}
use Rattle.vnfd_document.specs.Seen.{seen}
use Rattle.vnfd_reader.specs.Counted.{at_levels_refusal}
use Rattle.vnfd_reader.specs.CountsSeen.{aim_seen, counts_seen}
use Rattle.vnfd_reader.proofs.steps.refuse_levels.Given as goal

abbrev pub invariant-loop-level : goal.invariant-loop-level
invariant-loop-level l =
    at_levels_refusal (map counts_seen l.fn.table) (option_map (λ aims. map aim_seen aims.now) l.fn.aims) (map seen l.fn.levels)
    ≡ at_levels_refusal (map counts_seen l.table) (option_map (λ aims. map aim_seen aims.now) l.aims)
    (map seen (drop l.level-index l.levels))
