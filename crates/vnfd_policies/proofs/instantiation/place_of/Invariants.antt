-- The place among all levels is the one among those that are left, which begin at this place.
use Rattle.std.proofs.Common.{◌≡◌, map, drop}
use Rattle.std.specs.List.{position_from}
use Rattle.std.specs.Str.{bytes_eq}
use Rattle.vnfd_document.specs.Seen.{seen}
use Rattle.vnfd_policies.proofs.instantiation.place_of.Given as goal

abbrev pub invariant-loop-level : goal.invariant-loop-level
invariant-loop-level l = record {
  found : position_from (λ x. bytes_eq x.0 l.fn.name) 0 (map seen l.fn.levels)
      ≡ position_from (λ x. bytes_eq x.0 l.name) l.place (map seen (drop l.level-index l.levels));
  place : l.place ≡ l.level-index;
}
