-- What was found, and the counts of the levels that are left, are those of all; and the levels that are left are valid.
use Rattle.std.proofs.Common.{◌≡◌, ◌++◌, map, drop, true}
use Rattle.std.specs.List.{list_all}
use Rattle.lcm_model.specs.Descriptors.{is_valid_level}
use Rattle.vnfd_document.specs.Seen.{seen}
use Rattle.vnfd_reader.specs.Counted.{counted, counts_at}
use Rattle.vnfd_reader.specs.CountsSeen.{counts_seen}
use Rattle.vnfd_reader.proofs.counts.counted.Given as goal

abbrev pub invariant-loop-level : goal.invariant-loop-level
invariant-loop-level l = record {
  counts : counted l.fn.vnfd (map seen l.fn.vdus)
      ≡ map counts_seen l.found.items ++ map (λ x. (x.name, counts_at l.vnfd (map seen l.vdus) x.numbers))
      (drop l.level-index l.vnfd.levels);
  valid : list_all (is_valid_level l.vnfd) (drop l.level-index l.vnfd.levels) ≡ true;
}
