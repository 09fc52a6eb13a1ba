-- What was found, and the counts of the VDUs that are left, are those of all.
use Rattle.std.proofs.Common.{◌≡◌, ◌++◌, map, drop}
use Rattle.std.specs.List.{enumerate_from}
use Rattle.lcm_model.specs.Levels.{count}
use Rattle.vnfd_document.specs.Seen.{seen}
use Rattle.vnfd_reader.specs.Counted.{counts_at}
use Rattle.vnfd_reader.proofs.counts.counts_at.Given as goal

abbrev pub invariant-loop-vdu : goal.invariant-loop-vdu
invariant-loop-vdu l = record {
  counts : counts_at l.fn.vnfd (map seen l.fn.vdus) l.fn.levels
      ≡ l.found.items ++ map (λ x. count l.vnfd x.0 l.levels) (enumerate_from l.place (map seen (drop l._vdu-index l.vdus)));
  place : l.place ≡ l._vdu-index;
}
