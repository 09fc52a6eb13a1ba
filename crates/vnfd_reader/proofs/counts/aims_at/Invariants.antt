-- What was found, and the places of the targets that are left, are those of all.
use Rattle.std.proofs.Common.{◌≡◌, ◌++◌, map, drop}
use Rattle.vnfd_document.specs.Seen.{seen}
use Rattle.vnfd_reader.specs.Counted.{aim_at}
use Rattle.vnfd_reader.specs.CountsSeen.{aim_seen}
use Rattle.vnfd_reader.proofs.counts.aims_at.Given as goal

abbrev pub invariant-loop-target : goal.invariant-loop-target
invariant-loop-target l =
    map (aim_at (map seen l.fn.vdus)) (map (λ t. t.now) l.fn.targets)
    ≡ map aim_seen l.found.items ++ map (aim_at (map seen l.vdus)) (map (λ t. t.now) (drop l.target-index l.targets))
