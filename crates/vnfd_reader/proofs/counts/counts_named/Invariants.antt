-- The first level of all with this name is the first of those that are left.
use Rattle.std.proofs.Common.{◌≡◌, map, drop, option_map, find}
use Rattle.lcm_events.specs.Same.{same_name}
use Rattle.vnfd_reader.specs.CountsSeen.{counts_seen}
use Rattle.vnfd_reader.proofs.counts.counts_named.Given as goal

abbrev pub invariant-loop-level : goal.invariant-loop-level
invariant-loop-level l =
    option_map (λ x. x.1) (find (λ x. same_name x.0 l.fn.name) (map counts_seen l.fn.table))
    ≡ option_map (λ x. x.1) (find (λ x. same_name x.0 l.name) (map counts_seen (drop l.level-index l.table)))
