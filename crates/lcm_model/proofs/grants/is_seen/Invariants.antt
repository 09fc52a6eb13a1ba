use Rattle.lcm_model.specs.Grants.{same_place}
use Rattle.std.proofs.Common.{drop, ◌≡◌}
use Rattle.std.specs.List.{list_any}
use Rattle.lcm_model.proofs.grants.is_seen.Given as goal

abbrev pub invariant-loop-other : goal.invariant-loop-other
invariant-loop-other l = list_any (same_place l.place) (drop l.other-index l.seen) ≡ list_any (same_place l.place) l.seen
