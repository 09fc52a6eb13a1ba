use Rattle.lcm_model.specs.Grants.{distinct_places, places_after}
use Rattle.std.proofs.Common.{drop, ◌++◌, ◌≡◌}
use Rattle.lcm_model.proofs.grants.each_once.Given as goal

abbrev pub invariant-loop-place : goal.invariant-loop-place
invariant-loop-place l = l.seen.items ++ places_after l.seen.items (drop l.place-index l.places) ≡ distinct_places l.places
