use Rattle.lcm_model.specs.Grants.{places_at}
use Rattle.std.proofs.Common.{drop, ◌++◌, ◌≡◌}
use Rattle.lcm_model.proofs.grants.places_named.Given as goal

abbrev pub invariant-loop-spot : goal.invariant-loop-spot
invariant-loop-spot l = l.named.items ++ places_at l.places (drop l.spot-index l.spots) ≡ places_at l.places l.spots
