-- The places found so far, and those that are left, are all.
use Rattle.std.proofs.Common.{◌≡◌, ◌++◌, drop, filter_map}
use Rattle.grant_desk.proofs.placing.those_found.Given as goal

abbrev pub invariant-loop-place : goal.invariant-loop-place
invariant-loop-place l = l.places.items ++ filter_map (λ place. place) (drop l.place-index l.found) ≡ filter_map (λ place. place) l.found
