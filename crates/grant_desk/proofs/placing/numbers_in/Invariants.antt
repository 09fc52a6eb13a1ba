-- The numbers so far, and those of the places that are left, are all.
use Rattle.lcm_model.specs.Grants.{place_number}
use Rattle.std.proofs.Common.{drop, ◌++◌, ◌≡◌, filter_map}
use Rattle.grant_desk.proofs.placing.numbers_in.Given as goal

abbrev pub invariant-loop-place : goal.invariant-loop-place
invariant-loop-place l = l.numbers.items ++ filter_map (place_number l.places) (drop l.place-index l.given)
    ≡ filter_map (place_number l.places) l.given
