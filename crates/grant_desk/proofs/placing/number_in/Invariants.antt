-- The place is among those that are left, counted from here, or nowhere.
use Rattle.lcm_model.specs.Grants.{place_number}
use Rattle.std.proofs.Common.{drop, ◌+◌, ◌≡◌}
use Rattle.std.specs.Prelude.{option_map}
use Rattle.grant_desk.proofs.placing.number_in.Given as goal

abbrev pub invariant-loop-number : goal.invariant-loop-number
invariant-loop-number l = place_number l.places l.place ≡ option_map (λ n. n + l.number) (place_number (drop l.number l.places) l.place)
