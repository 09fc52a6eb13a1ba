use Rattle.lcm_events.specs.Descriptors.{is_rising}
use Rattle.std.proofs.Common.{drop, ◌-◌, ◌≡◌}
use Rattle.std.specs.Prelude.{map, nat_lt}
use Rattle.lcm_model.proofs.valid.are_rows_rising.Given as goal

abbrev pub invariant-loop-at : goal.invariant-loop-at
invariant-loop-at l = is_rising nat_lt (map (λ r. r.vdu) (drop (l.at - 1) l.rows)) ≡ is_rising nat_lt (map (λ r. r.vdu) l.rows)
