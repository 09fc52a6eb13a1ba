use Rattle.lcm_events.specs.Descriptors.{is_rising}
use Rattle.std.proofs.Common.{drop, ◌-◌, ◌≡◌}
use Rattle.std.specs.Prelude.{nat_lt}
use Rattle.lcm_model.proofs.valid.are_rising.Given as goal

abbrev pub invariant-loop-at : goal.invariant-loop-at
invariant-loop-at l = is_rising nat_lt (drop (l.at - 1) l.numbers) ≡ is_rising nat_lt l.numbers
