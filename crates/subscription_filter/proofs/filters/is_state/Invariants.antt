use Rattle.std.proofs.Common.{drop, ◌≡◌}
use Rattle.std.specs.List.{list_any}
use Rattle.lcm_events.specs.Same.{same_state}
use Rattle.subscription_filter.proofs.filters.is_state.Given as goal

abbrev pub invariant-loop-other : goal.invariant-loop-other
invariant-loop-other l = list_any (same_state l.state) (drop l.other-index l.states) ≡ list_any (same_state l.state) l.states
