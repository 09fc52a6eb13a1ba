use Rattle.lcm_model.specs.Descriptors.{are_sorted}
use Rattle.lcm_events.specs.Descriptors.{is_name_before, is_rising}
use Rattle.std.proofs.Common.{drop, ◌-◌, ◌≡◌}
use Rattle.std.specs.Prelude.{map}
use Rattle.lcm_model.proofs.valid.are_sorted_names.Given as goal

abbrev pub invariant-loop-at : goal.invariant-loop-at
invariant-loop-at g l = is_rising is_name_before (map g.T.Named.name_of (drop (l.at - 1) l.things))
    ≡ are_sorted (map g.T.Named.name_of l.things)
