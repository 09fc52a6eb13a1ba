use Rattle.lcm_model.specs.Descriptors.{is_valid_level}
use Rattle.std.proofs.Common.{drop, ◌≡◌}
use Rattle.std.specs.List.{list_all}
use Rattle.lcm_model.proofs.valid.are_all_levels_valid.Given as goal

abbrev pub invariant-loop-level : goal.invariant-loop-level
invariant-loop-level l = list_all (is_valid_level l.vnfd) (drop l.level-index l.vnfd.levels)
    ≡ list_all (is_valid_level l.vnfd) l.vnfd.levels
