use Rattle.lcm_model.specs.Descriptors.{is_valid_aspect}
use Rattle.std.proofs.Common.{drop, ◌≡◌}
use Rattle.std.specs.List.{list_all}
use Rattle.lcm_model.proofs.valid.are_aspects_valid.Given as goal

abbrev pub invariant-loop-aspect : goal.invariant-loop-aspect
invariant-loop-aspect l = list_all (is_valid_aspect l.vnfd) (drop l.aspect-index l.vnfd.aspects)
    ≡ list_all (is_valid_aspect l.vnfd) l.vnfd.aspects
