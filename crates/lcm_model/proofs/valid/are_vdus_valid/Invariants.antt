use Rattle.lcm_model.specs.Descriptors.{is_valid_vdu}
use Rattle.std.proofs.Common.{drop, ◌≡◌}
use Rattle.std.specs.List.{list_all}
use Rattle.lcm_model.proofs.valid.are_vdus_valid.Given as goal

abbrev pub invariant-loop-vdu : goal.invariant-loop-vdu
invariant-loop-vdu l = list_all (is_valid_vdu l.vnfd) (drop l.vdu-index l.vnfd.vdus) ≡ list_all (is_valid_vdu l.vnfd) l.vnfd.vdus
