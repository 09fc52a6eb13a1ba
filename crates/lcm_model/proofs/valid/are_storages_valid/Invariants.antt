use Rattle.lcm_model.specs.Descriptors.{is_valid_storage}
use Rattle.std.proofs.Common.{drop, ◌≡◌}
use Rattle.std.specs.List.{list_all}
use Rattle.lcm_model.proofs.valid.are_storages_valid.Given as goal

abbrev pub invariant-loop-storage : goal.invariant-loop-storage
invariant-loop-storage l = list_all (is_valid_storage) (drop l.storage-index l.vnfd.storages) ≡ list_all (is_valid_storage) l.vnfd.storages
