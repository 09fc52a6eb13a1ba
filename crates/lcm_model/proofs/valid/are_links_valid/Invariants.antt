use Rattle.lcm_model.specs.Descriptors.{is_given}
use Rattle.std.proofs.Common.{drop, ◌≡◌}
use Rattle.std.specs.List.{list_all}
use Rattle.lcm_model.proofs.valid.are_links_valid.Given as goal

abbrev pub invariant-loop-link : goal.invariant-loop-link
invariant-loop-link l = list_all (is_given) (drop l.link-index l.vnfd.links) ≡ list_all (is_given) l.vnfd.links
