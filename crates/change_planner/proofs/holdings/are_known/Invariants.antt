use Rattle.std.proofs.Common.{drop, ◌≡◌}
use Rattle.std.specs.List.{list_all}
use Rattle.lcm_model.specs.Descriptors.{is_def_up_to}
use Rattle.change_planner.proofs.holdings.are_known.Given as goal

abbrev pub invariant-loop-item : goal.invariant-loop-item
invariant-loop-item l =
    list_all (λ x. is_def_up_to l.vnfd l.tops x.def) (drop l.item-index l.items) ≡ list_all (λ x. is_def_up_to l.vnfd l.tops x.def) l.items
