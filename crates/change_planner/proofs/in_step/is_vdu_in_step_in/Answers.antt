use Rattle.std.proofs.Common.{ap, ◌∙◌}
use Rattle.std.specs.Prelude.{filter}
use Rattle.change_planner.specs.Rolls.{has_vdu}
use Rattle.change_planner.proofs.StepLaws.{machines_few, vdu_steps}
use Rattle.change_planner.proofs.in_step.is_vdu_in_step_in.Goals as goal

pub are_as_meant-requires-clause-few : goal.are_as_meant-requires-clause-few
are_as_meant-requires-clause-few c =
    machines_few c.args.vnfd.now c.args.holding.now c.args.vdu _ c.requires.held
    (c.items_of_vdu-items.ensures ∙ ap (filter (has_vdu c.args.vdu)) c.as_slice.ensures)

pub returns : goal.returns
returns c =
    c.are_as_meant.ensures
    ∙ rw (c.count_in-count.ensures.value, c.size_of_machine-size.ensures.value, c.as_slice-2.ensures)
    (vdu_steps c.args.vnfd.now c.args.holding.now c.args.vdu _ c.requires.valid c.requires.held c.requires.known
    (c.items_of_vdu-items.ensures ∙ ap (filter (has_vdu c.args.vdu)) c.as_slice.ensures))
