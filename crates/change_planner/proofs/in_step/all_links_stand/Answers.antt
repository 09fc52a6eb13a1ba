use Rattle.std.proofs.Common.{ap, length, ◌==◌, ◌∙◌}
use Rattle.std.specs.Prelude.{filter}
use Rattle.change_planner.specs.Rolls.{has_vdu}
use Rattle.change_planner.proofs.StepLaws.{links_step}
use Rattle.change_planner.proofs.in_step.all_links_stand.Goals as goal

pub returns : goal.returns
returns c =
    ap (λ n. length c.items_of_vdu.result.now == n) c.len.ensures
    ∙ links_step c.args.vnfd.now c.args.holding.now _ c.requires.valid c.requires.held
    (c.items_of_vdu.ensures ∙ ap (filter (has_vdu 65535)) c.as_slice.ensures)
