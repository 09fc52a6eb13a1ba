-- The next action is that of the row, whose numbers fit a tag.
use Rattle.std.proofs.Common.{Some, ap, sym, ◌∙◌}
use Rattle.occ_steps.proofs.StepLemmas.{next_of_row, row_fits}
use Rattle.occ_work.proofs.steps.next_step.Goals as goal

pub step_by-requires : goal.step_by-requires
step_by-requires g c =
    let it = c.requires.active in
    row_fits c.plans_are_small.ensures _ it.0 _ _ it.1.kept.legal (c.row_of.ensures.few it.0 it.1) (c.row_of.ensures.row it.0 it.1 it.2)

pub returns : goal.returns
returns g c = λ H keeps is. next_of_row H _ _ is (c.row_of.ensures.row H keeps is) ∙ ap Some (sym c.step_by.ensures)
