-- The location is that of the row.
use Rattle.std.proofs.Common.{◌∙◌}
use Rattle.occ_steps.proofs.StepLemmas.{location_of_row, polled_row}
use Rattle.occ_work.proofs.steps.location_of.Goals as goal

pub unreachable-requires : goal.unreachable-requires
unreachable-requires g c =
    let it = c.requires.polls in
    polled_row it.0 _ _ it.2 (c.row_of.ensures.row it.0 it.1 it.2) it.3 c.in-None.is

pub returns : goal.returns
returns g c = λ H keeps is. location_of_row H _ _ is (c.row_of.ensures.row H keeps is) ∙ c.in-Some.is
