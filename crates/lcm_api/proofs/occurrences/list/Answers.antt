-- The rows of a legal history can be shown.
use Rattle.std.proofs.Common.{arith}
use Rattle.lcm_model.specs.Work.{window}
use Rattle.lcm_api.proofs.occurrences.list.Goals as goal

pub occurrences_view-requires : goal.occurrences_view-requires
occurrences_view-requires g c =
    let H = c.requires.kept.0 in
    let keeps = c.requires.kept.1 in
    let few = c.instances.ensures.few H keeps in
    (c.legal_occurrences_can_be_shown.ensures window _ H _ _ (omega (arith, few)) keeps.kept.legal (c.instances.ensures.rows H keeps)
    (c.occurrences.ensures.table H keeps).rows).all
