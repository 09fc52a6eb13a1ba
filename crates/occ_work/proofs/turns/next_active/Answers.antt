-- The table's answer is that of the history.
use Rattle.lcm_model.specs.Work.{window}
use Rattle.occ_work.proofs.OrderLemmas.{above_one}
use Rattle.occ_work.proofs.turns.next_active.Goals as goal

pub returns-clause-next : goal.returns-clause-next
returns-clause-next g c = λ H keeps. c.next_active.ensures.follows window _ H keeps.kept.legal (c.occurrences.ensures.table H keeps).active

pub returns-clause-above : goal.returns-clause-above
returns-clause-above g c =
    let kept = c.requires.kept in
    above_one _ _ _ (c.next_active.ensures.follows window _ kept.0 kept.1.kept.legal (c.occurrences.ensures.table kept.0 kept.1).active)
