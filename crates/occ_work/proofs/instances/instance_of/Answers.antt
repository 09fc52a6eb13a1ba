-- The row of a live instance is in the table.
use Rattle.std.proofs.Common.{sym}
use Rattle.lcm_model.specs.Work.{window}
use Rattle.occ_work.proofs.RequestLemmas.{its_instance_lives, row_there}
use Rattle.occ_work.proofs.instances.instance_of.Goals as goal

pub unreachable-requires : goal.unreachable-requires
unreachable-requires g c =
    let it = c.requires.active in
    let H = it.0 in
    let legal = it.2.kept.legal in
    row_there H _ (its_instance_lives _ H _ _ legal it.3 it.4) (sym
    (rw c.in-None.is at (c.instance.ensures.finds window _ H legal (c.instances.ensures.rows H it.2))))

pub returns : goal.returns
returns g c = λ H keeps occ is found. sym (rw c.in-Some.is at (c.instance.ensures.finds window _ H keeps.kept.legal
    (c.instances.ensures.rows H keeps)))
