use Rattle.std.proofs.Common.{◌∙◌}
use Rattle.instance_table.proofs.Sorted.{found}
use Rattle.instance_table.proofs.instances.instance_in.Goals as goal

pub returns : goal.returns
returns c = λ rises.
    c.instance_at.ensures ∙ found (λ r. r.number) c.args.number c.args.rows.now c.instance_place-at.result rises
    c.instance_place-at.ensures.bound c.instance_place-at.ensures.place
