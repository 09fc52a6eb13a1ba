use Rattle.std.proofs.Common.{◌∙◌, refl}
use Rattle.instance_table.specs.Steps.{ended}
use Rattle.instance_table.proofs.Sorted.{changed_one}
use Rattle.instance_table.proofs.instances.end_in.Goals as goal

pub returns-clause-items : goal.returns-clause-items
returns-clause-items c = λ rises.
    c.end_at.ensures.items
    ∙ changed_one (λ r. r.number) c.args.number (ended c.args.number c.args.end_effect c.args.aim) c.args.rows.now.items
    c.as_slice.result.now c.instance_place-at.result c.as_slice.ensures.value rises
    (λ r other. rw other refl) c.instance_place-at.ensures.bound c.instance_place-at.ensures.place
