use Rattle.std.proofs.Common.{◌∙◌, Option, refl, subst, sym}
use Rattle.std.specs.Prelude.{IfSome}
use Rattle.instance_table.specs.declared.rows.InstanceRow.{InstanceRow}
use Rattle.instance_table.specs.Steps.{HasItemRoom, after_work}
use Rattle.instance_table.proofs.Sorted.{changed_one, found_at}
use Rattle.instance_table.proofs.instances.work_among.Goals as goal

pub returns : goal.returns
returns c = λ rises room.
    let n = c.args.work.now.instance in
    c.work_at.ensures
    (subst (λ (y : Option InstanceRow). IfSome y (HasItemRoom c.args.editor.now))
    (sym (found_at (λ r. r.number) n c.args.rows.now.items c.as_slice.result.now c.instance_place-at.result c.as_slice.ensures.value rises
    c.instance_place-at.ensures.bound c.instance_place-at.ensures.place))
    room)
    ∙ changed_one (λ r. r.number) n (after_work c.args.work.now) c.args.rows.now.items c.as_slice.result.now c.instance_place-at.result
    c.as_slice.ensures.value rises
    (λ r other. rw other refl) c.instance_place-at.ensures.bound c.instance_place-at.ensures.place
