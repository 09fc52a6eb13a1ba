use Rattle.std.proofs.Common.{arith, ◌∙◌, sym, ap}
use Rattle.std.specs.Prelude.{set}
use Rattle.instance_table.specs.declared.rows.InstanceRow.{InstanceRow}
use Rattle.instance_table.proofs.Sorted.{key_holds, not_within, update-past, update-set}
use Rattle.instance_table.specs.Steps.{HasItemRoom, after_work}
use Rattle.instance_table.proofs.instances.work_at.Goals as goal

pub returns-in-Some : goal.returns-in-Some
returns-in-Some c = λ room.
    let rows = c.args.rows.now.items in
    let row : InstanceRow = c.in-Some.row.now in
    ap (λ (r : InstanceRow). set rows c.args.at r)
    (c.follow_work.ensures (key_holds (λ r. r.number) c.args.work.now.instance (HasItemRoom c.args.editor.now) rows c.args.at row
    (c.in-Some.ensures.item.3.0) (c.in-Some.ensures.item.1) room))
    ∙ update-set (after_work c.args.work.now) c.args.at rows row (c.in-Some.ensures.item.3.0) (c.in-Some.ensures.item.1)

pub returns-in-None : goal.returns-in-None
returns-in-None c = λ room.
    sym (update-past (after_work c.args.work.now) c.args.at c.args.rows.now.items
    (not_within c.args.at _ (λ h. c.in-None.ensures.variant.1 (omega (arith, h, c.args.rows.now.ok.0)))))
