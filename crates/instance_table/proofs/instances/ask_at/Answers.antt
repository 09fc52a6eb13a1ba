use Rattle.std.proofs.Common.{arith, ◌∙◌, sym, ap}
use Rattle.std.specs.Prelude.{set}
use Rattle.instance_table.specs.declared.rows.InstanceRow.{InstanceRow}
use Rattle.instance_table.proofs.Sorted.{not_within, update-past, update-set}
use Rattle.instance_table.specs.Steps.{asked}
use Rattle.instance_table.proofs.instances.ask_at.Goals as goal

pub returns-in-Some-clause-items : goal.returns-in-Some-clause-items
returns-in-Some-clause-items c =
    let rows = c.args.rows.now.items in
    let row : InstanceRow = c.in-Some.row.now in
    ap (λ (r : InstanceRow). set rows c.args.at r) c.follow_ask.ensures
    ∙ update-set (asked c.args.number c.args.changes.now) c.args.at rows row (c.in-Some.ensures.item.3.0) (c.in-Some.ensures.item.1)

pub returns-in-None-clause-items : goal.returns-in-None-clause-items
returns-in-None-clause-items c =
    sym (update-past (asked c.args.number c.args.changes.now) c.args.at c.args.rows.now.items
    (not_within c.args.at _ (λ h. c.in-None.ensures.variant.1 (omega (arith, h, c.args.rows.now.ok.0)))))
