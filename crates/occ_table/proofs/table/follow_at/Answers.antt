use Rattle.std.proofs.Common.{arith, ◌∙◌, sym, ap, None}
use Rattle.std.specs.Prelude.{set}
use Rattle.occ_table.specs.declared.rows.OccRow.{OccRow}
use Rattle.occ_table.proofs.Updates.{not_within, update-past, update-set}
use Rattle.occ_table.specs.Steps.{row_after}
use Rattle.occ_table.proofs.table.follow_at.Goals as goal

pub returns-in-Some-clause-items : goal.returns-in-Some-clause-items
returns-in-Some-clause-items c =
    let rows = c.args.rows.now.items in
    let row : OccRow = c.in-Some.row.now in
    ap (λ (r : OccRow). set rows c.args.at r) c.follow.ensures
    ∙ update-set (row_after c.args.moment None c.args.kind.now) c.args.at rows row (c.in-Some.ensures.item.3.0) (c.in-Some.ensures.item.1)

pub returns-in-None-clause-items : goal.returns-in-None-clause-items
returns-in-None-clause-items c =
    sym (update-past (row_after c.args.moment None c.args.kind.now) c.args.at c.args.rows.now.items
    (not_within c.args.at _ (λ h. c.in-None.ensures.variant.1 (omega (arith, h, c.args.rows.now.ok.0)))))
