-- One row more.
use Rattle.std.proofs.Common.{sym}
use Rattle.grant_desk.proofs.PlacingLaws.{found_more}
use Rattle.grant_desk.proofs.placing.find_rows.Goals as goal

pub loop-row-preserved : goal.loop-row-preserved
loop-row-preserved c =
    found_more c.args.part c.args.rows.now c.loop-row.row-index c.row-item.result c.args.changes.now _ _ _ c.loop-row-test.true
    (sym c.row-item.is) c.loop-row.invariant
    c.find_row.ensures
