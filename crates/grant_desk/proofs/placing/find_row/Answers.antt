-- A row that finds nothing new.
use Rattle.std.proofs.Common.{◌<◌, arith, refl, length}
use Rattle.grant_desk.proofs.PlacingLaws.{found_before, not_asked, row_found}
use Rattle.grant_desk.proofs.placing.find_row.Goals as goal
use Rattle.grant_desk.proofs.placing.find_row.Goals.{else-asks-via-then-asks+else-is_none, else-asks-via-else-asks}

pub returns-else-asks : goal.returns-else-asks
returns-else-asks c =
    let within : c.in-Some.number < length c.args.changes.now = c.if-number-changes.false in
    row_found c.args.part c.args.row.now c.args.changes.now c.args.found.now c.args.found.now c.in-Some.number refl c.in-Some.ensures.read
    c.in-Some.ensures.found.1 (omega arith) (λ k other. refl)
    (λ x. elim c.else-asks.branch [
      | else-asks-via-then-asks+else-is_none w ↦ found_before _ w.is_none.result c.args.found.now c.in-Some.number _ c.args.row.now.1
          (omega arith) w.is_none.ensures w.if-is_none.false
      | else-asks-via-else-asks w ↦ not_asked c.args.part c.args.changes.now c.in-Some.number _ x _ c.args.row.now.1 c.asks.result within
          c.asks.ensures w.if-asks.false
    ])
