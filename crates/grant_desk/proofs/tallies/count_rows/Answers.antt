-- One row more is counted.
use Rattle.std.proofs.Common.{sym, ◌∙◌}
use Rattle.grant_desk.proofs.TallyLaws.{none_tallied, tallied_more}
use Rattle.grant_desk.proofs.tallies.count_rows.Goals as goal

pub loop-row-init : goal.loop-row-init
loop-row-init c = (c.clear.ensures.length, none_tallied c.args.first c.clear.new.counts c.clear.ensures.none)

pub loop-row-preserved : goal.loop-row-preserved
loop-row-preserved c = (
  c.count_row.ensures.length ∙ c.loop-row.invariant.0,
  tallied_more c.args.rows.now c.loop-row.row-index c.args.first c.row-item.result _ _ c.loop-row-test.true
      (sym c.row-item.is) c.loop-row.invariant.1
      c.count_row.ensures.length c.count_row.ensures.counted,
)
