use Rattle.std.proofs.Common.{arith}
use Rattle.occ_table.proofs.PhaseLaws.{phases-next}
use Rattle.occ_table.proofs.phases.count_phases.Goals as goal

pub loop-change-preserved : goal.loop-change-preserved
loop-change-preserved c =
    phases-next c.args.changes.now c.loop-change.change-index _ _ _ c.raise.ensures c.loop-change.invariant (omega arith)
