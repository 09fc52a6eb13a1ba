-- Each change that is made comes next.
use Rattle.std.proofs.Common.{arith, length, sym}
use Rattle.json_views.specs.Affected.{affected, made_at}
use Rattle.json_views.proofs.RangeLemmas.{none_here, one_here}
use Rattle.json_views.proofs.affected.changes_made.Goals as goal
use Rattle.json_views.proofs.affected.changes_made.Goals.{in-Some+in_ok-push-in-Some, in-None}

pub loop-number-preserved : goal.loop-number-preserved
loop-number-preserved c = elim c.match-made_at.branch [
  | in-Some+in_ok-push-in-Some w ↦
      rw (w.list-is, w.in_ok-push-in-Some.ensures.items) (one_here (made_at c.args.row.now) c.loop-number.list.items
      (affected c.args.row.now) w.in-Some.made c.loop-number.number (length c.args.row.now.changes)
      (omega (arith, c.loop-number-test.true, c.len-number-end.ensures)) (sym w.in-Some.ensures) c.loop-number.invariant)
  | in-None w ↦
      rw w.list-is (none_here (made_at c.args.row.now) c.loop-number.list.items (affected c.args.row.now) c.loop-number.number
      (length c.args.row.now.changes) (omega (arith, c.loop-number-test.true, c.len-number-end.ensures))
      (sym w.in-None.ensures) c.loop-number.invariant)
]
