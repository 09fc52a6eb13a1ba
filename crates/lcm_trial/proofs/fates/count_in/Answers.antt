-- The row at the place is counted where its operation came out so.
use Rattle.std.proofs.Common.{◌∙◌, arith, sym}
use Rattle.lcm_trial.specs.Trial.{row_came_out}
use Rattle.lcm_trial.proofs.CountLemmas.{counted_in, counted_out}
use Rattle.lcm_trial.proofs.fates.count_in.Goals as goal
use Rattle.lcm_trial.proofs.fates.count_in.Goals.{then-came_out_at, else-came_out_at}

pub loop-place-preserved : goal.loop-place-preserved
loop-place-preserved c =
    let before = c.loop-place.invariant in
    let few = before.1 in
    elim c.if-came_out_at.branch [
      | then-came_out_at w ↦ (
        rw w.count-is (counted_in (row_came_out c.args.fate) c.args.occurrences.now.rows c.loop-place.place c.loop-place.count
            (omega (arith, c.loop-place-test.true, c.loop-place.auto.place-end, c.made_in-place-end.ensures))
            (sym c.came_out_at.ensures ∙ w.if-came_out_at.true) before.0),
        omega (arith, few, w.count-is),
      )
      | else-came_out_at w ↦ (
        rw w.count-is (counted_out (row_came_out c.args.fate) c.args.occurrences.now.rows c.loop-place.place c.loop-place.count
            (omega (arith, c.loop-place-test.true, c.loop-place.auto.place-end, c.made_in-place-end.ensures))
            (sym c.came_out_at.ensures ∙ w.if-came_out_at.false) before.0),
        omega (arith, few, w.count-is),
      )
    ]
