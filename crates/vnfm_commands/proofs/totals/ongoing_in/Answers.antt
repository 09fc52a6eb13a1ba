-- The row at the place is counted where its operation goes on.
use Rattle.std.proofs.Common.{◌∙◌, arith, sym}
use Rattle.vnfm_commands.specs.Totals.{is_going}
use Rattle.vnfm_commands.proofs.TotalLemmas.{counted_in, counted_out}
use Rattle.vnfm_commands.proofs.totals.ongoing_in.Goals as goal
use Rattle.vnfm_commands.proofs.totals.ongoing_in.Goals.{then-goes_on_at, else-goes_on_at}

pub loop-place-preserved : goal.loop-place-preserved
loop-place-preserved c =
    let before = c.loop-place.invariant in
    let few = before.1 in
    elim c.if-goes_on_at.branch [
      | then-goes_on_at w ↦ (
        rw w.ongoing-is (counted_in is_going c.args.occurrences.now.rows c.loop-place.place c.loop-place.ongoing
            (omega (arith, c.loop-place-test.true, c.loop-place.auto.place-end, c.made_in-place-end.ensures))
            (sym c.goes_on_at.ensures ∙ w.if-goes_on_at.true) before.0),
        omega (arith, few, w.ongoing-is),
      )
      | else-goes_on_at w ↦ (
        rw w.ongoing-is (counted_out is_going c.args.occurrences.now.rows c.loop-place.place c.loop-place.ongoing
            (omega (arith, c.loop-place-test.true, c.loop-place.auto.place-end, c.made_in-place-end.ensures))
            (sym c.goes_on_at.ensures ∙ w.if-goes_on_at.false) before.0),
        omega (arith, few, w.ongoing-is),
      )
    ]
