-- The occurrence at each place comes next.
use Rattle.std.proofs.Common.{◌∙◌, ◌+◌, ap, arith, length, sym}
use Rattle.std.specs.Prelude.{option_copied, option_map}
use Rattle.json_members.specs.Text.{with_value}
use Rattle.json_views.specs.Occurrences.{occurrence_at, occurrence_row, occurrences_value}
use Rattle.json_views.proofs.RangeLemmas.{none_written, one_written}
use Rattle.json_views.proofs.occurrences.write_occurrences.Goals as goal
use Rattle.json_views.proofs.occurrences.write_occurrences.Goals.{in-Some+in_ok-write_entry-in-Some, in-None}

pub write_entry-requires : goal.write_entry-requires
write_entry-requires c = c.requires.each c.loop-place.place c.in-Some.row.now (sym c.row_at.ensures ∙ ap option_copied c.in-Some.is)

pub loop-place-preserved : goal.loop-place-preserved
loop-place-preserved c =
    let rs = c.args.instances.now.rows in
    let os = c.args.occurrences.now.rows in
    let f = occurrence_at c.args.manager rs os in
    let whole = with_value (occurrences_value c.args.manager rs os) c.args.text.now in
    let place = c.loop-place.place in
    let text = c.loop-place.text in
    let shown = option_map (occurrence_row c.args.manager rs (place + 1)) in
    elim c.match-row_at.branch [
      | in-Some+in_ok-write_entry-in-Some w ↦
          rw (w.text-is, w.in_ok-write_entry-in-Some.ensures)
          (one_written f text whole _ place (length os) (omega (arith, c.loop-place-test.true, c.made_in-made.ensures))
          (ap shown (sym c.row_at.ensures ∙ ap option_copied w.in-Some.is)) c.loop-place.invariant)
      | in-None w ↦
          rw w.text-is
          (none_written f text whole place (length os) (omega (arith, c.loop-place-test.true, c.made_in-made.ensures))
          (ap shown (sym c.row_at.ensures ∙ ap option_copied w.in-None.is)) c.loop-place.invariant)
    ]
