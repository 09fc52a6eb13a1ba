use Rattle.std.proofs.Common.{◌≡◌, ◌∙◌, ◌-◌, ℕ, List, None, Option, Some, ap, sym}
use Rattle.lcm_events.specs.declared.attempts.Tag.{Tag}
use Rattle.lcm_events.specs.declared.events.EventKind.{EventKind}
use Rattle.lcm_model.specs.Operations.{occurrence_of}
use Rattle.occ_table.proofs.Updates.{update-both}
use Rattle.occ_table.specs.Steps.{noted, row_after, rows_about, update}
use Rattle.occ_table.specs.declared.rows.OccRow.{OccRow}
use Rattle.occ_table.specs.declared.used.Used.{Used}
use Rattle.occ_table.proofs.table.OccTable.follow_done.Goals as goal

pub returns-clause-rows : goal.returns-clause-rows
returns-clause-rows c = λ from.
    let time : ℕ = c.args.moment in
    let t : Tag = c.args.tag.now in
    let n : ℕ = t.occ - 1 in
    let k : EventKind = c.args.kind.now in
    let x : Option Used = c.take_deed-used.result in
    let old : List OccRow = c.args.self.now.rows in
    let about : occurrence_of k ≡ Some t.occ = ap occurrence_of c.requires.kind in
    c.note.ensures.rows from
    ∙ (ap (λ (rs : List OccRow). update (noted t.change x) n rs)
    (c.follow_about.ensures.numbered t.occ about from ∙ ap (λ (o : Option ℕ). rows_about o time None k c.take_deed-used.new.self.rows) about
    ∙ ap (λ (rs : List OccRow). update (row_after time None k) n rs) c.take_deed-used.ensures.rows)
    ∙ (update-both (noted t.change x) (row_after time None k) n old
    ∙ (ap (λ (j : EventKind). update (λ r. noted t.change x (row_after time None j r)) n old) c.requires.kind
    ∙ (ap (λ (j : EventKind). update (row_after time x j) n old) (sym c.requires.kind)
    ∙ ap (λ (y : Option Used). update (row_after time y k) n old) c.take_deed-used.ensures.used))))
