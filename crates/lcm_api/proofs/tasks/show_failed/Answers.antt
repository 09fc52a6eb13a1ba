-- The row is that of the history with the event, and can be shown.
use Rattle.std.proofs.Common.{◌≡◌, arith, refl, subst, sym}
use Rattle.std.specs.Result.{IfOk}
use Rattle.instance_table.specs.Rows.{rows}
use Rattle.json_views.specs.Occurrences.{IsOccurrenceShowable}
use Rattle.lcm_model.specs.Work.{window}
use Rattle.occ_table.specs.Rows as occurrences
use Rattle.occ_table.specs.declared.rows.OccRow.{OccRow}
use Rattle.lcm_api.specs.Occurrences.{show_row}
use Rattle.lcm_api.specs.Planning.{told}
use Rattle.lcm_api.proofs.TaskLemmas.{showable, shows_failed}
use Rattle.lcm_api.proofs.tasks.show_failed.Goals as goal

pub show_row-requires-clause-showable : goal.show_row-requires-clause-showable
show_row-requires-clause-showable g c =
    let H = c.requires.found.0 in
    let keeps = c.requires.found.1 in
    let few = c.occurrences-table.ensures.few H keeps in
    let each = (c.legal_occurrences_can_be_shown.ensures window _ H (rows H) (occurrences.rows H)
    (omega (arith, few)) keeps.kept.legal refl refl).each in (
      H,
      keeps,
      subst (λ (r : OccRow). IsOccurrenceShowable (rows H) c.args.n r) (sym c.in_ok-failed.ensures)
          (showable (rows H) c.args.now c.args.n c.args.row.now (each c.args.n c.args.row.now c.requires.found.2)),
    )

pub returns : goal.returns
returns g c = λ H a keeps asked found may.
    let few = c.occurrences-table.ensures.few H keeps in
    let each = (c.legal_occurrences_can_be_shown.ensures window _ H (rows H) (occurrences.rows H)
    (omega (arith, few)) keeps.kept.legal refl refl).each in
    let can =
    subst (λ (r : OccRow). IsOccurrenceShowable (rows H) c.args.n r) (sym c.in_ok-failed.ensures)
    (showable (rows H) c.args.now c.args.n c.args.row.now (each c.args.n c.args.row.now found)) in
    shows_failed c.args.manager.now.ledger.manager H c.args.now c.args.n a c.args.row.now c.args.last c.show_row.result keeps.kept.legal
    asked found may
    (subst (λ (r : OccRow). IfOk c.show_row.result (λ reply. show_row c.args.manager.now.ledger.manager H c.args.last c.args.n r
    ≡ told reply)) c.in_ok-failed.ensures (c.show_row.ensures H keeps can))
