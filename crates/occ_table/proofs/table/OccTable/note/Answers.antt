use Rattle.std.proofs.Common.{◌∙◌, ◌-◌, List, None, Option, ap, refl, sym}
use Rattle.occ_table.proofs.Updates.{update-none}
use Rattle.occ_table.specs.Steps.{noted, update}
use Rattle.occ_table.specs.declared.rows.OccRow.{OccRow}
use Rattle.occ_table.specs.declared.used.Used.{Used}
use Rattle.occ_table.proofs.table.OccTable.note.Goals as goal

pub returns-in-None-clause-rows : goal.returns-in-None-clause-rows
returns-in-None-clause-rows c = λ from.
    let rows : List OccRow = c.args.self.now.rows in
    sym (update-none (noted c.args.change None) (c.args.occ - 1) rows (λ r. refl))
    ∙ ap (λ (x : Option Used). update (noted c.args.change x) (c.args.occ - 1) rows) (sym c.in-None.is)
