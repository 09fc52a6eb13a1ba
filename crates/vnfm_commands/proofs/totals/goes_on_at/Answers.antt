-- The row at the place is that of the number behind it.
use Rattle.std.proofs.Common.{◌∙◌, ap, false, not, sym, Option}
use Rattle.std.specs.Option.{option_map_or}
use Rattle.std.specs.Prelude.{option_copied}
use Rattle.lcm_model.specs.Work.{window}
use Rattle.occ_table.specs.declared.rows.OccRow.{OccRow}
use Rattle.vnfm_commands.specs.Totals.{is_going}
use Rattle.vnfm_commands.proofs.TotalLemmas.{row_there}
use Rattle.vnfm_commands.proofs.totals.goes_on_at.Goals as goal

pub returns-in-Some : goal.returns-in-Some
returns-in-Some c =
    let l = c.requires.legal in
    ap not c.ends.ensures
    ∙ sym (ap (λ (o : Option OccRow). option_map_or is_going o false)
    (row_there _ c.args.place _ l (c.occurrence.ensures.looks window l.manager l.history l.legal l.stands)
    ∙ ap option_copied c.in-Some.is))

pub returns-in-None : goal.returns-in-None
returns-in-None c =
    let l = c.requires.legal in
    sym (ap (λ (o : Option OccRow). option_map_or is_going o false)
    (row_there _ c.args.place _ l (c.occurrence.ensures.looks window l.manager l.history l.legal l.stands)
    ∙ ap option_copied c.in-None.is))
