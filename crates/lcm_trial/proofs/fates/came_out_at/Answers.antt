-- The row at the place is that of the number behind it.
use Rattle.std.proofs.Common.{◌∙◌, Option, ap, false, sym}
use Rattle.std.specs.Option.{option_map_or}
use Rattle.std.specs.Prelude.{option_copied}
use Rattle.lcm_model.specs.Work.{window}
use Rattle.occ_table.specs.declared.rows.OccRow.{OccRow}
use Rattle.lcm_trial.specs.Trial.{row_came_out, same_fate}
use Rattle.lcm_trial.specs.declared.fates.Fate.{Fate}
use Rattle.lcm_trial.proofs.CountLemmas.{row_there}
use Rattle.lcm_trial.proofs.fates.came_out_at.Goals as goal

pub returns-in-Some : goal.returns-in-Some
returns-in-Some c =
    let l = c.requires.legal in
    c.same_fate.ensures ∙ ap (λ (f : Fate). same_fate f c.args.fate) c.fate_of.ensures
    ∙ sym (ap (λ (o : Option OccRow). option_map_or (row_came_out c.args.fate) o false)
    (row_there _ c.args.place _ l (c.occurrence.ensures.looks window l.manager l.history l.legal l.stands)
    ∙ ap option_copied c.in-Some.is))

pub returns-in-None : goal.returns-in-None
returns-in-None c =
    let l = c.requires.legal in
    sym (ap (λ (o : Option OccRow). option_map_or (row_came_out c.args.fate) o false)
    (row_there _ c.args.place _ l (c.occurrence.ensures.looks window l.manager l.history l.legal l.stands)
    ∙ ap option_copied c.in-None.is))
