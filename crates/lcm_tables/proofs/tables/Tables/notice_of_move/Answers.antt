use Rattle.std.proofs.Common.{◌∙◌, ◌≡◌, ap, subst, sym, true, ℕ}
use Rattle.std.specs.Prelude.{option_copied}
use Rattle.lcm_laws.proofs.HoldLaws.{moved_from}
use Rattle.lcm_model.specs.Lives.{is_live}
use Rattle.lcm_model.specs.Operations.{kind_of}
use Rattle.occ_table.proofs.JudgeLaws.{found_row}
use Rattle.occ_table.specs.declared.rows.OccRow.{OccRow}
use Rattle.lcm_tables.proofs.LiveLaws.{living}
use Rattle.lcm_tables.proofs.NoticeLaws.{move_tells}
use Rattle.lcm_tables.proofs.tables.Tables.notice_of_move.Goals as goal

pub returns-in-Some-clause-facts : goal.returns-in-Some-clause-facts
returns-in-Some-clause-facts c = λ m H legal tables few allowed.
    let row : OccRow = c.in-Some.row.now in
    let mine = found_row H c.args.occ row (sym (c.occurrence.ensures.looks _ m H legal tables.occurrences.rows)
    ∙ ap option_copied c.in-Some.is) in
    let own = ap (λ (r : OccRow). r.instance) mine.3 in
    let live = subst (λ (i : ℕ). is_live H i ≡ true) own (living _ m H legal c.args.occ mine.0 mine.1
    (moved_from H c.args.occ c.args.to allowed.1)) in
    c.notice_of_instance.ensures.facts m H legal tables few live
    ∙ move_tells H c.args.occ c.args.to mine.0 row.instance _ mine.1 own (c.kind.ensures ∙ ap (λ (r : OccRow). kind_of r.ask) (sym mine.3))
