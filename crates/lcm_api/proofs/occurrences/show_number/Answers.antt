-- The row that is found is shown.
use Rattle.std.proofs.Common.{arith, refl, sym, ◌∙◌, ap}
use Rattle.std.specs.Prelude.{option_copied}
use Rattle.instance_table.specs.Rows.{rows}
use Rattle.occ_table.specs.Rows as occurrences
use Rattle.lcm_model.specs.Work.{window}
use Rattle.lcm_api.proofs.OccurrenceLemmas.{shows_found}
use Rattle.lcm_api.proofs.occurrences.show_number.Goals as goal

pub show_row-requires-clause-showable : goal.show_row-requires-clause-showable
show_row-requires-clause-showable g c =
    let H = c.requires.kept.0 in
    let keeps = c.requires.kept.1 in
    let few = c.occurrences.ensures.few H keeps in
    let found = sym (c.occurrence.ensures.looks window _ H keeps.kept.legal (c.occurrences.ensures.table H keeps).rows)
    ∙ ap option_copied c.in-Some.is in (
      H,
      keeps,
      (c.legal_occurrences_can_be_shown.ensures window _ H (rows H) (occurrences.rows H)
          (omega (arith, few)) keeps.kept.legal refl refl).each c.args.n c.in-Some.row.now found,
    )

pub returns-in-Some : goal.returns-in-Some
returns-in-Some g c = λ H keeps.
    let few = c.occurrences.ensures.few H keeps in
    let found = sym (c.occurrence.ensures.looks window _ H keeps.kept.legal (c.occurrences.ensures.table H keeps).rows)
    ∙ ap option_copied c.in-Some.is in
    let showable = (c.legal_occurrences_can_be_shown.ensures window _ H (rows H) (occurrences.rows H)
    (omega (arith, few)) keeps.kept.legal refl refl).each c.args.n c.in-Some.row.now found in
    shows_found _ H c.args.last c.args.n c.in-Some.row.now _ found (c.show_row.ensures H keeps showable)
