-- The row names the descriptor of its instance.
use Rattle.std.proofs.Common.{◌∙◌, ap, sym}
use Rattle.std.specs.Prelude.{option_copied}
use Rattle.std.proofs.lemmas.Option.{none-some}
use Rattle.lcm_model.specs.Work.{window}
use Rattle.lcm_api.proofs.InstanceLemmas.{named_by_row}
use Rattle.lcm_api.proofs.asks.vnfd_of.Goals as goal

pub returns : goal.returns
returns g c = λ H keeps.
    let row = c.args.row.now in
    named_by_row H row.number row (c.requires.own H keeps) ∙ sym (c.vnfd.ensures H keeps) ∙ ap option_copied c.in-Some.is

pub unreachable-requires : goal.unreachable-requires
unreachable-requires g c =
    let H = c.requires.kept.0 in
    let keeps = c.requires.kept.1 in
    let row = c.args.row.now in
    let found = c.requires.own H keeps in
    let held = c.rows_have_holdings.ensures window _ H keeps.kept.legal row.number row found in
    none-some held.0 (sym (ap option_copied c.in-None.is) ∙ (c.vnfd.ensures H keeps ∙ (sym (named_by_row H row.number row found) ∙ held.1)))
