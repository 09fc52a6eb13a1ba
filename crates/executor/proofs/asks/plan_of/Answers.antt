-- The row names the descriptor of its instance, and says what stands of it.
use Rattle.std.proofs.Common.{◌∙◌, ap, sym}
use Rattle.std.proofs.lemmas.Option.{none-some}
use Rattle.std.specs.Prelude.{option_copied}
use Rattle.lcm_model.specs.Work.{window}
use Rattle.executor.proofs.AskLemmas.{can_plan, row_asked, row_described}
use Rattle.executor.proofs.asks.plan_of.Goals as goal

pub plan_over-requires-clause-valid : goal.plan_over-requires-clause-valid
plan_over-requires-clause-valid c =
    let s = c.requires.own.0 in
    let found = c.requires.own.1 in
    let row = c.args.row.now in
    let held = c.rows_have_holdings.ensures window s.manager s.history s.legal row.number row found in
    let named = sym (ap option_copied c.in-Some.is) ∙ c.vnfd.ensures.finds window s.manager s.history s.legal s.tables.instances in
    let asked = row_asked s.history row.number row c.in-Some.vnfd.now held.0 found named held.1 held.2 in
    (can_plan s.manager s.history row.number c.in-Some.vnfd.now row.holding s.legal s.small asked).0

pub plan_over-requires-clause-held : goal.plan_over-requires-clause-held
plan_over-requires-clause-held c =
    let s = c.requires.own.0 in
    let found = c.requires.own.1 in
    let row = c.args.row.now in
    let held = c.rows_have_holdings.ensures window s.manager s.history s.legal row.number row found in
    let named = sym (ap option_copied c.in-Some.is) ∙ c.vnfd.ensures.finds window s.manager s.history s.legal s.tables.instances in
    let asked = row_asked s.history row.number row c.in-Some.vnfd.now held.0 found named held.1 held.2 in
    (can_plan s.manager s.history row.number c.in-Some.vnfd.now row.holding s.legal s.small asked).1

pub returns : goal.returns
returns c = λ m H small legal tables found.
    let row = c.args.row.now in
    let held = c.rows_have_holdings.ensures window m H legal row.number row found in
    let named = sym (ap option_copied c.in-Some.is) ∙ c.vnfd.ensures.finds window m H legal tables.instances in
    c.plan_over.ensures m H small legal tables (row_asked H row.number row c.in-Some.vnfd.now held.0 found named held.1 held.2)

pub unreachable-requires : goal.unreachable-requires
unreachable-requires c =
    let s = c.requires.own.0 in
    let found = c.requires.own.1 in
    let row = c.args.row.now in
    let held = c.rows_have_holdings.ensures window s.manager s.history s.legal row.number row found in
    let named = sym (ap option_copied c.in-None.is) ∙ c.vnfd.ensures.finds window s.manager s.history s.legal s.tables.instances in
    none-some held.0 (named ∙ row_described s.history row.number row held.0 found held.1)
