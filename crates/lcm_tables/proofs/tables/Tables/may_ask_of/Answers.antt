use Rattle.std.proofs.Common.{◌∙◌, ap, sym}
use Rattle.std.specs.Prelude.{option_copied}
use Rattle.lcm_tables.proofs.AskLaws.{can_plan, row_asked}
use Rattle.lcm_tables.proofs.tables.Tables.may_ask_of.Goals as goal

pub may_ask_over-requires-clause-valid : goal.may_ask_over-requires-clause-valid
may_ask_over-requires-clause-valid c =
    let s = c.requires.small in
    let found = c.requires.own s.manager s.history s.legal s.tables in
    let held = c.rows_have_holdings.ensures _ s.manager s.history s.legal c.args.operation.now.instance c.args.row.now found in
    let named = sym (ap option_copied c.in-Some.is) ∙ c.vnfd.ensures.finds _ s.manager s.history s.legal s.tables.instances in
    let asked = row_asked s.history c.args.operation.now.instance c.args.row.now c.in-Some.vnfd.now held.0 found named held.1 held.2 in
    (can_plan s.manager s.history c.args.operation.now.instance c.in-Some.vnfd.now c.args.row.now.holding s.legal s.small asked).0

pub may_ask_over-requires-clause-held : goal.may_ask_over-requires-clause-held
may_ask_over-requires-clause-held c =
    let s = c.requires.small in
    let found = c.requires.own s.manager s.history s.legal s.tables in
    let held = c.rows_have_holdings.ensures _ s.manager s.history s.legal c.args.operation.now.instance c.args.row.now found in
    let named = sym (ap option_copied c.in-Some.is) ∙ c.vnfd.ensures.finds _ s.manager s.history s.legal s.tables.instances in
    let asked = row_asked s.history c.args.operation.now.instance c.args.row.now c.in-Some.vnfd.now held.0 found named held.1 held.2 in
    (can_plan s.manager s.history c.args.operation.now.instance c.in-Some.vnfd.now c.args.row.now.holding s.legal s.small asked).1
