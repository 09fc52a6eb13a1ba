use Rattle.std.proofs.Common.{◌∙◌, ap, sym}
use Rattle.std.specs.Prelude.{option_copied}
use Rattle.lcm_tables.proofs.FoundLaws.{idle_found}
use Rattle.lcm_tables.proofs.tables.Tables.is_idle.Goals as goal

pub returns-in-Some : goal.returns-in-Some
returns-in-Some c = λ m H legal tables.
    let found = sym (c.instance.ensures.finds _ m H legal tables.instances) ∙ ap option_copied c.in-Some.is in
    let held = c.rows_have_holdings.ensures _ m H legal c.args.instance c.in-Some.row.now found in
    idle_found H c.args.instance c.in-Some.row.now held.0 found held.2
