use Rattle.std.proofs.Common.{◌∙◌, ap, option_map, sym}
use Rattle.std.specs.Prelude.{option_copied}
use Rattle.subscription_filter.specs.Facts.{facts_in}
use Rattle.lcm_tables.proofs.NoticeLaws.{live_number, row_tells}
use Rattle.lcm_tables.proofs.tables.Tables.notice_of_instance.Goals as goal

pub returns-in-Some-clause-facts : goal.returns-in-Some-clause-facts
returns-in-Some-clause-facts c = λ m H legal tables few live.
    ap (option_map facts_in) (c.numbered.ensures.value (live_number _ m H c.args.instance legal few live))
    ∙ row_tells H c.args.instance c.in-Some.row.now c.args.which c.args.op c.args.state
    (sym (c.instance.ensures.finds _ m H legal tables.instances) ∙ ap option_copied c.in-Some.is)
