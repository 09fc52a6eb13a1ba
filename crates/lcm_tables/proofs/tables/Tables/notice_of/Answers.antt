use Rattle.std.proofs.Common.{◌∙◌, ap, arith, option_map, subst, sym}
use Rattle.lcm_events.specs.declared.events.EventKind.{EventKind}
use Rattle.lcm_events.specs.declared.events.EventKind.TheVariants.{Created}
use Rattle.lcm_model.specs.Allowed.{IsAllowed}
use Rattle.lcm_model.specs.Notices.{facts_of}
use Rattle.subscription_filter.specs.Facts.{facts_in}
use Rattle.lcm_tables.proofs.NoticeLaws.{few_made}
use Rattle.lcm_tables.proofs.tables.Tables.notice_of.Goals as goal

pub returns-in-Created-clause-facts : goal.returns-in-Created-clause-facts
returns-in-Created-clause-facts c = λ m H legal tables few allowed.
    let may : IsAllowed m H (Created c.in-Created.instance c.in-Created.vnfd c.in-Created.name c.in-Created.text) =
    subst (λ (k : EventKind). IsAllowed m H k) c.in-Created.is allowed in
    let number = may.number in
    let made = few_made H in
    ap (option_map facts_in) (c.notice_of_creation.ensures.value (omega (arith, number), omega (arith, number, made, few)))
    ∙ ap (facts_of H) (sym c.in-Created.is)
