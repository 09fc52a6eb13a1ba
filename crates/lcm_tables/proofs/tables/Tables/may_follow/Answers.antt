use Rattle.std.proofs.Common.{◌↔◌, IsTrue, subst, sym}
use Rattle.lcm_events.specs.declared.events.EventKind.{EventKind}
use Rattle.lcm_model.specs.Allowed.{IsAllowed}
use Rattle.lcm_tables.proofs.tables.Tables.may_follow.Goals as goal

pub returns-in-Created : goal.returns-in-Created
returns-in-Created c = record {
  judged = λ m H small legal tables.
      subst (λ (k : EventKind). IsTrue c.may_create.result ↔ IsAllowed m H k) (sym c.in-Created.is)
      (c.may_create.ensures.judged c.in-Created.name c.in-Created.text m H legal tables);
}

pub returns-in-Subscribed : goal.returns-in-Subscribed
returns-in-Subscribed c = record {
  judged = λ m H small legal tables.
      subst (λ (k : EventKind). IsTrue c.may_subscribe.result ↔ IsAllowed m H k) (sym c.in-Subscribed.is)
      (c.may_subscribe.ensures.judged c.in-Subscribed.callback m H legal tables);
}

pub returns-in-Posted : goal.returns-in-Posted
returns-in-Posted c = record {
  judged = λ m H small legal tables.
      subst (λ (k : EventKind). IsTrue c.may_post.result ↔ IsAllowed m H k) (sym c.in-Posted.is)
      (c.may_post.ensures.judged c.in-Posted.outcome m H legal tables);
}
