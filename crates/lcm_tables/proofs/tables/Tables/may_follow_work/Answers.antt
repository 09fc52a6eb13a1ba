use Rattle.std.proofs.Common.{◌↔◌, IsTrue, subst, sym}
use Rattle.lcm_events.specs.declared.events.EventKind.{EventKind}
use Rattle.lcm_model.specs.Allowed.{IsAllowed}
use Rattle.lcm_tables.proofs.tables.Tables.may_follow_work.Goals as goal

pub returns-in-Settled : goal.returns-in-Settled
returns-in-Settled c = record {
  judged = λ m H legal tables.
      subst (λ (k : EventKind). IsTrue c.may_settle.result ↔ IsAllowed m H k) (sym c.in-Settled.is)
      (c.may_settle.ensures.judged c.in-Settled.outcome _ m H legal tables.occurrences.rows);
}

pub returns-in-CancelAsked : goal.returns-in-CancelAsked
returns-in-CancelAsked c = record {
  judged = λ m H legal tables.
      subst (λ (k : EventKind). IsTrue c.may_cancel.result ↔ IsAllowed m H k) (sym c.in-CancelAsked.is)
      (c.may_cancel.ensures.judged c.in-CancelAsked.mode _ m H legal tables.occurrences.rows);
}
