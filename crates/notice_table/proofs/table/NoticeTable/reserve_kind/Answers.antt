use Rattle.std.proofs.Common.{◌≡◌, false, subst, true}
use Rattle.lcm_events.specs.declared.events.EventKind.{EventKind}
use Rattle.notice_table.specs.Table.{makes_queue}
use Rattle.notice_table.proofs.table.NoticeTable.reserve_kind.Goals as goal

pub returns-in-Subscribed-clause-stays : goal.returns-in-Subscribed-clause-stays
returns-in-Subscribed-clause-stays c = λ no. let clash : true ≡ false =
    subst (λ (k : EventKind). makes_queue k ≡ false) c.in-Subscribed.is no in cc

pub returns-in-Subscribed-clause-free : goal.returns-in-Subscribed-clause-free
returns-in-Subscribed-clause-free c = λ no. let clash : true ≡ false =
    subst (λ (k : EventKind). makes_queue k ≡ false) c.in-Subscribed.is no in cc
