use Rattle.std.proofs.Common.{drop, map, take, ◌++◌, ◌≡◌}
use Rattle.std.specs.List.{list_any}
use Rattle.lcm_model.specs.Notices.{matches}
use Rattle.subscription_filter.specs.Facts.{facts_in}
use Rattle.notice_table.specs.Rows.{asked}
use Rattle.notice_table.proofs.queues.ask_each.Given as goal

abbrev pub invariant-loop-queue : goal.invariant-loop-queue
invariant-loop-queue l = record {
  rows : l.queues ≡ map (asked l.notice.manager (facts_in l.notice)) (take l.queue-index l.initial.queues)
      ++ drop l.queue-index l.initial.queues;
  answer : l.heard ≡ list_any (λ q. matches l.notice.manager q.filter (facts_in l.notice)) (take l.queue-index l.initial.queues);
}
