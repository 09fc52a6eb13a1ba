use Rattle.std.proofs.Common.{◌∙◌, ◌<◌, arith}
use Rattle.std.proofs.lemmas.List.Elements.{AllWithin-more_set}
use Rattle.notice_table.specs.Rows.{room, row}
use Rattle.notice_table.specs.declared.queues.QueueRow.{QueueRow}
use Rattle.notice_table.proofs.Lists.{same_written}
use Rattle.notice_table.proofs.queues.reserve_all.Goals as goal

pub returns-in_err-reserve-clause-kept : goal.returns-in_err-reserve-clause-kept
returns-in_err-reserve-clause-kept c =
    same_written row c.loop-queue.queue-index c.loop-queue.queues c.reserve.new.self c.queue-item.result
    (omega arith) c.reserve.ensures.kept
    ∙ c.loop-queue.invariant.kept

pub loop-queue-preserved : goal.loop-queue-preserved
loop-queue-preserved c = record {
  kept = same_written row c.loop-queue.queue-index c.loop-queue.queues c.reserve.new.self c.queue-item.result
      (omega arith) c.reserve.ensures.kept
      ∙ c.loop-queue.invariant.kept;
  room = AllWithin-more_set c.loop-queue.queues c.loop-queue.queue-index c.reserve.new.self (omega arith)
      (λ (r : QueueRow). 0 < room r) c.loop-queue.invariant.room c.in_ok-reserve.ensures.room;
}
