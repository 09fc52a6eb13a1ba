use Rattle.std.proofs.Common.{◌∙◌, ◌<◌, ◌^◌, ℕ, ap, arith, length, map, max, sym, take}
use Rattle.notice_table.specs.Rows.{longest, room, row, with_place}
use Rattle.notice_table.specs.declared.queues.QueueRow.{QueueRow}
use Rattle.notice_table.proofs.Lists.{mapped_step, past_written, seen_step}
use Rattle.notice_table.proofs.RowLaws.{longest_more}
use Rattle.notice_table.proofs.queues.mark_all.Goals as goal

pub loop-queue-preserved : goal.loop-queue-preserved
loop-queue-preserved c = record {
  rows = mapped_step row with_place c.loop-queue.queue-index c.loop-queue.queues c.mark.new.self c.queue-item.result
      (omega arith) c.mark.ensures.row
      ∙ c.loop-queue.invariant.rows;
  longest = c.max-longest.ensures
      ∙ (ap (λ (n : ℕ). max n c.loop-queue.longest) c.mark.ensures.count
      ∙ (ap (λ (n : ℕ). max (length c.mark.new.self.marks.marks) n) c.loop-queue.invariant.longest
      ∙ sym (ap longest (seen_step row c.loop-queue.queue-index c.loop-queue.queues c.mark.new.self (omega arith))
      ∙ longest_more (take c.loop-queue.queue-index (map row c.loop-queue.queues)) (row c.mark.new.self))));
  room = past_written (λ (r : QueueRow). 0 < room r) c.loop-queue.queues c.loop-queue.queue-index c.mark.new.self
      c.loop-queue.invariant.room;
  bound = past_written (λ (r : QueueRow). length r.marks.marks < 2 ^ 63) c.loop-queue.queues c.loop-queue.queue-index c.mark.new.self
      c.loop-queue.invariant.bound;
}
