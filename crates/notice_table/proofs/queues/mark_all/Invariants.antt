use Rattle.std.proofs.Common.{drop, length, map, take, ◌++◌, ◌<◌, ◌^◌, ◌≡◌}
use Rattle.std.specs.List.{AllWithin}
use Rattle.notice_table.specs.Rows.{longest, room, row, with_place}
use Rattle.notice_table.proofs.queues.mark_all.Given as goal

abbrev pub invariant-loop-queue : goal.invariant-loop-queue
invariant-loop-queue l = record {
  rows : take l.queue-index (map row l.queues) ++ map with_place (drop l.queue-index (map row l.queues))
      ≡ map with_place (map row l.initial.queues);
  longest : l.longest ≡ longest (take l.queue-index (map row l.queues));
  room : AllWithin (λ q. 0 < room q) l.queues l.queue-index (length l.queues);
  bound : AllWithin (λ q. length q.marks.marks < 2 ^ 63) l.queues l.queue-index (length l.queues);
}
