use Rattle.std.proofs.Common.{map, ◌<◌, ◌≡◌}
use Rattle.std.specs.List.{AllWithin}
use Rattle.notice_table.specs.Rows.{room, row}
use Rattle.notice_table.proofs.queues.reserve_all.Given as goal

abbrev pub invariant-loop-queue : goal.invariant-loop-queue
invariant-loop-queue l = record {
  kept : map row l.queues ≡ map row l.initial.queues;
  room : AllWithin (λ q. 0 < room q) l.queues 0 l.queue-index;
}
