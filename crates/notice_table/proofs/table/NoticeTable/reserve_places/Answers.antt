use Rattle.std.proofs.Common.{◌<◌, ℕ, arith}
use Rattle.std.proofs.lemmas.List.Elements.{All-map}
use Rattle.notice_table.specs.Rows.{room}
use Rattle.notice_table.specs.declared.queues.QueueRow.{QueueRow}
use Rattle.notice_table.proofs.Lists.{all_taken}
use Rattle.notice_table.proofs.TableLaws.{on_ok}
use Rattle.notice_table.proofs.table.NoticeTable.reserve_places.Goals as goal

pub returns-clause-room : goal.returns-clause-room
returns-clause-room c =
    on_ok _ _ c.reserve_all.result
    (λ all. record {
      place = omega (arith, c.in_ok-reserve.ensures.ok);
      marks = All-map (λ (n : ℕ). 0 < n) room _
          (all_taken (λ (r : QueueRow). 0 < room r) c.self.inside.queues.len c.reserve_all.new.queues _
          (omega (arith, c.as_mut_slice.ensures.len, c.reserve_all.auto.queues)) all);
    })
    c.reserve_all.ensures.room
