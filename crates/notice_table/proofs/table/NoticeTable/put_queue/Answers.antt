use Rattle.std.proofs.Common.{◌∙◌, Option, ap, length, map, subst, sym}
use Rattle.std.specs.Prelude.{IfSome}
use Rattle.std.proofs.lemmas.List.Elements.{All-push, All-same}
use Rattle.notice_table.specs.Rows.{IsWithin, row}
use Rattle.notice_table.specs.declared.queues.QueueRow.{QueueRow}
use Rattle.notice_table.proofs.Lists.{map_end}
use Rattle.notice_table.proofs.RowLaws.{within_any}
use Rattle.notice_table.proofs.table.NoticeTable.put_queue.Goals as goal

pub invariant_of-self : goal.invariant_of-self
invariant_of-self c =
    let t = c.self.inside in
    let n = length t.places.items in
    let r : QueueRow = c.in-Some.queue in
    let empty : IsWithin 0 (row r) = subst (λ (x : Option QueueRow). IfSome x (λ q. IsWithin 0 (row q)))
    (sym c.in-Some.ensures.value) c.self.invariant.next in
    record {
      rows = All-same (IsWithin n) _ _ (ap (map row) c.push_reserved.ensures.items ∙ map_end row t.queues.items r)
          (All-push (IsWithin n) (map row t.queues.items) (row r) c.self.invariant.rows (within_any n (row r) empty));
      next = subst (λ (x : Option QueueRow). IfSome x (λ q. IsWithin 0 (row q))) (sym c.take.ensures.after) tt;
    }
