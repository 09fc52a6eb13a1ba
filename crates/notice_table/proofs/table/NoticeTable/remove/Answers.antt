use Rattle.std.proofs.Common.{◌∙◌, ◌==◌, ◌<◌, List, ap, arith, length, map, not}
use Rattle.std.proofs.lemmas.List.Elements.{All-filter, All-same}
use Rattle.notice_table.specs.Queues.{Queue}
use Rattle.notice_table.specs.Rows.{IsWithin, Row, plain, room, row}
use Rattle.notice_table.specs.Steps.{without}
use Rattle.notice_table.specs.Table.{Shown}
use Rattle.notice_table.specs.declared.queues.QueueRow.{QueueRow}
use Rattle.notice_table.proofs.Lists.{map_filter}
use Rattle.notice_table.proofs.TableLaws.{kept}
use Rattle.notice_table.proofs.table.NoticeTable.remove.Goals as goal

pub invariant_of-self : goal.invariant_of-self
invariant_of-self c =
    let t = c.self.inside in
    let n = length t.places.items in
    record {
      rows = All-same (IsWithin n) _ _ (ap (map row) c.remove.ensures.items
          ∙ map_filter (λ (r : Row). not (r.number == c.args.number)) row t.queues.items)
          (All-filter (λ (r : Row). not (r.number == c.args.number)) (IsWithin n) (map row t.queues.items) c.self.invariant.rows);
      next = c.self.invariant.next;
    }

pub returns-clause-queues : goal.returns-clause-queues
returns-clause-queues c =
    let t = c.self.inside in
    ap (λ (rows : List QueueRow). map (plain t.places.items) (map row rows)) c.remove.ensures.items
    ∙ (ap (map (plain t.places.items)) (map_filter (λ (r : Row). not (r.number == c.args.number)) row t.queues.items)
    ∙ (map_filter (λ (q : Queue). not (q.number == c.args.number)) (plain t.places.items) (map row t.queues.items)
    ∙ ap (λ (s : Shown). without c.args.number s.queues) c.self.view_is))

pub returns-clause-reserved : goal.returns-clause-reserved
returns-clause-reserved c =
    kept c.args.self.now c.self.inside.places.items _ c.self.inside.queues.items c.remove.new.queues.items _ _ c.self.inside.next
    c.self.view_is
    (omega (arith, c.remove.ensures.length, c.remove.ensures.capacity))
    (λ all. All-same (λ (r : QueueRow). 0 < room r) _ _ c.remove.ensures.items
    (All-filter (λ (r : QueueRow). not (r.number == c.args.number)) (λ (r : QueueRow). 0 < room r) c.self.inside.queues.items all))
