use Rattle.std.proofs.Common.{◌∙◌, List, Some, None, ap, length, map, subst, sym}
use Rattle.std.specs.List.{All}
use Rattle.notice_table.specs.Rows.{IsWithin, row}
use Rattle.notice_table.specs.declared.queues.QueueRow.{QueueRow}
use Rattle.notice_table.specs.Table.{Shown}
use Rattle.notice_table.proofs.TableLaws.{first_seen}
use Rattle.notice_table.proofs.table.NoticeTable.first_of.Goals as goal

pub returns-in-Some : goal.returns-in-Some
returns-in-Some c = λ rises.
    c.first.ensures
    ∙ first_seen c.self.inside.places.items c.self.inside.queues.items c.as_slice.result.now c.args.self.now.queues c.args.subscription
    (Some c.in-Some.queue.now) c.as_slice.ensures.value
    (ap (λ (s : Shown). s.queues) c.self.view_is) c.in-Some.ensures.found rises

pub returns-in-None : goal.returns-in-None
returns-in-None c = λ rises.
    first_seen c.self.inside.places.items c.self.inside.queues.items c.as_slice.result.now c.args.self.now.queues c.args.subscription None
    c.as_slice.ensures.value
    (ap (λ (s : Shown). s.queues) c.self.view_is) c.in-None.ensures.found rises

pub first-requires : goal.first-requires
first-requires c = record {
  within = c.in-Some.ensures.within (length c.self.inside.places.items)
      (subst (λ (rows : List QueueRow). All (IsWithin (length c.self.inside.places.items)) (map row rows))
      (sym c.as_slice.ensures.value) c.self.invariant.rows);
}
