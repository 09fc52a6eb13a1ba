use Rattle.std.proofs.Common.{◌∙◌, ap, arith, length, map}
use Rattle.notice_table.specs.Rows.{plain, row}
use Rattle.notice_table.specs.Steps.{posted}
use Rattle.notice_table.specs.Table.{Shown}
use Rattle.notice_table.proofs.RowLaws.{posted_rows}
use Rattle.notice_table.proofs.TableLaws.{kept, rises_rows}
use Rattle.notice_table.proofs.table.NoticeTable.post.Goals as goal

pub invariant_of-self : goal.invariant_of-self
invariant_of-self c = record {
  rows = c.post_in.ensures.within (length c.self.inside.places.items) c.self.invariant.rows;
  next =
      c.self.invariant.next;
}

pub returns-clause-queues : goal.returns-clause-queues
returns-clause-queues c = λ rises.
    let t = c.self.inside in
    ap (map (plain t.places.items)) (c.post_in.ensures.rows (rises_rows t.places.items t.queues.items c.args.self.now.queues
    (ap (λ (s : Shown). s.queues) c.self.view_is) rises))
    ∙ (posted_rows c.args.number c.args.outcome t.places.items (map row t.queues.items) c.self.invariant.rows
    ∙ ap (λ (s : Shown). map (posted c.args.number c.args.outcome) s.queues) c.self.view_is)

pub returns-clause-reserved : goal.returns-clause-reserved
returns-clause-reserved c =
    kept c.args.self.now c.self.inside.places.items _ c.self.inside.queues.items c.post_in.new.queues.items _ _ c.self.inside.next
    c.self.view_is
    (omega (arith, c.post_in.ensures.length, c.post_in.ensures.capacity)) c.post_in.ensures.room
