use Rattle.std.proofs.Common.{arith, sym, map}
use Rattle.std.proofs.lemmas.List.{length-map}
use Rattle.instance_table.proofs.Sorted.{not_within, update-past}
use Rattle.notice_table.specs.Rows.{row, row_posted}
use Rattle.notice_table.proofs.Lists.{changed_written}
use Rattle.notice_table.proofs.queues.post_at.Goals as goal

pub returns-in-Some-clause-rows : goal.returns-in-Some-clause-rows
returns-in-Some-clause-rows c =
    changed_written row (row_posted c.args.number c.args.outcome) c.args.at c.args.queues.now.items c.follow_post.new.self
    c.in-Some.queue.now (c.in-Some.ensures.item.3.0) (c.in-Some.ensures.item.1)
    c.follow_post.ensures.row

pub returns-in-None-clause-rows : goal.returns-in-None-clause-rows
returns-in-None-clause-rows c =
    let same = length-map c.args.queues.now.items row in
    sym (update-past (row_posted c.args.number c.args.outcome) c.args.at (map row c.args.queues.now.items)
    (not_within c.args.at _ (λ h. c.in-None.ensures.variant.1 (omega (arith, h, same, c.args.queues.now.ok.0)))))
