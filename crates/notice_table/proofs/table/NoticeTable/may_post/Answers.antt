use Rattle.std.proofs.Common.{Some, None}
use Rattle.notice_table.proofs.TableLaws.{no_place, same_place}
use Rattle.notice_table.proofs.WaitLaws.{first_found, may_post_first}
use Rattle.notice_table.proofs.table.NoticeTable.may_post.Goals as goal

pub returns-in-Some : goal.returns-in-Some
returns-in-Some c = record {
  judged = λ outcome width m H legal stands.
      may_post_first width m H c.args.subscription c.args.place outcome (Some c.in-Some.first) _
      (first_found width m H c.args.self.now.queues c.args.subscription _ legal stands c.in-Some.ensures)
      (same_place c.in-Some.first c.args.place);
}

pub returns-in-None : goal.returns-in-None
returns-in-None c = record {
  judged = λ outcome width m H legal stands.
      may_post_first width m H c.args.subscription c.args.place outcome None _
      (first_found width m H c.args.self.now.queues c.args.subscription _ legal stands c.in-None.ensures) (no_place c.args.place);
}
