use Rattle.notice_table.proofs.WaitLaws.{first_found}
use Rattle.notice_table.proofs.table.NoticeTable.first.Goals as goal

pub returns : goal.returns
returns c = record {
  finds = λ width m H legal stands. first_found width m H c.args.self.now.queues c.args.subscription _ legal stands
      c.first_of.ensures;
}
