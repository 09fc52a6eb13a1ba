use Rattle.occ_table.proofs.GoingLaws.{followed_by}
use Rattle.occ_table.proofs.table.OccTable.next_active.Goals as goal

pub returns : goal.returns
returns c = record {
  follows = λ width m H legal is. followed_by width m H c.args.after _ c.args.self.now.active legal is
      c.first_above.ensures;
}
