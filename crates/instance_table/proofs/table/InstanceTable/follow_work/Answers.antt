use Rattle.std.proofs.Common.{refl}
use Rattle.instance_table.proofs.table.InstanceTable.follow_work.Goals as goal

pub returns : goal.returns
returns c = record {
  rows = λ rises room.
      let inside = rw (← c.self.view_is) at rises in
      let held = rw (← c.self.view_is) at room in
      let works = c.work_among.ensures inside held in
      rw (← c.self.view_is, works) refl;
}
