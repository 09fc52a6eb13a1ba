use Rattle.std.proofs.Common.{◌∙◌, Option, ap, sym}
use Rattle.instance_table.specs.Rows.{Rows}
use Rattle.instance_table.specs.Steps.{worked}
use Rattle.instance_table.specs.declared.work.Work.{Work}
use Rattle.instance_table.proofs.RoomLaws.{room_worked}
use Rattle.instance_table.proofs.table.InstanceTable.follow_done.Goals as goal

pub returns-in-Some : goal.returns-in-Some
returns-in-Some c = record {
  rows = λ ordered.
      let rs : Rows = c.args.self.now.rows in
      let is = sym (c.work_done.ensures ordered.going) ∙ c.in-Some.is in
      c.follow_work.ensures.rows ordered.instances (room_worked c.args.tag.now c.args.name rs c.in-Some.work c.args.self.now.reserved.room
      ordered is (c.requires.room ordered))
      ∙ ap (λ (w : Option Work). worked w rs) (sym is);
}
