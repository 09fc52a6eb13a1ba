use Rattle.std.proofs.Common.{◌≡◌, ◌==◌, ◌∙◌, Some, find, option_map, subst, sym}
use Rattle.instance_table.specs.Rows.{Rows}
use Rattle.instance_table.specs.Steps.{Rises}
use Rattle.instance_table.proofs.RoomLaws.{on_ok, room_about}
use Rattle.instance_table.proofs.table.InstanceTable.reserve_done.Goals as goal

pub returns-in-Some-clause-room : goal.returns-in-Some-clause-room
returns-in-Some-clause-room c =
    on_ok _ _ c.reserve_item.result
    (λ room ordered.
    let kept = c.reserve_item.ensures.kept in
    let old : Rows = c.args.self.now.rows in
    let new : Rows = c.reserve_item.new.self.rows in
    let is : option_map (λ g. g.instance) (find (λ g. g.occ == c.args.occ) old.going) ≡ Some c.in-Some.number =
    sym (c.instance_of.ensures (subst (λ (rs : Rows). Rises (λ g. g.occ) rs.going) kept ordered.going)) ∙ c.in-Some.is in
    room_about new c.args.occ c.in-Some.number c.reserve_item.new.self.reserved.room
    (subst (λ (rs : Rows). option_map (λ g. g.instance) (find (λ g. g.occ == c.args.occ) rs.going) ≡ Some c.in-Some.number) (sym kept) is)
    (room ordered.instances))
    c.reserve_item.ensures.room
