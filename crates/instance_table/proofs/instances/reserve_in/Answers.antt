use Rattle.std.proofs.Common.{◌<◌, Option, length, subst}
use Rattle.std.specs.Prelude.{IfSome}
use Rattle.instance_table.specs.declared.rows.InstanceRow.{InstanceRow}
use Rattle.instance_table.proofs.RoomLaws.{on_ok}
use Rattle.instance_table.proofs.Sorted.{found_at}
use Rattle.instance_table.proofs.instances.reserve_in.Goals as goal

pub returns-clause-room : goal.returns-clause-room
returns-clause-room c =
    on_ok _ _ c.reserve_at.result
    (λ h rises.
    subst (λ (y : Option InstanceRow). IfSome y (λ r. length r.holding.items < c.reserve_at.new.editor))
    (found_at (λ r. r.number) c.args.number c.args.rows.now.items c.as_slice.result.now c.instance_place-at.result c.as_slice.ensures.value
    rises c.instance_place-at.ensures.bound c.instance_place-at.ensures.place)
    h)
    c.reserve_at.ensures.room
