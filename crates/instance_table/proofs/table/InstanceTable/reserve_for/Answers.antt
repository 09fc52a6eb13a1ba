use Rattle.std.proofs.Common.{OnOk, Ok, Err, Result, sym, subst}
use Rattle.lcm_events.specs.declared.events.EventKind.{EventKind}
use Rattle.instance_table.specs.Table.{HasRoom}
use Rattle.instance_table.proofs.table.InstanceTable.reserve_for.Goals as goal

both : {A B : Type 0} → (P Q : Type 0) (r : Result A B) → OnOk r P → OnOk r Q → OnOk r (P × Q)
both P Q (Ok x) p q = (p, q)
both P Q (Err x) p q = p

pub returns-in-Created-clause-room : goal.returns-in-Created-clause-room
returns-in-Created-clause-room c =
    subst (λ (k : EventKind). OnOk c.reserve_instance.result (HasRoom k c.reserve_instance.new.self.rows
    c.reserve_instance.new.self.reserved)) (sym c.in-Created.is)
    (both _ _ c.reserve_instance.result c.reserve_instance.ensures.laid c.reserve_instance.ensures.spare)
