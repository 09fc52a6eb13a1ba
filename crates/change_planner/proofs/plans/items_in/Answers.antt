use Rattle.change_planner.proofs.plans.items_in.Goals as goal

pub returns-in-Port : goal.returns-in-Port
returns-in-Port c = rw (c.in-Port.is, ← c.as_slice.ensures) c.ports_in.ensures
