use Rattle.std.proofs.Common.{drop, map, ◌++◌, ◌≡◌}
use Rattle.held_items.specs.Items.{AreInOrder}
use Rattle.instance_table.specs.Steps.{stood_in}
use Rattle.instance_table.proofs.work.stood_of.Given as goal

abbrev pub invariant-loop-change : goal.invariant-loop-change
invariant-loop-change l = AreInOrder l.items → l.places.items ++ map (stood_in l.items) (drop l.change-index l.changes)
    ≡ map (stood_in l.items) l.changes
