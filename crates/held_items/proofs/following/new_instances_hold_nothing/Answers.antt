use Rattle.held_items.proofs.ItemLaws.{new_holds_nothing}
use Rattle.held_items.proofs.following.new_instances_hold_nothing.Goals as goal

pub returns : goal.returns
returns c = new_holds_nothing
