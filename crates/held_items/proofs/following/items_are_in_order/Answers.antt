use Rattle.held_items.proofs.ItemLaws.{items_in_order}
use Rattle.held_items.proofs.following.items_are_in_order.Goals as goal

pub returns : goal.returns
returns c = items_in_order
