use Rattle.held_items.proofs.ItemLaws.{items_found}
use Rattle.held_items.proofs.following.items_are_found.Goals as goal

pub returns : goal.returns
returns c = items_found
