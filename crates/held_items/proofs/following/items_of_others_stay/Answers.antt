use Rattle.held_items.proofs.ItemLaws.{others_stay}
use Rattle.held_items.proofs.following.items_of_others_stay.Goals as goal

pub returns : goal.returns
returns c = others_stay
