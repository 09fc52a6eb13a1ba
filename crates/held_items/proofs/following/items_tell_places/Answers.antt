use Rattle.held_items.proofs.ItemLaws.{places_told}
use Rattle.held_items.proofs.following.items_tell_places.Goals as goal

pub returns : goal.returns
returns c = places_told
