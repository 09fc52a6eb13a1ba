use Rattle.held_items.proofs.PlaceLaws.{removals_stay}
use Rattle.held_items.proofs.following.places_of_removals_stay.Goals as goal

pub returns : goal.returns
returns c = removals_stay
