use Rattle.held_items.proofs.PlaceLaws.{places_left}
use Rattle.held_items.proofs.following.other_events_leave_places.Goals as goal

pub returns : goal.returns
returns c = places_left
