use Rattle.held_items.proofs.ItemLaws.{others_leave}
use Rattle.held_items.proofs.following.other_events_leave_items.Goals as goal

pub returns : goal.returns
returns c = others_leave
