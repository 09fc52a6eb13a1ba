use Rattle.held_items.proofs.ItemLaws.{items_follow}
use Rattle.held_items.proofs.following.items_follow_what_is_done.Goals as goal

pub returns : goal.returns
returns c = items_follow
