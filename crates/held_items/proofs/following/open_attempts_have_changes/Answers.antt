use Rattle.held_items.proofs.ChangeLaws.{open_of_change}
use Rattle.held_items.proofs.following.open_attempts_have_changes.Goals as goal

pub returns : goal.returns
returns c = open_of_change
