-- There are members.
use Rattle.json_views.proofs.SubscriptionLemmas.{some_shown}
use Rattle.json_views.proofs.subscription.object_where.Goals as goal

pub returns-else-is_empty : goal.returns-else-is_empty
returns-else-is_empty c = some_shown c.args.members c.is_empty.result c.is_empty.ensures c.if-is_empty.false
