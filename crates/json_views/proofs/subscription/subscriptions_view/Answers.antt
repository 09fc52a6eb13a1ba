-- No view has a float.
use Rattle.json_views.proofs.SubscriptionLemmas.{subscription_plain}
use Rattle.json_views.proofs.subscription.subscriptions_view.Goals as goal

pub array_text-requires-clause-plain : goal.array_text-requires-clause-plain
array_text-requires-clause-plain c = λ row. subscription_plain c.args.manager row.number row.callback row.filter
