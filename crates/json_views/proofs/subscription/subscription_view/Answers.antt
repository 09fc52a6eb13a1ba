-- The view has no float, so what is written is its text.
use Rattle.std.proofs.Common.{ap, ◌∙◌}
use Rattle.serde_json.specs.Written.{has_float}
use Rattle.json_views.specs.Subscription.{subscription_text}
use Rattle.json_views.proofs.SubscriptionLemmas.{subscription_plain}
use Rattle.json_views.proofs.subscription.subscription_view.Goals as goal

pub returns : goal.returns
unfolding subscription_text
returns c = rw c.in_ok-value.ensures at (c.written.ensures.text (ap has_float c.in_ok-value.ensures
    ∙ subscription_plain c.args.manager c.args.n c.args.callback.now c.args.filter.now))
