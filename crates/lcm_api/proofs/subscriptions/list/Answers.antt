-- An identifier can carry the number of each subscription.
use Rattle.std.proofs.Common.{arith}
use Rattle.lcm_model.specs.Work.{window}
use Rattle.lcm_api.proofs.SubscriptionLemmas.{rows_numbered}
use Rattle.lcm_api.proofs.subscriptions.list.Goals as goal

pub subscriptions_view-requires : goal.subscriptions_view-requires
subscriptions_view-requires g c =
    let H = c.requires.kept.0 in
    let keeps = c.requires.kept.1 in
    let few = c.instances.ensures.few H keeps in
    let stands = c.instances.ensures.rows H keeps in
    rw (c.subscriptions-rows.ensures.lists H stands) (rows_numbered window _ H keeps.kept.legal (omega (arith, few)))
