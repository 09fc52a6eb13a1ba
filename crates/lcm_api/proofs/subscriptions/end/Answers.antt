-- The subscription that was found is live.
use Rattle.lcm_model.specs.Work.{window}
use Rattle.lcm_api.proofs.SubscriptionLemmas.{ends}
use Rattle.lcm_api.proofs.subscriptions.end.Goals as goal

pub returns-in-Some : goal.returns-in-Some
returns-in-Some g c = λ H keeps.
    ends window _ c.args.manager.now H c.args.now c.args.role _ c.args.request.now.last c.in-Some.row.now c.unsubscription.result
    c.deleted.result keeps.kept.legal (rw c.asked_id.ensures at (c.in-Some.ensures.named H keeps))
    c.unsubscription.ensures c.deleted.ensures
