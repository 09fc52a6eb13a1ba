-- Nothing is wrong with the content, and the live subscriptions of the role are counted.
use Rattle.std.proofs.Common.{◌∙◌, arith, sym, subst, ◌≡◌, true, Result, IfOk}
use Rattle.json_bodies.specs.declared.body.BodyFault.{BodyFault}
use Rattle.json_bodies.specs.declared.subscribing.SubscriptionBody.{SubscriptionBody}
use Rattle.lcm_model.specs.Notices.{is_small_filter}
use Rattle.lcm_api.proofs.SubscriptionLemmas.{refuses_more, subscribes}
use Rattle.lcm_api.proofs.subscribing.create_as.Goals as goal

pub returns-then-live_of-ge-MAX_SUBSCRIPTIONS : goal.returns-then-live_of-ge-MAX_SUBSCRIPTIONS
returns-then-live_of-ge-MAX_SUBSCRIPTIONS g c = λ H keeps.
    let live = c.live_of.ensures.live H (c.instances.ensures.rows H keeps) in
    let many = c.if-live_of-ge-MAX_SUBSCRIPTIONS.true in
    refuses_more _ H c.args.now c.args.role c.args.body _ c.in_ok-refusal.field-0
    (sym c.in_ok-why.ensures ∙ c.in_default.is) (omega (arith, live, many)) c.in_ok-refusal.ensures

pub returns : goal.returns
returns g c = λ H keeps.
    let number = c.next_subscription-n.ensures.number H keeps in
    let live = c.live_of.ensures.live H (c.instances.ensures.rows H keeps) in
    let few = c.if-live_of-ge-MAX_SUBSCRIPTIONS.false in
    let small = subst (λ (read : Result SubscriptionBody BodyFault). IfOk read (λ body. is_small_filter body.asked.filter ≡ true))
    c.requires.read (c.asked_filters_are_small.ensures c.args.request.now.body) in
    subscribes c.subscribed_events_fit_records.ensures c.args.manager.now H c.args.now c.args.role c.args.body
    c.args.request.now.last c.in_ok-reply.reply c.subscription.result small (sym c.in_ok-why.ensures ∙ c.in_default.is)
    (omega (arith, live, few)) (rw number at c.subscription.ensures) (rw (c.number.ensures, number) at c.in_ok-reply.ensures)
