-- What a request to make, list, show or end subscriptions comes to (SOL 003 5.4.18, Subscriptions; 5.4.19, Individual
-- subscription). A role sees and ends its own alone. The order of the refusals and their texts are an own rule.
use Rattle.std.specs.Prelude.{ℕ, ◌+◌, ◌≡◌, List, length, codes, nat_le, if◌then◌else◌, Bool, false, Option, Some, None}
use Rattle.std.specs.Prelude.{Result, Ok, Err, find}
use Rattle.std.specs.Str.{bytes_eq}
use Rattle.http_wire.specs.declared.request.Request.{Request}
use Rattle.instance_table.specs.Rows.{subscription_rows}
use Rattle.json_bodies.specs.Subscribing.{subscription_of}
use Rattle.json_bodies.specs.declared.body.BodyFault.{BodyFault}
use Rattle.json_bodies.specs.declared.subscribing.SubscriptionBody.{SubscriptionBody}
use Rattle.json_views.specs.Subscription.{subscription_id, subscription_path, subscription_text, subscriptions_text}
use Rattle.lcm_events.specs.declared.events.Event.{Event}
use Rattle.lcm_events.specs.declared.events.EventKind.TheVariants.{Subscribed, Unsubscribed}
use Rattle.lcm_events.specs.declared.states.Role.{Role}
use Rattle.lcm_model.specs.Lives.{Subscription, live_subscriptions, subscriptions_made}
use Rattle.lcm_model.specs.declared.limits.TheConstants.{MAX_SUBSCRIPTIONS}
use Rattle.lcm_routes.specs.Targets.{asks_filter}
use Rattle.lcm_replies.specs.Replies.{shown}
use Rattle.lcm_replies.specs.declared.reply.Reply.{Reply}
use Rattle.subscription_asks.specs.Refusals.{content_refusal}
use Rattle.subscription_asks.specs.declared.refusals.SubscriptionRefusal.{SubscriptionRefusal}
use Rattle.subscription_asks.specs.declared.refusals.SubscriptionRefusal.TheVariants.{NotHttpUri, ProductsNotServed}
use Rattle.lcm_api.specs.Bodies.{unread}
use Rattle.lcm_api.specs.Instances.{asked_id, deleted}
use Rattle.lcm_api.specs.Media.{is_json}
use Rattle.lcm_api.specs.Planning.{refused, told}
use Rattle.lcm_api.specs.declared.record.Planned.{Planned}
use Rattle.lcm_api.specs.declared.record.Planned.TheVariants.{Records}
use Rattle.lcm_api.specs.declared.subscribing.SubscribeVerdict.{SubscribeVerdict}
use Rattle.lcm_api.specs.declared.subscribing.SubscribeVerdict.TheVariants as verdict

-- the live subscriptions of the asking role, in the order of their numbers; a filter isn't served (SOL 003 5.4.18.3.2)
abbrev pub list_subscriptions : ℕ → List Event → Role → Request → Planned
list_subscriptions m H role r =
    if asks_filter r.target then refused 400 (codes "filter is not served") r.last
    else told (shown (subscriptions_text m role (subscription_rows H)) r.last)

-- the live subscription of the asking role that has this identifier (SOL 003 5.4.19)
abbrev pub named_subscription : ℕ → List Event → Role → List ℕ → Option Subscription
named_subscription m H role id = find (λ x. bytes_eq (subscription_id m x.number) id) (live_subscriptions H role)

-- no live subscription of the role has the identifier (SOL 003 5.4.19)
abbrev pub no_subscription : Bool → Planned
no_subscription last = refused 404 (codes "no such subscription") last

-- the subscription is shown (SOL 003 5.4.19.3.2, 5.5.2.16)
abbrev pub show_subscribed : ℕ → Bool → Option Subscription → Planned
show_subscribed m last None = no_subscription last
show_subscribed m last (Some x) = told (shown (subscription_text m x.number x.callback x.filter) last)

abbrev pub show_subscription : ℕ → List Event → Role → Request → Planned
show_subscription m H role r = show_subscribed m r.last (named_subscription m H role (asked_id r))

-- the event by which subscription n ends (SOL 003 5.4.19.3.5)
abbrev pub unsubscription : ℕ → ℕ → Event
unsubscription now n = record { moment = now; kind = Unsubscribed n }

-- the subscription is ended (SOL 003 5.4.19.3.5)
abbrev pub end_subscribed : ℕ → Bool → Option Subscription → Planned
end_subscribed now last None = no_subscription last
end_subscribed now last (Some x) = Records (unsubscription now x.number) (deleted last)

abbrev pub end_subscription : ℕ → List Event → ℕ → Role → Request → Planned
end_subscription m H now role r = end_subscribed now r.last (named_subscription m H role (asked_id r))

-- the event of a request to subscribe: the next subscription, of the asking role, with what the body says (SOL 003
-- 5.4.18.3.1)
abbrev pub subscription_asked : List Event → ℕ → Role → SubscriptionBody → Event
subscription_asked H now role body = record {
  moment = now;
  kind =
      Subscribed (subscriptions_made H + 1) role body.callback body.asked.filter;
}

-- the answer to it: the subscription, and where it is found (SOL 003 5.4.18.3.1, 5.5.2.16)
unfoldable pub subscribed : ℕ → ℕ → SubscriptionBody → Bool → Reply
subscribed m n body last = record {
  status = 201;
  location = Some (subscription_path m n);
  allow = None;
  problem = false;
  body =
      subscription_text m n body.callback body.asked.filter;
  last = last;
}

-- why the content of a request to subscribe is refused, in words (own rule)
abbrev pub content_text : SubscriptionRefusal → List ℕ
content_text NotHttpUri = codes "callbackUri is not an http URI"
content_text ProductsNotServed = codes "vnfProductsFromProviders is not served"

-- a request to subscribe with this body, by why its content is refused: else one more of the role may be live
abbrev pub subscribe_judged : ℕ → List Event → ℕ → Role → SubscriptionBody → Bool → Option SubscriptionRefusal → Planned
subscribe_judged m H now role body last (Some why) = refused 422 (content_text why) last
subscribe_judged m H now role body last None =
    if nat_le MAX_SUBSCRIPTIONS (length (live_subscriptions H role))
    then refused 507 (codes "too many subscriptions") last
    else Records (subscription_asked H now role body) (subscribed m (subscriptions_made H + 1) body last)

-- a request to subscribe whose body says this
abbrev pub subscribe_as : ℕ → List Event → ℕ → Role → SubscriptionBody → Bool → Planned
subscribe_as m H now role body last = subscribe_judged m H now role body last (content_refusal body)

-- a request to subscribe with this body, as it is read
abbrev pub subscribe_read : ℕ → List Event → ℕ → Role → Result SubscriptionBody BodyFault → Bool → Planned
subscribe_read m H now role (Ok body) last = subscribe_as m H now role body last
subscribe_read m H now role (Err fault) last = told (unread fault last)

-- what a request to subscribe comes to: its body is to be JSON (SOL 003 5.4.18.3.1)
abbrev pub create_subscription : ℕ → List Event → ℕ → Role → Request → Planned
create_subscription m H now role r =
    if is_json r.media then subscribe_read m H now role (subscription_of r.body) r.last
    else refused 415 (codes "body must be application/json") r.last

-- whatever the history, a request to subscribe is refused with this reply, or is one of this body
abbrev pub IsSubscribeVerdict : Request → SubscribeVerdict → Type 0
IsSubscribeVerdict r (verdict.Refused reply) = (m : ℕ) (H : List Event) (now : ℕ) (role : Role)
    → create_subscription m H now role r ≡ told reply
IsSubscribeVerdict r (verdict.Subscribes body) = (subscription_of r.body ≡ Ok body)
    × ((m : ℕ) (H : List Event) (now : ℕ) (role : Role)
    → create_subscription m H now role r ≡ subscribe_as m H now role body r.last)
