-- A list and a view are told by the live subscriptions of the role.
use Rattle.std.proofs.Common.{◌≡◌, ◌∙◌, ℕ, List, Bool, true, false, Option, None, Some, ap, map, reverse, sym, inl, inr}
use Rattle.std.specs.Prelude.{codes, find, if◌then◌else◌}
use Rattle.std.specs.Str.{bytes_eq}
use Rattle.http_wire.specs.declared.request.Request.{Request}
use Rattle.instance_table.specs.Rows.{subscription_rows}
use Rattle.json_views.specs.Subscription.{subscription_id, subscriptions_text}
use Rattle.lcm_events.specs.declared.events.Event.{Event}
use Rattle.lcm_events.specs.declared.states.Role.{Role}
use Rattle.lcm_model.specs.Lives.{Subscription, live_subscriptions}
use Rattle.lcm_replies.specs.Replies.{shown}
use Rattle.lcm_routes.specs.Targets.{asks_filter}
use Rattle.serde_json.specs.Data.{array}
use Rattle.serde_json.specs.View.{items_of}
use Rattle.serde_json.specs.Written.{compact_text}
use Rattle.lcm_api.specs.Instances.{asked_id}
use Rattle.lcm_api.specs.Planning.{in_room, refused, told}
use Rattle.lcm_api.specs.Subscriptions.{list_subscriptions, named_subscription, show_subscribed, show_subscription}
use Rattle.lcm_api.specs.declared.record.Planned.{Planned}
use Rattle.lcm_api.specs.declared.record.Planned.TheVariants.{Records, Told}
use Rattle.lcm_api.specs.declared.record.TheConstants.{MAX_REQUESTED}
use Rattle.executor.specs.Room.{is_full}
use Rattle.lcm_api.proofs.SubscriptionLemmas.{made_value, text_told}
use Rattle.lcm_api.proofs.laws.roles_see_their_own.Goals as goal

-- nothing is recorded, so that the room in the journal doesn't matter
abbrev OnlyTells : Planned → Type 0
OnlyTells (Told reply) = Unit {0}
OnlyTells (Records event reply) = ⊥

same_room : (f g : List Event → Bool) (H K : List Event) (last : Bool) (p q : Planned) → OnlyTells p → p ≡ q
    → in_room f H last p ≡ in_room g K last q
same_room f g H K last (Told reply) q only is = ap (in_room g K last) is
same_room f g H K last (Records event reply) q only is = absurd only

list_tells : (m : ℕ) (H : List Event) (role : Role) (r : Request) → OnlyTells (list_subscriptions m H role r)
list_tells m H role r =
    elim (asks_filter r.target) as (λ filtered. OnlyTells (if filtered then refused 400 (codes "filter is not served") r.last
    else told (shown (subscriptions_text m role (subscription_rows H)) r.last))) [
      | true ↦ tt
      | false ↦ tt
    ]

same_list : (m : ℕ) (H K : List Event) (role : Role) (r : Request) → live_subscriptions H role ≡ live_subscriptions K role
    → list_subscriptions m H role r ≡ list_subscriptions m K role r
same_list m H K role r same =
    let text : subscriptions_text m role (subscription_rows H) ≡ subscriptions_text m role (subscription_rows K) =
    text_told m H role
    ∙ (ap (λ (xs : List Subscription). compact_text (array (items_of (reverse (map (made_value m) xs))))) same
    ∙ sym (text_told m K role)) in
    ap (λ (body : List ℕ). if asks_filter r.target then refused 400 (codes "filter is not served") r.last
    else told (shown body r.last)) text

show_tells : (m : ℕ) (last : Bool) (found : Option Subscription) → OnlyTells (show_subscribed m last found)
show_tells m last None = tt
show_tells m last (Some x) = tt

same_shown : (m : ℕ) (H K : List Event) (role : Role) (r : Request) → live_subscriptions H role ≡ live_subscriptions K role
    → show_subscription m H role r ≡ show_subscription m K role r
same_shown m H K role r same =
    ap (λ (xs : List Subscription). show_subscribed m r.last (find (λ x. bytes_eq (subscription_id m x.number) (asked_id r)) xs)) same

pub returns : goal.returns
returns c m saved other H K now later role r (inl is) same = rw is
    (same_room (is_full MAX_REQUESTED saved) (is_full MAX_REQUESTED other) H K r.last (list_subscriptions m H role r)
    (list_subscriptions m K role r) (list_tells m H role r)
    (same_list m H K role r same))
returns c m saved other H K now later role r (inr is) same = rw is
    (same_room (is_full MAX_REQUESTED saved) (is_full MAX_REQUESTED other) H K r.last (show_subscription m H role r)
    (show_subscription m K role r)
    (show_tells m r.last (named_subscription m H role (asked_id r))) (same_shown m H K role r same))
