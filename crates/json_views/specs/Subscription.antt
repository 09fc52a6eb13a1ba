-- The view of a subscription (SOL 003 5.5.2.16, LccnSubscription). Members stand in byte order of their names.
use Rattle.std.specs.Prelude.{List, None, Option, Some, codes, filter, if◌then◌else◌, length, ℕ, ◌++◌, ◌==◌}
use Rattle.serde_json.specs.Data.{Data, Members, member, no_members, object, string}
use Rattle.serde_json.specs.Written.{compact_text}
use Rattle.instance_table.specs.declared.rows.SubscriptionRow.{SubscriptionRow}
use Rattle.json_bodies.specs.Words.{notice_word, operation_type_word, state_word}
use Rattle.json_views.specs.Links.{link}
use Rattle.json_views.specs.Views.{array_of, member_where}
use Rattle.lcm_events.specs.Same.{same_role}
use Rattle.lcm_events.specs.declared.filters.Filter.{Filter}
use Rattle.lcm_events.specs.declared.states.Role.{Role}
use Rattle.vnfm_base.specs.Ident.{ident, ident_text}
use Rattle.vnfm_base.specs.declared.identifier.Kind.TheVariants.{Subscription}

-- the text of the identifier of subscription n (RFC 9562 4)
unfoldable pub subscription_id : ℕ → ℕ → List ℕ
subscription_id manager n = ident_text (ident manager Subscription n)

-- where subscription n is found (SOL 003 5.4.19)
unfoldable pub subscription_path : ℕ → ℕ → List ℕ
subscription_path manager n = codes "/vnflcm/v1/subscriptions/" ++ subscription_id manager n

-- the texts of the values of a list, where it has some
abbrev pub texts_where : {A : Type 0} → (A → List ℕ) → List A → Option Data
texts_where text xs = if length xs == 0 then None else Some (array_of (λ x. string (text x)) xs)

-- an object, where it has members
abbrev pub object_where : Members → Option Data
object_where no_members = None
object_where (member name d rest) = Some (object (member name d rest))

-- which instances a filter is about (SOL 003 5.5.3, VnfInstanceSubscriptionFilter)
abbrev pub about_members : Filter → Members
about_members f =
    member_where (codes "vnfInstanceIds") (texts_where (λ text. text) f.instances)
    (member_where (codes "vnfInstanceNames") (texts_where (λ text. text) f.names)
    (member_where (codes "vnfdIds") (texts_where (λ text. text) f.vnfds)
    no_members))

-- the lists of a filter that ask something (SOL 003 5.5.3, LifecycleChangeNotificationsFilter)
abbrev pub filter_members : Filter → Members
filter_members f =
    member_where (codes "notificationTypes") (texts_where notice_word f.notices)
    (member_where (codes "operationStates") (texts_where state_word f.states)
    (member_where (codes "operationTypes") (texts_where operation_type_word f.operations)
    (member_where (codes "vnfInstanceSubscriptionFilter") (object_where (about_members f))
    no_members)))

-- subscription n, whose notices go to this callback and which has this filter (SOL 003 5.5.2.16)
abbrev pub subscription_value : ℕ → ℕ → List ℕ → Filter → Data
subscription_value manager n callback f =
    object
    (member (codes "_links") (object (member (codes "self") (link (subscription_path manager n)) no_members))
    (member (codes "callbackUri") (string callback)
    (member_where (codes "filter") (object_where (filter_members f))
    (member (codes "id") (string (subscription_id manager n))
    no_members))))

-- its text
unfoldable pub subscription_text : ℕ → ℕ → List ℕ → Filter → List ℕ
subscription_text manager n callback f = compact_text (subscription_value manager n callback f)

-- the subscriptions of a role, in their order, of which others are passed over (SOL 003 5.4.18; own rule)
abbrev pub subscriptions_value : ℕ → Role → List SubscriptionRow → Data
subscriptions_value manager role rows =
    array_of (λ row. subscription_value manager row.number row.callback row.filter)
    (filter (λ row. same_role row.role role) rows)

-- their text
unfoldable pub subscriptions_text : ℕ → Role → List SubscriptionRow → List ℕ
subscriptions_text manager role rows = compact_text (subscriptions_value manager role rows)
