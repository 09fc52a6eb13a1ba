-- What a request comes to: the reply, and the event that it adds to the history (SOL 003 5.4). The order of the
-- refusals is an own rule.
use Rattle.std.specs.Prelude.{ℕ, List, codes}
use Rattle.executor.specs.Room.{is_full}
use Rattle.http_wire.specs.declared.request.Request.{Request}
use Rattle.lcm_events.specs.declared.events.Event.{Event}
use Rattle.lcm_events.specs.declared.states.Role.{Role}
use Rattle.lcm_api.specs.Asks.{instance_task}
use Rattle.lcm_api.specs.Creating.{create_instance}
use Rattle.lcm_api.specs.Instances.{delete_instance, list_instances, show_instance}
use Rattle.lcm_api.specs.Occurrences.{list_occurrences, show_occurrence}
use Rattle.lcm_api.specs.Planning.{Outcome, in_room, refused, told}
use Rattle.lcm_api.specs.declared.record.Planned.{Planned}
use Rattle.lcm_api.specs.declared.record.TheConstants.{MAX_REQUESTED}
use Rattle.lcm_api.specs.Routes.{not_allowed, routing}
use Rattle.lcm_api.specs.Subscriptions.{create_subscription, end_subscription, list_subscriptions, show_subscription}
use Rattle.lcm_api.specs.Tasks.{occurrence_task}
use Rattle.lcm_api.specs.declared.route.Route.{Route}
use Rattle.lcm_api.specs.declared.route.Route.TheVariants.{ListInstances, CreateInstance, ShowInstance, DeleteInstance}
use Rattle.lcm_api.specs.declared.route.Route.TheVariants.{InstanceTask, ListOccurrences, ShowOccurrence}
use Rattle.lcm_api.specs.declared.route.Route.TheVariants.{OccurrenceTask, ListSubscriptions, CreateSubscription}
use Rattle.lcm_api.specs.declared.route.Route.TheVariants.{ShowSubscription, EndSubscription}
use Rattle.lcm_api.specs.declared.route.Routing.{Routing}
use Rattle.lcm_api.specs.declared.route.Routing.TheVariants.{Nowhere, NotAllowed, Served}

-- what a request on this route comes to, where there is room for its event
abbrev pub served : Route → ℕ → List Event → ℕ → Role → Request → Planned
served ListInstances m H now role r = list_instances m H r
served CreateInstance m H now role r = create_instance m H now r
served ShowInstance m H now role r = show_instance m H r
served DeleteInstance m H now role r = delete_instance m H now r
served (InstanceTask kind) m H now role r = instance_task m H now role kind r
served ListOccurrences m H now role r = list_occurrences m H r
served ShowOccurrence m H now role r = show_occurrence m H r
served (OccurrenceTask task) m H now role r = occurrence_task m H now task r
served ListSubscriptions m H now role r = list_subscriptions m H role r
served CreateSubscription m H now role r = create_subscription m H now role r
served ShowSubscription m H now role r = show_subscription m H role r
served EndSubscription m H now role r = end_subscription m H now role r

-- what a request that goes there comes to, where there is room for its event
abbrev pub routed : Routing → ℕ → List Event → ℕ → Role → Request → Planned
routed Nowhere m H now role r = refused 404 (codes "no such resource") r.last
routed (NotAllowed x) m H now role r = told (not_allowed x r.last)
routed (Served route) m H now role r = served route m H now role r

-- What a request of this role comes to, after history H of manager m, whose journal saves so many bytes, taken at this
-- moment. The connection ends with the reply where it ends with the request (RFC 9112 9.6).
abbrev pub outcome : ℕ → ℕ → List Event → ℕ → Role → Request → Outcome
outcome m saved H now role r = in_room (is_full MAX_REQUESTED saved) H r.last (routed (routing r) m H now role r)
