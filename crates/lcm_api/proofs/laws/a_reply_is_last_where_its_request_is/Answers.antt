-- Each reply takes over whether the request is the last.
use Rattle.std.proofs.Common.{◌≡◌, ◌+◌, ◌++◌, ℕ, List, ◌∷◌, length, Bool, true, false, Option, Some, None, Result, Ok, Err, refl}
use Rattle.std.specs.Prelude.{nat_le, codes, if◌then◌else◌}
use Rattle.json_bodies.proofs.ByteLemmas.{IsOfBytes, both_of_bytes, cancel_of_bytes, create_of_bytes, instantiate_of_bytes}
use Rattle.json_bodies.proofs.ByteLemmas.{heal_of_bytes, operate_of_bytes, scale_of_bytes, scale_to_level_of_bytes, terminate_of_bytes}
use Rattle.json_bodies.specs.Body.{cancel_of, create_of, instantiate_of}
use Rattle.json_bodies.specs.Operations.{heal_of, operate_of, scale_of, scale_to_level_of, terminate_of}
use Rattle.json_bodies.specs.declared.body.BodyFault.{BodyFault}
use Rattle.json_bodies.specs.declared.body.BodyFault.TheVariants.{Malformed, Lacks, Wrong, Memory}
use Rattle.json_bodies.specs.declared.body.CreateBody.{CreateBody}
use Rattle.lcm_events.specs.declared.events.Event.{Event}
use Rattle.lcm_events.specs.declared.descriptor.Vnfd.{Vnfd}
use Rattle.lcm_model.specs.Lives.{descriptor_named, instances_made, live_instances}
use Rattle.instance_table.specs.declared.rows.InstanceRow.{InstanceRow}
use Rattle.lcm_model.specs.Refusals.{delete_refusal}
use Rattle.lcm_model.specs.declared.refusals.Refusal.{Refusal}
use Rattle.lcm_routes.specs.Targets.{asks_filter}
use Rattle.http_wire.specs.declared.request.Request.{Request}
use Rattle.instance_table.specs.Rows.{rows}
use Rattle.json_views.specs.Instances.{instances_text}
use Rattle.json_views.specs.Occurrences.{occurrences_text}
use Rattle.lcm_events.specs.declared.asks.OpKind.{OpKind}
use Rattle.lcm_events.specs.declared.asks.OpKind.TheVariants as kinds
use Rattle.occ_table.specs.Rows as occurrences
use Rattle.occ_table.specs.Rows.{row}
use Rattle.lcm_events.specs.declared.asks.Ask.{Ask}
use Rattle.lcm_events.specs.declared.events.Operation.{Operation}
use Rattle.lcm_events.specs.declared.states.Role.{Role}
use Rattle.lcm_model.specs.Lives.{descriptor}
use Rattle.lcm_model.specs.Refusals.{ask_refusal, situation, task_refusal}
use Rattle.lcm_api.specs.Asked.{ask_by, asked_in}
use Rattle.lcm_api.specs.Asks.{accepted, ask_described, ask_found, ask_judged, ask_read, instance_task}
use Rattle.lcm_api.specs.Asks.{operation_asked, task_with, unserved_found}
use Rattle.lcm_api.specs.declared.asked.AskedBody.{AskedBody}
use Rattle.lcm_api.specs.Occurrences.{list_occurrences, named_operation, occurrence_row_text, show_asked}
use Rattle.lcm_api.specs.Creating.{body_outcome, create_instance, described_outcome, created, creation}
use Rattle.lcm_api.specs.Instances.{asked_id, delete_found, delete_judged, deleted, list_instances, named_instance, row_text}
use Rattle.lcm_api.specs.Instances.{show_found}
use Rattle.lcm_api.specs.Media.{is_json}
use Rattle.lcm_api.specs.Outcome.{routed, served}
use Rattle.lcm_api.specs.Refusals.{refusal_status, refusal_text}
use Rattle.lcm_api.specs.Planning.{in_room, recorded, refused, told}
use Rattle.lcm_replies.specs.Replies.{refusal, shown}
use Rattle.lcm_api.specs.declared.record.Planned.{Planned}
use Rattle.lcm_api.specs.declared.record.Planned.TheVariants.{Records, Told}
use Rattle.lcm_api.specs.Routes.{not_allowed, routing}
use Rattle.lcm_api.specs.Tasks.{cancel, cancel_read, occurrence_task, task_asked, task_event, task_judged, task_named, task_of}
use Rattle.lcm_api.specs.Tasks.{task_refused, task_reply, taken}
use Rattle.lcm_api.specs.declared.tasks.AskedTask.{AskedTask}
use Rattle.lcm_api.specs.declared.tasks.AskedTask.TheVariants.{Cancel, Fail, Retry, Rollback}
use Rattle.lcm_events.specs.declared.states.CancelMode.{CancelMode}
use Rattle.lcm_events.specs.declared.states.Task.{Task}
use Rattle.lcm_events.specs.declared.states.Task.TheVariants as tasks
use Rattle.lcm_model.specs.Moves.{state}
use Rattle.lcm_model.specs.Operations.{kind_of}
use Rattle.lcm_model.specs.declared.refusals.TaskRefusal.{TaskRefusal}
use Rattle.lcm_model.specs.declared.refusals.TaskRefusal.TheVariants.{NotSupported, WrongState}
use Rattle.json_bodies.specs.Words.{state_word}
use Rattle.lcm_routes.specs.declared.resources.Resource.{Resource}
use Rattle.lcm_api.specs.declared.route.Route.{Route}
use Rattle.lcm_api.specs.declared.route.Route.TheVariants.{ListInstances, CreateInstance, ShowInstance, DeleteInstance, InstanceTask}
use Rattle.lcm_api.specs.declared.route.Route.TheVariants.{ListOccurrences, ShowOccurrence, OccurrenceTask}
use Rattle.lcm_api.specs.declared.route.Route.TheVariants.{ListSubscriptions, CreateSubscription, ShowSubscription, EndSubscription}
use Rattle.instance_table.specs.Rows.{subscription_rows}
use Rattle.json_bodies.proofs.ByteLemmas.{subscription_of_bytes}
use Rattle.json_bodies.specs.Subscribing.{subscription_of}
use Rattle.json_bodies.specs.declared.subscribing.SubscriptionBody.{SubscriptionBody}
use Rattle.json_views.specs.Subscription.{subscription_text, subscriptions_text}
use Rattle.lcm_model.specs.Lives.{Subscription, live_subscriptions, subscriptions_made}
use Rattle.lcm_model.specs.declared.limits.TheConstants.{MAX_SUBSCRIPTIONS}
use Rattle.lcm_api.specs.Subscriptions.{content_text, create_subscription, end_subscribed, list_subscriptions, named_subscription}
use Rattle.lcm_api.specs.Subscriptions.{show_subscribed, subscribe_judged, subscribe_read, subscribed, subscription_asked}
use Rattle.subscription_asks.specs.Refusals.{content_refusal}
use Rattle.subscription_asks.specs.declared.refusals.SubscriptionRefusal.{SubscriptionRefusal}
use Rattle.lcm_api.specs.declared.route.Routing.{Routing}
use Rattle.lcm_api.specs.declared.route.Routing.TheVariants.{Nowhere, NotAllowed, Served}
use Rattle.executor.specs.Room.{is_full}
use Rattle.lcm_model.specs.declared.limits.TheConstants.{MAX_INSTANCES}
use Rattle.lcm_api.specs.declared.record.TheConstants.{MAX_REQUESTED}
use Rattle.lcm_api.proofs.laws.a_reply_is_last_where_its_request_is.Goals as goal

-- the connection ends with the reply where this says so
abbrev EndsAs : Bool → Planned → Type 0
EndsAs last (Told reply) = reply.last ≡ last
EndsAs last (Records event reply) = reply.last ≡ last

refusal_ends : (status : ℕ) (detail : List ℕ) (last : Bool) → EndsAs last (refused status detail last)
unfolding refusal
refusal_ends status detail last = refl

-- so it is whether there is room for the event or not
room_ends : (full : List Event → Bool) (H : List Event) (last : Bool) (planned : Planned) → EndsAs last planned
    → (in_room full H last planned).reply.last ≡ last
room_ends full H last (Told reply) is = is
room_ends full H last (Records event reply) is =
    elim (full (event ∷ H)) as (λ none. (recorded none event reply last).reply.last ≡ last) [
      | true ↦ refusal_ends 507 (codes "journal full") last
      | false ↦ is
    ]

creation_ends : (m : ℕ) (n : ℕ) (body : CreateBody) (vnfd : Vnfd) (last : Bool) → (created m n body vnfd last).last ≡ last
unfolding created
creation_ends m n body vnfd last = refl

described_ends : (m : ℕ) (H : List Event) (now : ℕ) (body : CreateBody) (last : Bool) (found : Option Vnfd)
    → EndsAs last (described_outcome m H now body last found)
described_ends m H now body last None = refusal_ends 422 (codes "vnfdId is not onboarded") last
described_ends m H now body last (Some vnfd) =
    elim (nat_le MAX_INSTANCES (length (live_instances H))) as (λ crowded.
    EndsAs last (if crowded then refused 507 (codes "too many instances") last
    else Records (creation H now body) (created m (instances_made H + 1) body vnfd last))) [
      | true ↦ refusal_ends 507 (codes "too many instances") last
      | false ↦ creation_ends m (instances_made H + 1) body vnfd last
    ]

body_ends : (m : ℕ) (H : List Event) (now : ℕ) (body : Result CreateBody BodyFault) (last : Bool) → IsOfBytes body
    → EndsAs last (body_outcome m H now body last)
body_ends m H now (Ok body) last is = described_ends m H now body last (descriptor_named H body.vnfd)
body_ends m H now (Err Malformed) last is = refusal_ends 400 (codes "malformed JSON") last
body_ends m H now (Err (Lacks name)) last is = refusal_ends 400 (codes "missing " ++ name) last
body_ends m H now (Err (Wrong name)) last is = refusal_ends 400 (codes "bad " ++ name) last
body_ends m H now (Err Memory) last is = absurd is

create_ends : (m : ℕ) (H : List Event) (now : ℕ) (r : Request) → EndsAs r.last (create_instance m H now r)
create_ends m H now r =
    elim (is_json r.media) as (λ json. EndsAs r.last (if json then body_outcome m H now (create_of r.body) r.last
    else refused 415 (codes "body must be application/json") r.last)) [
      | true ↦ body_ends m H now (create_of r.body) r.last (create_of_bytes r.body)
      | false ↦ refusal_ends 415 (codes "body must be application/json") r.last
    ]

shown_ends : (body : List ℕ) (last : Bool) → EndsAs last (told (shown body last))
unfolding shown
shown_ends body last = refl

not_allowed_ends : (x : Resource) (last : Bool) → EndsAs last (told (not_allowed x last))
unfolding not_allowed
not_allowed_ends x last = refl

list_ends : (m : ℕ) (H : List Event) (r : Request) → EndsAs r.last (list_instances m H r)
list_ends m H r =
    elim (asks_filter r.target) as (λ filtered. EndsAs r.last (if filtered then refused 400 (codes "filter is not served") r.last
    else told (shown (instances_text m (rows H)) r.last))) [
      | true ↦ refusal_ends 400 (codes "filter is not served") r.last
      | false ↦ shown_ends (instances_text m (rows H)) r.last
    ]

show_ends : (m : ℕ) (H : List Event) (last : Bool) (found : Option InstanceRow) → EndsAs last (show_found m H last found)
show_ends m H last None = refusal_ends 404 (codes "no such instance") last
show_ends m H last (Some row) = shown_ends (row_text m (rows H) row) last

deletion_ends : (last : Bool) → (deleted last).last ≡ last
unfolding deleted
deletion_ends last = refl

judged_ends : (H : List Event) (now n : ℕ) (last : Bool) (why : Option Refusal) → EndsAs last (delete_judged H now n last why)
judged_ends H now n last (Some why) = refusal_ends (refusal_status why) (refusal_text why) last
judged_ends H now n last None = deletion_ends last

delete_ends : (H : List Event) (now : ℕ) (last : Bool) (found : Option InstanceRow) → EndsAs last (delete_found H now last found)
delete_ends H now last None = refusal_ends 404 (codes "no such instance") last
delete_ends H now last (Some row) = judged_ends H now row.number last (delete_refusal H row.number)

accepted_ends : (m occ : ℕ) (last : Bool) → (accepted m occ last).last ≡ last
unfolding accepted
accepted_ends m occ last = refl

ask_judged_ends : (m : ℕ) (H : List Event) (now : ℕ) (a : Operation) (last : Bool) (why : Option Refusal)
    → EndsAs last (ask_judged m H now a last why)
ask_judged_ends m H now a last (Some why) = refusal_ends (refusal_status why) (refusal_text why) last
ask_judged_ends m H now a last None = accepted_ends m a.occ last

ask_described_ends : (m : ℕ) (H : List Event) (now : ℕ) (role : Role) (i : ℕ) (ask : Vnfd → Ask) (last : Bool) (found : Option Vnfd)
    → EndsAs last (ask_described m H now role i ask last found)
ask_described_ends m H now role i ask last None = refusal_ends 404 (codes "no such instance") last
ask_described_ends m H now role i ask last (Some d) = ask_judged_ends m H now (operation_asked H i role (ask d) d) last
    (ask_refusal d (situation d H i) (ask d))

ask_ends : (m : ℕ) (H : List Event) (now : ℕ) (role : Role) (body : AskedBody) (last : Bool) (found : Option InstanceRow)
    → EndsAs last (ask_found m H now role body last found)
ask_ends m H now role body last None = refusal_ends 404 (codes "no such instance") last
ask_ends m H now role body last (Some row) = ask_described_ends m H now role row.number (λ d. ask_by d body) last
    (descriptor H row.number)

ask_read_ends : (m : ℕ) (H : List Event) (now : ℕ) (role : Role) (read : Result AskedBody BodyFault) (r : Request) → IsOfBytes read
    → EndsAs r.last (ask_read m H now role read r)
ask_read_ends m H now role (Ok body) r is = ask_ends m H now role body r.last (named_instance m H (asked_id r))
ask_read_ends m H now role (Err Malformed) r is = refusal_ends 400 (codes "malformed JSON") r.last
ask_read_ends m H now role (Err (Lacks name)) r is = refusal_ends 400 (codes "missing " ++ name) r.last
ask_read_ends m H now role (Err (Wrong name)) r is = refusal_ends 400 (codes "bad " ++ name) r.last
ask_read_ends m H now role (Err Memory) r is = absurd is

unserved_ends : (last : Bool) (found : Option InstanceRow) → EndsAs last (unserved_found last found)
unserved_ends last None = refusal_ends 404 (codes "no such instance") last
unserved_ends last (Some row) = refusal_ends 404 (codes "task is not supported") last

-- the body of a task, where it is read, isn't refused for want of memory
abbrev AreOfBytes : Option (Result AskedBody BodyFault) → Type 0
AreOfBytes None = Unit {0}
AreOfBytes (Some read) = IsOfBytes read

asked_of_bytes : (kind : OpKind) (bytes : List ℕ) → AreOfBytes (asked_in kind bytes)
asked_of_bytes kinds.Instantiate bytes = both_of_bytes (instantiate_of bytes) _ (instantiate_of_bytes bytes) (λ body. tt)
asked_of_bytes kinds.Scale bytes = both_of_bytes (scale_of bytes) _ (scale_of_bytes bytes) (λ body. tt)
asked_of_bytes kinds.ScaleToLevel bytes = both_of_bytes (scale_to_level_of bytes) _ (scale_to_level_of_bytes bytes) (λ body. tt)
asked_of_bytes kinds.Heal bytes = both_of_bytes (heal_of bytes) _ (heal_of_bytes bytes) (λ body. tt)
asked_of_bytes kinds.Operate bytes = both_of_bytes (operate_of bytes) _ (operate_of_bytes bytes) (λ body. tt)
asked_of_bytes kinds.Terminate bytes = both_of_bytes (terminate_of bytes) _ (terminate_of_bytes bytes) (λ body. tt)
asked_of_bytes kinds.ChangeFlavour bytes = tt

task_with_ends : (m : ℕ) (H : List Event) (now : ℕ) (role : Role) (r : Request) (asked : Option (Result AskedBody BodyFault))
    → AreOfBytes asked → EndsAs r.last (task_with m H now role r asked)
task_with_ends m H now role r None are = unserved_ends r.last (named_instance m H (asked_id r))
task_with_ends m H now role r (Some read) are =
    elim (is_json r.media) as (λ json. EndsAs r.last (if json then ask_read m H now role read r
    else refused 415 (codes "body must be application/json") r.last)) [
      | true ↦ ask_read_ends m H now role read r are
      | false ↦ refusal_ends 415 (codes "body must be application/json") r.last
    ]

task_ends : (m : ℕ) (H : List Event) (now : ℕ) (role : Role) (kind : OpKind) (r : Request)
    → EndsAs r.last (instance_task m H now role kind r)
task_ends m H now role kind r = task_with_ends m H now role r (asked_in kind r.body) (asked_of_bytes kind r.body)

list_occurrences_ends : (m : ℕ) (H : List Event) (r : Request) → EndsAs r.last (list_occurrences m H r)
list_occurrences_ends m H r =
    elim (asks_filter r.target) as (λ filtered. EndsAs r.last (if filtered then refused 400 (codes "filter is not served") r.last
    else told (shown (occurrences_text m (rows H) (occurrences.rows H)) r.last))) [
      | true ↦ refusal_ends 400 (codes "filter is not served") r.last
      | false ↦ shown_ends (occurrences_text m (rows H) (occurrences.rows H)) r.last
    ]

show_asked_ends : (m : ℕ) (H : List Event) (last : Bool) (found : Option Operation) → EndsAs last (show_asked m H last found)
show_asked_ends m H last None = refusal_ends 404 (codes "no such occurrence") last
show_asked_ends m H last (Some a) = shown_ends (occurrence_row_text m (rows H) a.occ (row H a)) last

taken_ends : (last : Bool) → (taken last).last ≡ last
unfolding taken
taken_ends last = refl

task_reply_ends : (m : ℕ) (H : List Event) (asked : AskedTask) (a : Operation) (last : Bool) → (task_reply m H asked a last).last ≡ last
task_reply_ends m H Retry a last = taken_ends last
task_reply_ends m H Rollback a last = taken_ends last
task_reply_ends m H Fail a last = shown_ends (occurrence_row_text m (rows H) a.occ (row H a)) last
task_reply_ends m H (Cancel mode) a last = taken_ends last

task_refused_ends : (why : TaskRefusal) (last : Bool) → EndsAs last (task_refused why last)
task_refused_ends NotSupported last = refusal_ends 404 (codes "task is not supported") last
task_refused_ends (WrongState state) last = refusal_ends 409 (codes "operation is " ++ state_word state) last

task_judged_ends : (m : ℕ) (H : List Event) (now : ℕ) (asked : AskedTask) (a : Operation) (last : Bool) (why : Option TaskRefusal)
    → EndsAs last (task_judged m H now asked a last why)
task_judged_ends m H now asked a last (Some why) = task_refused_ends why last
task_judged_ends m H now asked a last None = task_reply_ends m (task_event now a.occ asked ∷ H) asked a last

task_asked_ends : (m : ℕ) (H : List Event) (now : ℕ) (asked : AskedTask) (last : Bool) (found : Option Operation)
    → EndsAs last (task_asked m H now asked last found)
task_asked_ends m H now asked last None = refusal_ends 404 (codes "no such occurrence") last
task_asked_ends m H now asked last (Some a) = task_judged_ends m H now asked a last
    (task_refusal (kind_of a.ask) (state H a.occ) (task_of asked))

task_named_ends : (m : ℕ) (H : List Event) (now : ℕ) (asked : AskedTask) (r : Request) → EndsAs r.last (task_named m H now asked r)
task_named_ends m H now asked r = task_asked_ends m H now asked r.last (named_operation m H (asked_id r))

cancel_body_ends : (m : ℕ) (H : List Event) (now : ℕ) (body : Result CancelMode BodyFault) (r : Request) → IsOfBytes body
    → EndsAs r.last (cancel_read m H now body r)
cancel_body_ends m H now (Ok mode) r is = task_named_ends m H now (Cancel mode) r
cancel_body_ends m H now (Err Malformed) r is = refusal_ends 400 (codes "malformed JSON") r.last
cancel_body_ends m H now (Err (Lacks name)) r is = refusal_ends 400 (codes "missing " ++ name) r.last
cancel_body_ends m H now (Err (Wrong name)) r is = refusal_ends 400 (codes "bad " ++ name) r.last
cancel_body_ends m H now (Err Memory) r is = absurd is

cancel_ends : (m : ℕ) (H : List Event) (now : ℕ) (r : Request) → EndsAs r.last (cancel m H now r)
cancel_ends m H now r =
    elim (is_json r.media) as (λ json. EndsAs r.last (if json then cancel_read m H now (cancel_of r.body) r
    else refused 415 (codes "body must be application/json") r.last)) [
      | true ↦ cancel_body_ends m H now (cancel_of r.body) r (cancel_of_bytes r.body)
      | false ↦ refusal_ends 415 (codes "body must be application/json") r.last
    ]

occurrence_task_ends : (m : ℕ) (H : List Event) (now : ℕ) (task : Task) (r : Request) → EndsAs r.last (occurrence_task m H now task r)
occurrence_task_ends m H now tasks.Retry r = task_named_ends m H now Retry r
occurrence_task_ends m H now tasks.Rollback r = task_named_ends m H now Rollback r
occurrence_task_ends m H now tasks.Fail r = task_named_ends m H now Fail r
occurrence_task_ends m H now tasks.Cancel r = cancel_ends m H now r

list_subscriptions_ends : (m : ℕ) (H : List Event) (role : Role) (r : Request) → EndsAs r.last (list_subscriptions m H role r)
list_subscriptions_ends m H role r =
    elim (asks_filter r.target) as (λ filtered. EndsAs r.last (if filtered then refused 400 (codes "filter is not served") r.last
    else told (shown (subscriptions_text m role (subscription_rows H)) r.last))) [
      | true ↦ refusal_ends 400 (codes "filter is not served") r.last
      | false ↦ shown_ends (subscriptions_text m role (subscription_rows H)) r.last
    ]

show_subscribed_ends : (m : ℕ) (last : Bool) (found : Option Subscription) → EndsAs last (show_subscribed m last found)
show_subscribed_ends m last None = refusal_ends 404 (codes "no such subscription") last
show_subscribed_ends m last (Some x) = shown_ends (subscription_text m x.number x.callback x.filter) last

end_subscribed_ends : (now : ℕ) (last : Bool) (found : Option Subscription) → EndsAs last (end_subscribed now last found)
end_subscribed_ends now last None = refusal_ends 404 (codes "no such subscription") last
end_subscribed_ends now last (Some x) = deletion_ends last

subscribed_ends : (m n : ℕ) (body : SubscriptionBody) (last : Bool) → (subscribed m n body last).last ≡ last
unfolding subscribed
subscribed_ends m n body last = refl

subscribe_judged_ends : (m : ℕ) (H : List Event) (now : ℕ) (role : Role) (body : SubscriptionBody) (last : Bool)
    (why : Option SubscriptionRefusal) → EndsAs last (subscribe_judged m H now role body last why)
subscribe_judged_ends m H now role body last (Some why) = refusal_ends 422 (content_text why) last
subscribe_judged_ends m H now role body last None =
    elim (nat_le MAX_SUBSCRIPTIONS (length (live_subscriptions H role))) as (λ crowded.
    EndsAs last (if crowded then refused 507 (codes "too many subscriptions") last
    else Records (subscription_asked H now role body) (subscribed m (subscriptions_made H + 1) body last))) [
      | true ↦ refusal_ends 507 (codes "too many subscriptions") last
      | false ↦ subscribed_ends m (subscriptions_made H + 1) body last
    ]

subscribe_read_ends : (m : ℕ) (H : List Event) (now : ℕ) (role : Role) (body : Result SubscriptionBody BodyFault) (last : Bool)
    → IsOfBytes body → EndsAs last (subscribe_read m H now role body last)
subscribe_read_ends m H now role (Ok body) last is = subscribe_judged_ends m H now role body last (content_refusal body)
subscribe_read_ends m H now role (Err Malformed) last is = refusal_ends 400 (codes "malformed JSON") last
subscribe_read_ends m H now role (Err (Lacks name)) last is = refusal_ends 400 (codes "missing " ++ name) last
subscribe_read_ends m H now role (Err (Wrong name)) last is = refusal_ends 400 (codes "bad " ++ name) last
subscribe_read_ends m H now role (Err Memory) last is = absurd is

subscription_ends : (m : ℕ) (H : List Event) (now : ℕ) (role : Role) (r : Request) → EndsAs r.last (create_subscription m H now role r)
subscription_ends m H now role r =
    elim (is_json r.media) as (λ json. EndsAs r.last (if json then subscribe_read m H now role (subscription_of r.body) r.last
    else refused 415 (codes "body must be application/json") r.last)) [
      | true ↦ subscribe_read_ends m H now role (subscription_of r.body) r.last (subscription_of_bytes r.body)
      | false ↦ refusal_ends 415 (codes "body must be application/json") r.last
    ]

served_ends : (route : Route) (m : ℕ) (H : List Event) (now : ℕ) (role : Role) (r : Request) → EndsAs r.last (served route m H now role r)
served_ends ListInstances m H now role r = list_ends m H r
served_ends CreateInstance m H now role r = create_ends m H now r
served_ends ShowInstance m H now role r = show_ends m H r.last (named_instance m H (asked_id r))
served_ends DeleteInstance m H now role r = delete_ends H now r.last (named_instance m H (asked_id r))
served_ends (InstanceTask kind) m H now role r = task_ends m H now role kind r
served_ends ListOccurrences m H now role r = list_occurrences_ends m H r
served_ends ShowOccurrence m H now role r = show_asked_ends m H r.last (named_operation m H (asked_id r))
served_ends (OccurrenceTask task) m H now role r = occurrence_task_ends m H now task r
served_ends ListSubscriptions m H now role r = list_subscriptions_ends m H role r
served_ends CreateSubscription m H now role r = subscription_ends m H now role r
served_ends ShowSubscription m H now role r = show_subscribed_ends m r.last (named_subscription m H role (asked_id r))
served_ends EndSubscription m H now role r = end_subscribed_ends now r.last (named_subscription m H role (asked_id r))

routed_ends : (to : Routing) (m : ℕ) (H : List Event) (now : ℕ) (role : Role) (r : Request) → EndsAs r.last (routed to m H now role r)
routed_ends Nowhere m H now role r = refusal_ends 404 (codes "no such resource") r.last
routed_ends (NotAllowed x) m H now role r = not_allowed_ends x r.last
routed_ends (Served route) m H now role r = served_ends route m H now role r

pub returns : goal.returns
returns c m saved H now role r = room_ends (is_full MAX_REQUESTED saved) H r.last (routed (routing r) m H now role r) (routed_ends
    (routing r) m H now role r)
