-- What the body of a request to subscribe says (SOL 003 5.5.2.15, LccnSubscriptionRequest): the first member that is
-- missing or wrong, in the body's order, or what it says.
use Rattle.std.specs.Prelude.{Err, List, Ok, Option, Result, [], codes, false, if◌then◌else◌, is_some}
use Rattle.std.specs.Prelude.{unwrap_or}
use Rattle.std.specs.Prelude.{ℕ}
use Rattle.lcm_events.specs.declared.filters.NoticeKind.{NoticeKind}
use Rattle.lcm_events.specs.declared.filters.OperationType.{OperationType}
use Rattle.lcm_events.specs.declared.states.OpState.{OpState}
use Rattle.serde_json.specs.Data.{Data}
use Rattle.serde_json.specs.Find.{as_object}
use Rattle.json_bodies.specs.Body.{and_then, document, line_in, member_of, name_in, needed, object_read, optional}
use Rattle.json_bodies.specs.Body.{optional_read}
use Rattle.json_bodies.specs.Forms.{list_in, notice_in, operation_type_in, state_in}
use Rattle.json_bodies.specs.declared.body.BodyFault.{BodyFault}
use Rattle.json_bodies.specs.declared.body.BodyFault.TheVariants.{Wrong}
use Rattle.json_bodies.specs.declared.subscribing.AskedFilter.{AskedFilter}
use Rattle.json_bodies.specs.declared.subscribing.AskedInstances.{AskedInstances}
use Rattle.json_bodies.specs.declared.subscribing.SubscriptionBody.{SubscriptionBody}

-- the value of the member of this name is an object, or the member is wrong (own rule)
abbrev pub object_or_wrong : List ℕ → Data → Result (Unit {0}) BodyFault
object_or_wrong name d = if is_some (as_object d) then Ok tt else Err (Wrong name)

-- what the members of an object say, which is the value of the member of this name (own rule)
abbrev pub inside_object : {A : Type 0} → (Data → Result A BodyFault) → List ℕ → Data → Result A BodyFault
inside_object members name d = and_then (object_or_wrong name d) (λ is. members d)

-- the values of a list of at most 64; an absent one has none (own limit)
abbrev pub values_in : {A : Type 0} → (Data → Option A) → List ℕ → Data → Result (List A) BodyFault
values_in form name d = and_then (optional (list_in 64 form) name d) (λ values. Ok (unwrap_or values []))

-- which instances a filter is about; an absent list names none (SOL 003 5.5.3, VnfInstanceSubscriptionFilter)
abbrev pub instances_in : Data → Result AskedInstances BodyFault
instances_in d =
    and_then (values_in name_in (codes "vnfdIds") d) (λ vnfds.
    and_then (values_in name_in (codes "vnfInstanceIds") d) (λ instances.
    and_then (values_in name_in (codes "vnfInstanceNames") d) (λ names.
    Ok (record {
      vnfds = vnfds;
      instances = instances;
      names = names;
      products = is_some (member_of (codes "vnfProductsFromProviders") d);
    }))))

-- a filter that is about all instances
abbrev pub all_instances : AskedInstances
all_instances = record { vnfds = []; instances = []; names = []; products = false }

-- the filter of a subscription; absent lists are empty (SOL 003 5.5.3, LifecycleChangeNotificationsFilter)
abbrev pub filter_for : AskedInstances → List NoticeKind → List OperationType → List OpState → AskedFilter
filter_for about notices operations states = record {
  filter = record {
    vnfds = about.vnfds;
    instances = about.instances;
    names = about.names;
    notices = notices;
    operations = operations;
    states = states;
  };
  products = about.products;
}

-- which instances a filter is about, all where it says nothing of it (SOL 003 5.5.3)
abbrev pub about_in : Data → Result AskedInstances BodyFault
about_in d =
    and_then (optional_read (inside_object instances_in) (codes "vnfInstanceSubscriptionFilter")
    (member_of (codes "vnfInstanceSubscriptionFilter") d)) (λ about.
    Ok (unwrap_or about all_instances))

abbrev pub filter_in : Data → Result AskedFilter BodyFault
filter_in d =
    and_then (about_in d) (λ about.
    and_then (values_in notice_in (codes "notificationTypes") d) (λ notices.
    and_then (values_in operation_type_in (codes "operationTypes") d) (λ operations.
    and_then (values_in state_in (codes "operationStates") d) (λ states.
    Ok (filter_for about notices operations states)))))

-- a filter that asks nothing
abbrev pub no_filter : AskedFilter
no_filter = filter_for all_instances [] [] []

-- a subscription's; no filter asks nothing (SOL 003 5.5.2.15, LccnSubscriptionRequest)
abbrev pub subscription_in : Data → Result SubscriptionBody BodyFault
subscription_in d =
    and_then (needed line_in (codes "callbackUri") d) (λ callback.
    and_then (optional_read (inside_object filter_in) (codes "filter") (member_of (codes "filter") d)) (λ asked.
    Ok (record { callback = callback; asked = unwrap_or asked no_filter })))

abbrev pub subscription_of : List ℕ → Result SubscriptionBody BodyFault
subscription_of bytes = object_read subscription_in (document bytes)
