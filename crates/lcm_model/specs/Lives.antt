-- What was made and what is live: descriptors, instances, subscriptions (SOL 003 5.4.2, VNF instances; 5.4.18,
-- Subscriptions).
use Rattle.std.specs.Prelude.{Bool, List, None, Option, Some, filter, filter_map, find, is_some, length, not}
use Rattle.std.specs.Prelude.{option_and_then, ℕ, ◌&&◌, ◌==◌}
use Rattle.lcm_events.specs.Same.{same_name, same_role}
use Rattle.lcm_events.specs.declared.descriptor.Vnfd.{Vnfd}
use Rattle.lcm_events.specs.declared.events.Event.{Event}
use Rattle.lcm_events.specs.declared.events.EventKind.{EventKind}
use Rattle.lcm_events.specs.declared.events.EventKind.TheVariants.{Created, Deleted, Onboarded, Subscribed}
use Rattle.lcm_events.specs.declared.events.EventKind.TheVariants.{Unsubscribed}
use Rattle.lcm_events.specs.declared.filters.Filter.{Filter}
use Rattle.lcm_events.specs.declared.states.Role.{Role}
use Rattle.lcm_model.specs.Words.{is_among}

-- an instance as it was created (SOL 003 5.4.2)
pub record CreatedInstance : Type 0 where
  pub instance : ℕ
  pub vnfd : List ℕ
  pub name : Option (List ℕ)
  pub text : Option (List ℕ)

-- a subscription as it was made (SOL 003 5.4.18)
pub record Subscription : Type 0 where
  pub number : ℕ
  pub role : Role
  pub callback : List ℕ
  pub filter : Filter

-- the descriptor that an event onboards (own rule)
abbrev pub onboarded_in : EventKind → Option Vnfd
onboarded_in (Onboarded d) = Some d
onboarded_in _ = None

-- the instance that an event creates (own rule)
abbrev pub created_in : EventKind → Option CreatedInstance
created_in (Created instance vnfd name text) = Some (record {
  instance = instance;
  vnfd = vnfd;
  name = name;
  text =
      text;
})
created_in _ = None

-- the number of the instance that an event deletes (own rule)
abbrev pub deleted_in : EventKind → Option ℕ
deleted_in (Deleted instance) = Some instance
deleted_in _ = None

-- the subscription that an event makes (own rule)
abbrev pub subscribed_in : EventKind → Option Subscription
subscribed_in (Subscribed subscription role callback filter) =
    Some (record { number = subscription; role = role; callback = callback; filter = filter })
subscribed_in _ = None

-- the number of the subscription that an event ends (own rule)
abbrev pub unsubscribed_in : EventKind → Option ℕ
unsubscribed_in (Unsubscribed subscription) = Some subscription
unsubscribed_in _ = None

-- the descriptors that were onboarded, the latest first (own rule)
abbrev pub descriptors : List Event → List Vnfd
descriptors H = filter_map (λ e. onboarded_in e.kind) H

-- the descriptor of this identifier (own rule)
abbrev pub descriptor_named : List Event → List ℕ → Option Vnfd
descriptor_named H id = find (λ d. same_name d.descriptor_id id) (descriptors H)

-- the instances that were ever created, the latest first (SOL 003 5.4.2)
abbrev pub creations : List Event → List CreatedInstance
creations H = filter_map (λ e. created_in e.kind) H

-- the instance of this number as it was created (SOL 003 5.4.3)
abbrev pub creation : List Event → ℕ → Option CreatedInstance
creation H i = find (λ x. x.instance == i) (creations H)

-- how many instances were made (own rule)
abbrev pub instances_made : List Event → ℕ
instances_made H = length (creations H)

-- the instance was deleted (SOL 003 5.4.3)
abbrev pub is_deleted : List Event → ℕ → Bool
is_deleted H i = is_among (filter_map (λ e. deleted_in e.kind) H) i

-- the instance was created and not deleted (SOL 003 5.4.3)
abbrev pub is_live : List Event → ℕ → Bool
is_live H i = is_some (creation H i) && not (is_deleted H i)

-- an instance was not deleted (SOL 003 5.4.3)
unfoldable pub is_kept : List Event → CreatedInstance → Bool
is_kept H x = not (is_deleted H x.instance)

-- the instances that are live, the latest first (SOL 003 5.4.2)
abbrev pub live_instances : List Event → List CreatedInstance
live_instances H = filter (is_kept H) (creations H)

-- the descriptor of an instance (SOL 003 5.5.2.2, VnfInstance)
abbrev pub descriptor : List Event → ℕ → Option Vnfd
descriptor H i = option_and_then (λ x. descriptor_named H x.vnfd) (creation H i)

-- the subscriptions that were ever made, the latest first (SOL 003 5.4.18)
abbrev pub subscriptions : List Event → List Subscription
subscriptions H = filter_map (λ e. subscribed_in e.kind) H

-- the subscription of this number as it was made (SOL 003 5.4.19)
abbrev pub subscription : List Event → ℕ → Option Subscription
subscription H s = find (λ x. x.number == s) (subscriptions H)

-- how many subscriptions were made (own rule)
abbrev pub subscriptions_made : List Event → ℕ
subscriptions_made H = length (subscriptions H)

-- the subscription was ended (SOL 003 5.4.19)
abbrev pub is_unsubscribed : List Event → ℕ → Bool
is_unsubscribed H s = is_among (filter_map (λ e. unsubscribed_in e.kind) H) s

-- the subscription was made and not ended (SOL 003 5.4.19)
abbrev pub is_subscribed : List Event → ℕ → Bool
is_subscribed H s = is_some (subscription H s) && not (is_unsubscribed H s)

-- a subscription is the role's and was not ended (SOL 003 5.4.19)
unfoldable pub is_live_of : List Event → Role → Subscription → Bool
is_live_of H role x = same_role role x.role && not (is_unsubscribed H x.number)

-- the live subscriptions of a role, the latest first: each role sees its own alone (SOL 003 5.4.18)
abbrev pub live_subscriptions : List Event → Role → List Subscription
live_subscriptions H role = filter (is_live_of H role) (subscriptions H)
