-- What the table shows, what is reserved beside its rows, and what its calls do (own rule).
use Rattle.std.specs.Prelude.{Bool, IfSome, List, Option, Some, false, true, ℕ, ◌==◌, ◌∷◌, ◌<◌, ◌≡◌, ◌≤◌, find, length}
use Rattle.lcm_events.specs.Same.{same_name, same_role}
use Rattle.lcm_events.specs.declared.descriptor.Vnfd.{Vnfd}
use Rattle.lcm_events.specs.declared.events.Event.{Event}
use Rattle.lcm_events.specs.declared.events.EventKind.{EventKind}
use Rattle.lcm_events.specs.declared.events.EventKind.TheVariants.{Asked, Created, Granted, Onboarded, Settled}
use Rattle.lcm_events.specs.declared.events.EventKind.TheVariants.{Subscribed}
use Rattle.lcm_events.specs.declared.attempts.Outcome.TheVariants.{Done}
use Rattle.lcm_model.specs.Allowed.{IsAllowedWithin, IsLegalWithin}
use Rattle.lcm_events.specs.declared.states.Role.{Role}
use Rattle.lcm_model.specs.Lives.{descriptor_named, descriptors, live_subscriptions}
use Rattle.vnfm_base.specs.declared.identifier.Kind.{Kind}
use Rattle.vnfm_base.specs.declared.identifier.Kind.TheVariants as kinds
use Rattle.instance_table.specs.Rows.{Rows, StandsFor, instance, instance_rows, live, made, subscription_at}
use Rattle.instance_table.specs.Rows.{subscription_rows}
use Rattle.instance_table.specs.Steps.{AreOrdered, first_going, first_instance, first_subscription, items_about}
use Rattle.instance_table.specs.declared.going.Going.{Going}
use Rattle.instance_table.specs.declared.going.Placing.{Placing}
use Rattle.instance_table.specs.declared.rows.InstanceRow.{InstanceRow}
use Rattle.instance_table.specs.declared.rows.SubscriptionRow.{SubscriptionRow}

-- what is reserved: a descriptor, an instance, a subscription, an operation and the places of a grant that are to come,
-- room for how many items of an instance, and for how many more descriptors, instances, subscriptions and operations
pub record Reserved : Type 0 where
  pub descriptor : Option Vnfd
  pub instance : Option InstanceRow
  pub subscription : Option SubscriptionRow
  pub operation : Option Going
  pub placing : Option Placing
  pub room : ℕ
  pub descriptors : ℕ
  pub instances : ℕ
  pub subscriptions : ℕ
  pub going : ℕ

-- what a contract sees of the table: its rows, and what is reserved
pub record Shown : Type 0 where
  pub rows : Rows
  pub reserved : Reserved

-- the event needs a reservation
abbrev pub needs_room : EventKind → Bool
needs_room (Onboarded d) = true
needs_room (Created i vnfd name text) = true
needs_room (Subscribed s role callback filter) = true
needs_room (Asked a) = true
needs_room (Granted o grant places spots) = true
needs_room (Settled t (Done name)) = true
needs_room _ = false

-- what the event needs is reserved beside these rows
abbrev pub HasRoom : EventKind → Rows → Reserved → Type 0
HasRoom (Onboarded d) rs r = (r.descriptor ≡ Some d) × (0 < r.descriptors)
HasRoom (Created i vnfd name text) rs r = (r.instance ≡ Some
    (first_instance (find (λ d. same_name d.descriptor_id vnfd) rs.descriptors) i vnfd name text)) × (0 < r.instances)
HasRoom (Subscribed s role callback filter) rs r = (r.subscription ≡ Some (first_subscription 0 s role callback filter))
    × (0 < r.subscriptions)
HasRoom (Asked a) rs r = (AreOrdered rs → r.operation ≡ Some (first_going rs a)) × (0 < r.going)
HasRoom (Granted o grant places spots) rs r = r.placing ≡ Some (record { places = places; spots = spots })
HasRoom (Settled t (Done name)) rs r = AreOrdered rs → IfSome (items_about rs t.occ) (λ ys. length ys < r.room)
HasRoom _ rs r = Unit {0}

-- what was reserved is reserved: what is to come as it was, and at least as much room
pub record IsKept (old new : Reserved) : Type 0 where
  pub descriptor : new.descriptor ≡ old.descriptor
  pub instance : new.instance ≡ old.instance
  pub subscription : new.subscription ≡ old.subscription
  pub operation : new.operation ≡ old.operation
  pub placing : new.placing ≡ old.placing
  pub room : old.room ≤ new.room
  pub descriptors : old.descriptors ≤ new.descriptors
  pub instances : old.instances ≤ new.instances
  pub subscriptions : old.subscriptions ≤ new.subscriptions
  pub going : old.going ≤ new.going

-- rows that stood for a legal history stand for it with the event that was allowed after it, where 64 bits can name its
-- place
abbrev pub Applies : Event → Rows → Rows → Type 0
Applies e old new = (width m : ℕ) (H : List Event) → length H < 18446744073709551615 → IsLegalWithin width m H
    → IsAllowedWithin width m H e.kind → StandsFor old H → StandsFor new (e ∷ H)

-- what is found is the descriptor of this identifier in each legal history that the rows stand for
abbrev pub FindsVnfd : List ℕ → Option Vnfd → Rows → Type 0
FindsVnfd id x rs = (width m : ℕ) (H : List Event) → IsLegalWithin width m H → StandsFor rs H
    → x ≡ descriptor_named H id

-- the first descriptor of this identifier among those that the table keeps
abbrev pub vnfd_named : Rows → List ℕ → Option Vnfd
vnfd_named rs id = find (λ d. same_name d.descriptor_id id) rs.descriptors

-- these are the rows of the live instances, in the order of their numbers, of each history that the rows stand for
abbrev pub ListsInstances : List InstanceRow → Rows → Type 0
ListsInstances xs rs = (H : List Event) → StandsFor rs H → xs ≡ instance_rows H

-- what is found is the row of the live instance of this number in each legal history that the rows stand for
abbrev pub FindsInstance : ℕ → Option InstanceRow → Rows → Type 0
FindsInstance i x rs = (width m : ℕ) (H : List Event) → IsLegalWithin width m H → StandsFor rs H → x ≡ instance H i

-- what is found is the row of this number among those of the live instances, in each legal history that the rows stand
-- for
abbrev pub FindsAmong : ℕ → Option InstanceRow → Rows → Type 0
FindsAmong i x rs = (width m : ℕ) (H : List Event) → IsLegalWithin width m H → StandsFor rs H
    → x ≡ find (λ r. r.number == i) (instance_rows H)

-- what is found is the row of the live subscription of this number in each legal history that the rows stand for
abbrev pub FindsSubscription : ℕ → Option SubscriptionRow → Rows → Type 0
FindsSubscription s x rs = (width m : ℕ) (H : List Event) → IsLegalWithin width m H → StandsFor rs H
    → x ≡ subscription_at H s

-- these are the rows of the live subscriptions, in the order of their numbers, of each history that the rows stand for
abbrev pub ListsSubscriptions : List SubscriptionRow → Rows → Type 0
ListsSubscriptions xs rs = (H : List Event) → StandsFor rs H → xs ≡ subscription_rows H

-- the table counts the kind
abbrev pub is_counted : Kind → Bool
is_counted kinds.Instance = true
is_counted kinds.Subscription = true
is_counted _ = false

-- this is how many of the kind were made in each history that the rows stand for
abbrev pub CountsMade : Kind → ℕ → Rows → Type 0
CountsMade kind n rs = (H : List Event) → StandsFor rs H → n ≡ made kind H

-- this is how many of the kind are live in each history that the rows stand for
abbrev pub CountsLive : Kind → ℕ → Rows → Type 0
CountsLive kind n rs = (H : List Event) → StandsFor rs H → n ≡ live kind H

-- this is how many descriptors each history has that the rows stand for
abbrev pub CountsDescriptors : ℕ → Rows → Type 0
CountsDescriptors n rs = (H : List Event) → StandsFor rs H → n ≡ length (descriptors H)

-- the subscription is the role's
abbrev pub is_role_of : Role → SubscriptionRow → Bool
is_role_of role r = same_role role r.role

-- this is how many subscriptions of the role are live in each history that the rows stand for
abbrev pub CountsLiveOf : Role → ℕ → Rows → Type 0
CountsLiveOf role n rs = (H : List Event) → StandsFor rs H → n ≡ length (live_subscriptions H role)

-- this is how many events each history has that the rows stand for
abbrev pub CountsEvents : ℕ → Rows → Type 0
CountsEvents n rs = (H : List Event) → StandsFor rs H → n ≡ length H
