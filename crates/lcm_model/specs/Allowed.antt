-- Which event may follow a history, and which histories are legal (own rule over SOL 003 clause 5).
use Rattle.std.specs.Prelude.{List, None, Option, Some, [], false, filter, is_some, length, true, ℕ, ◌+◌, ◌<◌, ◌∷◌, ◌≡◌}
use Rattle.lcm_events.specs.declared.descriptor.Vnfd.{Vnfd}
use Rattle.lcm_events.specs.declared.events.Event.{Event}
use Rattle.lcm_events.specs.declared.events.EventKind.{EventKind}
use Rattle.lcm_events.specs.declared.events.EventKind.TheVariants.{Asked, CallFailed, CancelAsked, Created, Deleted}
use Rattle.lcm_events.specs.declared.events.EventKind.TheVariants.{Denied, GrantTried, Granted, Intent, Moved}
use Rattle.lcm_events.specs.declared.events.EventKind.TheVariants.{Onboarded, Posted, Settled, Subscribed, Unsubscribed}
use Rattle.lcm_events.specs.declared.events.GrantTry.{GrantTry}
use Rattle.lcm_events.specs.declared.events.GrantTry.TheVariants.{Later}
use Rattle.lcm_events.specs.declared.events.Operation.{Operation}
use Rattle.lcm_events.specs.declared.filters.Filter.{Filter}
use Rattle.lcm_events.specs.declared.places.Place.{Place}
use Rattle.lcm_events.specs.declared.states.OpState.TheVariants.{Starting}
use Rattle.lcm_events.specs.declared.states.Role.{Role}
use Rattle.lcm_model.specs.Moves.{is_active, state}
use Rattle.lcm_model.specs.Attempts.{is_open}
use Rattle.lcm_model.specs.Operations.{changes, occurrences_made, operation}
use Rattle.lcm_model.specs.Lives.{descriptor, descriptor_named, descriptors, instances_made, is_live, is_subscribed}
use Rattle.lcm_model.specs.Lives.{live_instances, live_subscriptions, subscriptions_made}
use Rattle.lcm_model.specs.Grants.{IsPlacing, has_ended, location}
use Rattle.lcm_model.specs.Holding.{place}
use Rattle.lcm_model.specs.Since.{has_call_failed, is_forced}
use Rattle.lcm_model.specs.Plans.{plan}
use Rattle.lcm_model.specs.Descriptors.{IsValid, is_given}
use Rattle.lcm_model.specs.Refusals.{ask_refusal, case_in, delete_refusal, situation}
use Rattle.lcm_model.specs.Work.{MayBeginWithin, MayMove, window}
use Rattle.lcm_model.specs.Notices.{is_small_filter, next_notice}
use Rattle.lcm_model.specs.declared.limits.TheConstants.{MAX_DESCRIPTORS, MAX_INSTANCES, MAX_SUBSCRIPTIONS}

-- the descriptor may be onboarded: it is valid, new, and there is room (own rule)
pub record MayOnboard (H : List Event) (d : Vnfd) : Type 0 where
  pub valid : IsValid d
  pub unknown : descriptor_named H d.descriptor_id ≡ None
  pub room : length (descriptors H) < MAX_DESCRIPTORS

-- the instance may be created: its number is the next, its descriptor was onboarded, and there is room (SOL 003 5.4.2)
pub record MayCreate (H : List Event) (i : ℕ) (vnfd : List ℕ) : Type 0 where
  pub number : i ≡ instances_made H + 1
  pub onboarded : is_some (descriptor_named H vnfd) ≡ true
  pub room : length (live_instances H) < MAX_INSTANCES

-- the instance may be deleted (SOL 003 5.4.3)
pub record MayDelete (H : List Event) (i : ℕ) : Type 0 where
  pub live : is_live H i ≡ true
  pub accepted : delete_refusal H i ≡ None

-- an ask isn't refused, and its changes are its plan (own rule)
abbrev pub IsPlanOf : List Event → Operation → Option Vnfd → Type 0
IsPlanOf H a None = ⊥
IsPlanOf H a (Some d) =
    (ask_refusal d (situation d H a.instance) a.ask ≡ None)
    × (a.changes ≡ plan (case_in d (situation d H a.instance) a.ask))

-- the operation may be asked for: its number is the next, its instance is live, and it is accepted with its plan (SOL
-- 003 5.4.4 to 5.4.10)
pub record MayAsk (H : List Event) (a : Operation) : Type 0 where
  pub number : a.occ ≡ occurrences_made H + 1
  pub live : is_live H a.instance ≡ true
  pub planned : IsPlanOf H a (descriptor H a.instance)

-- the grant exchange of an occurrence goes on (SOL 003 9.4.2)
pub record IsAsking (H : List Event) (o : ℕ) : Type 0 where
  pub asked : is_some (operation H o) ≡ true
  pub starting : state H o ≡ Starting
  pub goes_on : has_ended H o ≡ false
  pub not_forced : is_forced H o ≡ false

-- the try tells a location only where none is known (SOL 003 9.4.2)
abbrev pub IsNewTry : List Event → ℕ → GrantTry → Type 0
IsNewTry H o (Later at) = location H o ≡ None
IsNewTry H o _ = Unit {0}

-- the grant may be recorded: it has an identifier, and a place for each change (SOL 003 9.5.2.3)
pub record MayGrant (H : List Event) (o : ℕ) (grant : List ℕ) (places : List Place) (spots : List ℕ) : Type 0 where
  pub asking : IsAsking H o
  pub named : is_given grant ≡ true
  pub placed : IsPlacing places spots (length (changes H o))

-- the subscription may be made: its number is the next, its role has room, and its filter is small (SOL 003 5.4.18)
pub record MaySubscribe (H : List Event) (s : ℕ) (role : Role) (f : Filter) : Type 0 where
  pub number : s ≡ subscriptions_made H + 1
  pub room : length (live_subscriptions H role) < MAX_SUBSCRIPTIONS
  pub small : is_small_filter f ≡ true

-- the post may be recorded: the subscription is live, and the place is that of its first notice past the cursor (own
-- rule)
pub record MayPost (m : ℕ) (H : List Event) (s : ℕ) (place : ℕ) : Type 0 where
  pub live : is_subscribed H s ≡ true
  pub next : next_notice m H s ≡ Some place

-- the event may follow the history of manager m, where at most so many attempts of an occurrence may be open
-- (own rule over SOL 003 clause 5)
abbrev pub IsAllowedWithin : ℕ → ℕ → List Event → EventKind → Type 0
IsAllowedWithin width m H (Onboarded d) = MayOnboard H d
IsAllowedWithin width m H (Created instance vnfd name text) = MayCreate H instance vnfd
IsAllowedWithin width m H (Deleted instance) = MayDelete H instance
IsAllowedWithin width m H (Asked a) = MayAsk H a
IsAllowedWithin width m H (GrantTried o answer) = IsAsking H o × IsNewTry H o answer
IsAllowedWithin width m H (Granted o grant places spots) = MayGrant H o grant places spots
IsAllowedWithin width m H (Denied o) = IsAsking H o
IsAllowedWithin width m H (Intent tag) = MayBeginWithin width H tag
IsAllowedWithin width m H (CallFailed tag) = (is_open H tag ≡ true) × (has_call_failed H tag ≡ false)
IsAllowedWithin width m H (Settled tag outcome) = is_open H tag ≡ true
IsAllowedWithin width m H (Moved o to) = (is_some (operation H o) ≡ true) × MayMove H o (state H o) to
IsAllowedWithin width m H (CancelAsked o mode) = (is_some (operation H o) ≡ true) × (is_active (state H o) ≡ true)
IsAllowedWithin width m H (Subscribed s role callback filter) = MaySubscribe H s role filter
IsAllowedWithin width m H (Unsubscribed s) = is_subscribed H s ≡ true
IsAllowedWithin width m H (Posted s place outcome) = MayPost m H s place

-- every event was allowed after the events before it, where at most so many attempts of an occurrence may be open (own
-- rule)
abbrev pub IsLegalWithin : ℕ → ℕ → List Event → Type 0
IsLegalWithin width m [] = Unit {0}
IsLegalWithin width m (e ∷ H) = IsAllowedWithin width m H e.kind × IsLegalWithin width m H

-- the event may follow the history of manager m (own rule over SOL 003 clause 5)
abbrev pub IsAllowed : ℕ → List Event → EventKind → Type 0
IsAllowed m H kind = IsAllowedWithin window m H kind

-- every event was allowed after the events before it (own rule)
abbrev pub IsLegal : ℕ → List Event → Type 0
IsLegal m H = IsLegalWithin window m H
