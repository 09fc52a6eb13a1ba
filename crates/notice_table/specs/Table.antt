-- What the table shows, what is reserved beside its queues, and what its calls do (own rule).
use Rattle.std.specs.List.{All}
use Rattle.std.specs.Prelude.{Bool, IfSome, IsTrue, List, None, Option, Some, false, length, map, option_map, true, ℕ}
use Rattle.std.specs.Prelude.{◌+◌, ◌<◌, ◌∷◌, ◌↔◌, ◌≡◌, ◌≤◌}
use Rattle.lcm_events.specs.declared.events.Event.{Event}
use Rattle.lcm_events.specs.declared.events.EventKind.{EventKind}
use Rattle.lcm_events.specs.declared.events.EventKind.TheVariants.{Posted, Subscribed}
use Rattle.lcm_events.specs.declared.events.PostOutcome.{PostOutcome}
use Rattle.lcm_model.specs.Allowed.{IsAllowedWithin, IsLegalWithin}
use Rattle.lcm_model.specs.Notices.{facts_of}
use Rattle.subscription_filter.specs.Facts.{facts_in}
use Rattle.subscription_filter.specs.declared.facts.NoticeFacts.{NoticeFacts}
use Rattle.notice_table.specs.Queues.{Queue, StandsFor, first_waiting}
use Rattle.notice_table.specs.Steps.{first_queue, heard}

-- what a contract sees of the table: its queues, for how many more places there is room, for how many more words of
-- marks each queue has room, for how many more queues there is room, and the queue that is to come
pub record Shown : Type 0 where
  pub queues : List Queue
  pub ahead : ℕ
  pub rooms : List ℕ
  pub spare : ℕ
  pub next : Option Queue

-- there is room for one more notice: for its place, and for a mark in each queue
pub record HasPlaces (t : Shown) : Type 0 where
  pub place : 0 < t.ahead
  pub marks : All (λ n. 0 < n) t.rooms

-- where the event makes a notice, there is room for it
abbrev pub HasRoomForNotice : Option NoticeFacts → Shown → Type 0
HasRoomForNotice None t = Unit {0}
HasRoomForNotice (Some n) t = HasPlaces t

-- where the event makes a subscription, its queue is laid aside and has a place
abbrev pub HasRoomForQueue : EventKind → Shown → Type 0
HasRoomForQueue (Subscribed s role callback f) t = (t.next ≡ Some (first_queue s f)) × (0 < t.spare)
HasRoomForQueue _ t = Unit {0}

-- what the event with this notice needs is reserved
pub record HasRoom (k : EventKind) (n : Option NoticeFacts) (t : Shown) : Type 0 where
  pub notice : HasRoomForNotice n t
  pub queue : HasRoomForQueue k t

-- the event makes a subscription
abbrev pub makes_queue : EventKind → Bool
makes_queue (Subscribed s role callback f) = true
makes_queue _ = false

-- what was reserved is reserved: the queue that is to come as it was, at least as much room for queues, and room for a
-- notice where there was room for one
pub record IsKept (old new : Shown) : Type 0 where
  pub next : new.next ≡ old.next
  pub spare : old.spare ≤ new.spare
  pub places : HasPlaces old → HasPlaces new

-- this is the notice that the event makes after the history of manager m
pub record IsNoticeOf (m : ℕ) (H : List Event) (k : EventKind) (n : Option NoticeFacts) : Type 0 where
  pub facts : option_map facts_in n ≡ facts_of H k
  pub manager : IfSome n (λ x. x.manager ≡ m)

-- the queues after the event at this place, where it makes a notice
abbrev pub heard_of : ℕ → Option NoticeFacts → List Queue → List Queue
heard_of place None qs = qs
heard_of place (Some n) qs = map (heard n.manager place (facts_in n)) qs

-- queues of a legal history are those of it with the event that was allowed after it, at its place and with its notice
abbrev pub Applies : Event → ℕ → Option NoticeFacts → List Queue → List Queue → Type 0
Applies e place n old new =
    (width m : ℕ) (H : List Event) → IsLegalWithin width m H → IsAllowedWithin width m H e.kind → place ≡ length H + 1
    → IsNoticeOf m H e.kind n → StandsFor m old H → StandsFor m new (e ∷ H)

-- what is found is the place of the first notice that waits for the live subscription of this number in each legal
-- history of these queues
abbrev pub FindsFirst : ℕ → Option ℕ → List Queue → Type 0
FindsFirst s x qs = (width m : ℕ) (H : List Event) → IsLegalWithin width m H → StandsFor m qs H
    → x ≡ first_waiting m H s

-- the answer is whether a post of the notice at this place may be recorded after each legal history of these queues
abbrev pub Judges : ℕ → ℕ → Bool → List Queue → Type 0
Judges s place answer qs =
    (outcome : PostOutcome) (width m : ℕ) (H : List Event) → IsLegalWithin width m H → StandsFor m qs H
    → IsTrue answer ↔ IsAllowedWithin width m H (Posted s place outcome)
