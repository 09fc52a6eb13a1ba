-- What is made sure of before a post: room for the event that records it, whatever it is answered.
use Rattle.std.specs.Prelude.{Bool, Err, List, Ok, Result, false, true, ℕ, ◌∷◌}
use Rattle.executor.specs.Room.{HasRoomFor, IsFullWith}
use Rattle.executor.specs.Work.{Work, broke, went}
use Rattle.journal_records.specs.declared.limits.TheConstants.{MAX_FILE}
use Rattle.lcm_events.specs.declared.events.Event.{Event}
use Rattle.lcm_events.specs.declared.events.EventKind.{EventKind}
use Rattle.lcm_events.specs.declared.events.EventKind.TheVariants.{Posted}
use Rattle.lcm_events.specs.declared.events.PostOutcome.{PostOutcome}
use Rattle.notify_outbox.specs.Dispatches.{posted_event}
use Rattle.notify_outbox.specs.declared.faults.DeliveryFault.{DeliveryFault}
use Rattle.notify_outbox.specs.declared.faults.DeliveryFault.TheVariants as fault

-- the event is that a notice was posted
abbrev pub is_post : EventKind → Bool
is_post (Posted subscription place outcome) = true
is_post _ = false

-- what the answer tells of the room for this event behind history H, in a journal that saves so many bytes
abbrev pub TellsRoomOf : ℕ → List Event → Event → Result (Unit {0}) DeliveryFault → Type 0
TellsRoomOf saved H e (Ok done) = HasRoomFor MAX_FILE saved H e
TellsRoomOf saved H e (Err (fault.Full end more)) = IsFullWith MAX_FILE saved H e end more
TellsRoomOf saved H e (Err other) = ⊥

-- the same of a post, for every outcome: what is asked for before it, also want of memory
abbrev pub TellsRoomBefore : ℕ → ℕ → List Event → ℕ → ℕ → Result (Unit {0}) DeliveryFault → Type 0
TellsRoomBefore saved now H s place (Err fault.Memory) = Unit {0}
TellsRoomBefore saved now H s place result =
    (how : PostOutcome) → TellsRoomOf saved H (posted_event now s place how) result

-- what recording an event for which there is room does to a history: the event is in it, or the disk failed on the way
-- there
abbrev pub recorded_post : List Event → Event → Result (Unit {0}) DeliveryFault → Work
recorded_post H e (Ok done) = went (e ∷ H)
recorded_post H e (Err why) = broke H (e ∷ H)
