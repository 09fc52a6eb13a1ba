-- What a delivery does: at most one post, of the first notice that waits for a subscription (SOL 003 5.4.20,
-- Notification endpoint).
use Rattle.std.specs.Prelude.{Err, List, None, Ok, Result, Some, ℕ, ◌≡◌}
use Rattle.executor.specs.Managed.{Managed}
use Rattle.executor.specs.Room.{HasRoomFor, IsFullWith}
use Rattle.executor.specs.Work.{Work, Works, broke, went}
use Rattle.journal_records.specs.declared.limits.TheConstants.{MAX_FILE}
use Rattle.lcm_events.specs.declared.events.Event.{Event}
use Rattle.lcm_events.specs.declared.events.PostOutcome.{PostOutcome}
use Rattle.lcm_events.specs.declared.events.PostOutcome.TheVariants as outcome
use Rattle.notice_table.specs.Queues.{first_waiting}
use Rattle.notify_outbox.specs.Dispatches.{Dispatch, once_dispatched, outcome_of, posted_event}
use Rattle.notify_outbox.specs.Lent.{Carrier, Lent, LentTell, Point, PostsNotice}
use Rattle.notify_outbox.specs.Reading.{IsUnread, nothing_recorded}
use Rattle.notify_outbox.specs.declared.faults.Delivery.{Delivery}
use Rattle.notify_outbox.specs.declared.faults.Delivery.TheVariants.{Delivered, Idle, NotTaken}
use Rattle.notify_outbox.specs.declared.faults.DeliveryFault.{DeliveryFault}
use Rattle.notify_outbox.specs.declared.faults.DeliveryFault.TheVariants as fault

-- How far a delivery came: no notice waits; the notice at this place wasn't posted; it was posted, and this was
-- answered.
pub data Course : Type 0 where
  idle : Course
  held : ℕ → Course
  sent : Dispatch → Course

-- the answer of a delivery, by what became of the notice
abbrev pub delivery_of : PostOutcome → Delivery
delivery_of outcome.Delivered = Delivered
delivery_of outcome.NotTaken = NotTaken

-- why a notice wasn't posted: it wasn't read, or its post couldn't be recorded (own rule)
abbrev pub IsHeldBy : LentTell → ℕ → DeliveryFault → Type 0
IsHeldBy t place (fault.Full end more) = Unit {0}
IsHeldBy t place why = IsUnread t.site place why

-- The course of a delivery to subscription s over history H of manager m is the one that its answer tells: none waits;
-- or the first that waits was held by this fault; or it was posted, and what became of it was recorded, unless the disk
-- failed.
abbrev pub IsCourse : LentTell → ℕ → List Event → ℕ → Course → Result Delivery DeliveryFault → Type 0
IsCourse t m H s idle (Ok done) = (first_waiting m H s ≡ None) × (done ≡ Idle)
IsCourse t m H s (held place) (Err why) = (first_waiting m H s ≡ Some place) × IsHeldBy t place why
IsCourse t m H s (sent p) (Ok done) = (p.subscription ≡ s) × (done ≡ delivery_of (outcome_of p.answer))
IsCourse t m H s (sent p) (Err fault.Disk) = p.subscription ≡ s
IsCourse t m H s _ _ = ⊥

-- the work of a delivery at this moment over history H, by how it ended
abbrev pub course_work : ℕ → List Event → Course → Result Delivery DeliveryFault → Work
course_work now H (sent p) (Ok done) = went (once_dispatched now H p)
course_work now H (sent p) (Err why) = broke H (once_dispatched now H p)
course_work now H _ (Ok done) = went H
course_work now H _ (Err why) = nothing_recorded H why

-- what a delivery does with the courier: a post that was made, and nothing else
abbrev pub Carries : LentTell → ℕ → List Event → Course → Carrier → Carrier → Type 0
Carries t m H (sent p) a b = PostsNotice t m H p a b
Carries t m H _ a b = b ≡ a

-- What the answer tells of the room behind history H, in a journal that saves so many bytes: it is full with the event
-- of a notice that wasn't posted, whatever its outcome, and has room for that of one that was.
abbrev pub TellsPostRoom : ℕ → ℕ → List Event → ℕ → Course → Result Delivery DeliveryFault → Type 0
TellsPostRoom saved now H s (held place) (Err (fault.Full end more)) =
    (how : PostOutcome) → IsFullWith MAX_FILE saved H (posted_event now s place how) end more
TellsPostRoom saved now H s (sent p) result =
    HasRoomFor MAX_FILE saved H (posted_event now s p.place (outcome_of p.answer))
TellsPostRoom saved now H s _ result = Unit {0}

-- A delivery to subscription s was made at this point of a manager, which is now n, took this course, and ended so. Its
-- journal saves as much as before.
pub record Delivers (t : LentTell) (p : Point) (s : ℕ) (c : Course) (result : Result Delivery DeliveryFault)
    (n : Managed) (w v : Lent) : Type 0 where
  pub course : IsCourse t p.manager p.history s c result
  pub carries : Carries t p.manager p.history c w.carrier v.carrier
  pub works : Works t.site p.manager p.history (course_work p.moment p.history c result) n w.site v.site
  pub saved : n.ledger.saved ≡ p.saved
  pub room : TellsPostRoom p.saved p.moment p.history s c result
