-- What the deliveries of a round do: one post for each live subscription for which a notice waits, in the order of
-- their numbers (own rule over SOL 003 5.4.20).
use Rattle.std.specs.Prelude.{Bool, Err, List, Ok, Result, [], filter, is_some, length, map, not, reverse, ℕ, ◌++◌, ◌∷◌}
use Rattle.std.specs.Prelude.{◌≡◌}
use Rattle.executor.specs.Managed.{Managed}
use Rattle.executor.specs.Work.{Work, Works, went}
use Rattle.instance_table.specs.Rows.{subscription_rows}
use Rattle.lcm_events.specs.declared.events.Event.{Event}
use Rattle.lcm_model.specs.Notices.{is_delivered}
use Rattle.notice_table.specs.Queues.{first_waiting}
use Rattle.notify_outbox.specs.Delivering.{Carries, Course, IsCourse, TellsPostRoom, course_work}
use Rattle.notify_outbox.specs.Dispatches.{Dispatch, once_dispatched, outcome_of}
use Rattle.notify_outbox.specs.Lent.{Carrier, Lent, LentTell, Point, PostsNotice}
use Rattle.notify_outbox.specs.declared.faults.Delivery.{Delivery}
use Rattle.notify_outbox.specs.declared.faults.Delivery.TheVariants.{Delivered, Idle, NotTaken}
use Rattle.notify_outbox.specs.declared.faults.DeliveryFault.{DeliveryFault}
use Rattle.notify_outbox.specs.declared.rounds.Deliveries.{Deliveries}
use Rattle.site_traits.specs.Counts.{one_more}

-- the numbers of the live subscriptions, the least first (SOL 003 5.4.18)
abbrev pub live_numbers : List Event → List ℕ
live_numbers H = map (λ r. r.number) (subscription_rows H)

-- a notice waits for the subscription (SOL 003 5.4.20)
abbrev pub waits : ℕ → List Event → ℕ → Bool
waits m H s = is_some (first_waiting m H s)

-- the live subscriptions for which a notice waits, the one of the least number first
abbrev pub due : ℕ → List Event → List ℕ
due m H = filter (waits m H) (live_numbers H)

-- the history once these dispatches were recorded, the latest first, each behind those before it
abbrev pub once_all_dispatched : ℕ → List Event → List Dispatch → List Event
once_all_dispatched now H [] = H
once_all_dispatched now H (p ∷ before) = once_dispatched now (once_all_dispatched now H before) p

-- the dispatches were made with the courier, the latest first, each over the history that those before it left, and
-- from where they ended
abbrev pub DispatchesDo : LentTell → ℕ → ℕ → List Event → List Dispatch → Carrier → Carrier → Type 0
DispatchesDo t m now H [] a b = b ≡ a
DispatchesDo t m now H (p ∷ before) a c =
    (b : Carrier) × DispatchesDo t m now H before a b × PostsNotice t m (once_all_dispatched now H before) p b c

-- How the deliveries of a round ended: they went through; or the one to this subscription took this course and ended in
-- this fault.
pub data RoundEnd : Type 0 where
  through : RoundEnd
  stopped : ℕ → Course → DeliveryFault → RoundEnd

-- the work of the end of a round behind history H
abbrev pub end_work : ℕ → List Event → RoundEnd → Work
end_work now H through = went H
end_work now H (stopped s c why) = course_work now H c (Err why)

-- what the end of a round does with the courier, and tells of the room in the journal
abbrev pub EndDoes : LentTell → ℕ → ℕ → ℕ → List Event → RoundEnd → Carrier → Carrier → Type 0
EndDoes t m saved now H through a b = b ≡ a
EndDoes t m saved now H (stopped s c why) a b = IsCourse t m H s c (Err why) × Carries t m H c a b
    × TellsPostRoom saved now H s c (Err why)

-- the numbers of the subscriptions to which these were dispatched, the first one first
abbrev pub numbers_of : List Dispatch → List ℕ
numbers_of ps = reverse (map (λ p. p.subscription) ps)

-- the dispatches were made for these, in order: for all of them where the round went through, and else for a front,
-- behind which the one that was stopped comes
abbrev pub IsFor : List ℕ → List Dispatch → RoundEnd → Type 0
IsFor numbers ps through = numbers_of ps ≡ numbers
IsFor numbers ps (stopped s c why) = (rest : List ℕ) × (numbers_of ps ++ s ∷ rest ≡ numbers)

-- the counts once one delivery more ended so, as far as they go
abbrev pub counted : Delivery → Deliveries → Deliveries
counted Idle made = made
counted Delivered made = record made { delivered = one_more made.delivered }
counted NotTaken made = record made { not_taken = one_more made.not_taken }

-- how many of these were taken, or not
abbrev pub taken : List Dispatch → ℕ
taken ps = length (filter (λ p. is_delivered (outcome_of p.answer)) ps)

abbrev pub untaken : List Dispatch → ℕ
untaken ps = length (filter (λ p. not (is_delivered (outcome_of p.answer))) ps)

-- the counts are those of the dispatches
pub record CountsDispatches (made : Deliveries) (ps : List Dispatch) : Type 0 where
  pub delivered : made.delivered ≡ taken ps
  pub not_taken : made.not_taken ≡ untaken ps

-- the end is that of the answer
abbrev pub EndsRound : Result Deliveries DeliveryFault → List Dispatch → RoundEnd → Type 0
EndsRound (Ok made) ps through = CountsDispatches made ps
EndsRound (Err why) ps (stopped s c cause) = why ≡ cause
EndsRound _ ps _ = ⊥

-- These dispatches were made from this point of a manager on, which is now n, the latest first, and the round ended so:
-- for the subscriptions for which a notice waits there, in order, each behind what those before it left. Its journal
-- saves as much as before.
pub record DeliversAll (t : LentTell) (p : Point) (ps : List Dispatch) (end : RoundEnd) (n : Managed)
    (w v : Lent) : Type 0 where
  pub works : Works t.site p.manager p.history (end_work p.moment (once_all_dispatched p.moment p.history ps) end) n
      w.site v.site
  pub saved : n.ledger.saved ≡ p.saved
  pub between : Carrier
  pub dispatches_do : DispatchesDo t p.manager p.moment p.history ps w.carrier between
  pub end_does : EndDoes t p.manager p.saved p.moment (once_all_dispatched p.moment p.history ps) end between v.carrier
  pub order : IsFor (due p.manager p.history) ps end
