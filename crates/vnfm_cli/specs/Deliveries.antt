-- In which order a run posts notices, and what each tells of (SOL 003 5.4.20, Notification endpoint).
use Rattle.std.specs.List.{AllByRecursion}
use Rattle.std.specs.Prelude.{List, [], ◌∷◌, Some, false, true, ℕ, ◌<◌, ◌≡◌, ◌≤◌}
use Rattle.executor.specs.Work.{Extends}
use Rattle.lcm_events.specs.declared.events.Event.{Event}
use Rattle.lcm_model.specs.Notices.{is_passed, notices}
use Rattle.lcm_model.specs.Words.{IsIn}
use Rattle.lcm_sessions.specs.Session.{life}
use Rattle.notice_table.specs.Queues.{first_waiting}
use Rattle.notify_outbox.specs.Delivering.{sent}
use Rattle.notify_outbox.specs.Dispatches.{Dispatch}
use Rattle.notify_outbox.specs.Laws.{HasItsEvent}
use Rattle.notify_outbox.specs.Lent.{Carrier, LentTell, PostsNotice}
use Rattle.notify_outbox.specs.Rounds as outbox
use Rattle.notify_outbox.specs.Rounds.{RoundEnd, once_all_dispatched}
use Rattle.vnfm_commands.specs.Course.{Close, Course, Opening, Round, Service, moment_of, once_acted, once_made, opened}
use Rattle.vnfm_commands.specs.Course.{serving, undelivered}

-- a dispatch of a run: the history with which the deliveries of its round began, and the one over which it was made
pub record Sending : Type 0 where
  pub beginning : List Event
  pub history : List Event
  pub dispatch : Dispatch

-- The dispatches of a round whose deliveries began with history H, each over the history that those before it left, and
-- behind them those of the rounds before; the latest first.
abbrev pub sent_behind : ℕ → List Event → List Dispatch → List Sending → List Sending
sent_behind now H [] earlier = earlier
sent_behind now H (p ∷ before) earlier =
    record { beginning = H; history = once_all_dispatched now H before; dispatch = p }
    ∷ sent_behind now H before earlier

-- and in front of them the one that was made, but not recorded
abbrev pub sent_last : ℕ → List Event → List Dispatch → RoundEnd → List Sending → List Sending
sent_last now H ps (outbox.stopped s (sent p) why) earlier =
    record { beginning = H; history = once_all_dispatched now H ps; dispatch = p } ∷ earlier
sent_last now H ps other earlier = earlier

-- the dispatches of these rounds
abbrev pub sent_in_rounds : ℕ → ℕ → List Event → List Round → List Sending
sent_in_rounds m saved H [] = []
sent_in_rounds m saved H (r ∷ before) =
    sent_behind (moment_of r.turn) (once_acted m saved (life (once_made m saved) H before) r.visit r.turn) r.dispatches
    (sent_in_rounds m saved H before)

-- those at the end of rounds, and behind them the earlier ones
abbrev pub sent_at_close : ℕ → ℕ → List Event → Close → List Sending → List Sending
sent_at_close m saved H (undelivered visit turn ps end why) earlier =
    sent_last (moment_of turn) (once_acted m saved H visit turn) ps end
    (sent_behind (moment_of turn) (once_acted m saved H visit turn) ps earlier)
sent_at_close m saved H other earlier = earlier

-- all dispatches of rounds behind this opening, the latest first
abbrev pub sent_by : Opening → Service → List Sending
sent_by start service =
    sent_at_close start.number start.saved (life (once_made start.number start.saved) start.history service.rounds)
    service.close (sent_in_rounds start.number start.saved start.history service.rounds)

-- The notice is the first of its subscription that waited: it was neither taken nor refused five times before, and each
-- earlier notice of the subscription was, so that none is skipped (SOL 003 5.4.20).
pub record IsNext (m : ℕ) (x : Sending) : Type 0 where
  pub first : first_waiting m x.history x.dispatch.subscription ≡ Some x.dispatch.place
  pub again : is_passed x.history x.dispatch.subscription x.dispatch.place ≡ false
  pub skipped : (earlier : ℕ) → IsIn earlier (notices m x.history x.dispatch.subscription)
      → earlier < x.dispatch.place → is_passed x.history x.dispatch.subscription earlier ≡ true

-- the first of these is of no earlier notice than the second, where both are to one subscription
abbrev pub ComesAfter : Sending → Sending → Type 0
ComesAfter x y = y.dispatch.subscription ≡ x.dispatch.subscription → y.dispatch.place ≤ x.dispatch.place

-- the places of the notices to each subscription never fall
abbrev pub NeverFalls : List Sending → Type 0
NeverFalls [] = Unit {0}
NeverFalls (x ∷ earlier) = AllByRecursion (ComesAfter x) earlier × NeverFalls earlier

-- The notice tells of an event that stood at its place in the history with which the deliveries of its round began, on
-- which the one goes on over which it was posted: so each history that goes on from the beginning has the event (own
-- rule).
pub record TellsOfWhatStands (x : Sending) : Type 0 where
  pub upon : Extends x.beginning x.history
  pub event : HasItsEvent x.beginning x.dispatch.place

-- these posts were made with the courier, the latest first, each behind those before it, and no other
abbrev pub ArePosted : LentTell → ℕ → List Sending → Carrier → Carrier → Type 0
ArePosted t m [] a b = b ≡ a
ArePosted t m (x ∷ earlier) a c = (b : Carrier) × ArePosted t m earlier a b × PostsNotice t m x.history x.dispatch b c

-- What the courier was called for are these dispatches, and each subscription's are of its notices in their order.
pub record GoesInOrder (t : LentTell) (m : ℕ) (xs : List Sending) (a b : Carrier) : Type 0 where
  pub posted : ArePosted t m xs a b
  pub next : AllByRecursion (IsNext m) xs
  pub rises : NeverFalls xs

-- all notices of a run are posted in the order of their subscriptions' notices
abbrev pub PostsInOrder : LentTell → Course → Carrier → Carrier → Type 0
PostsInOrder t (opened start (serving service)) a b = GoesInOrder t start.number (sent_by start service) a b
PostsInOrder t other a b = b ≡ a

-- and all tell of what stood before them
abbrev pub TellOfWhatStands : Course → Type 0
TellOfWhatStands (opened start (serving service)) = AllByRecursion TellsOfWhatStands (sent_by start service)
TellOfWhatStands other = Unit {0}
