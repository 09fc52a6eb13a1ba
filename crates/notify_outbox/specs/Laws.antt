-- What holds of the notices that wait (SOL 003 5.4.20, Notification endpoint).
use Rattle.std.specs.Prelude.{List, Some, false, true, ℕ, ◌<◌, ◌≡◌, ◌≤◌, ◌∷◌}
use Rattle.executor.specs.History.{HasHistory}
use Rattle.executor.specs.Managed.{Managed}
use Rattle.executor.specs.Reading.{event_in}
use Rattle.executor.specs.Work.{Extends}
use Rattle.lcm_events.specs.declared.events.Event.{Event}
use Rattle.lcm_model.specs.Allowed.{IsLegal}
use Rattle.lcm_model.specs.Notices.{is_passed, notices}
use Rattle.lcm_model.specs.Words.{IsIn}
use Rattle.notice_table.specs.Queues.{first_waiting}
use Rattle.notify_outbox.specs.Delivering.{sent}
use Rattle.notify_outbox.specs.Dispatches.{Dispatch}
use Rattle.notify_outbox.specs.Lent.{Carrier, LentTell, Point}
use Rattle.notify_outbox.specs.Rounds.{DeliversAll, RoundEnd, once_all_dispatched, stopped}
use Rattle.site_traits.specs.Counts.{SiteCounts}
use Rattle.site_traits.specs.Site.{LeavesOnly, Pair, SiteState}

-- The event of the first notice that waits is in the history, and in each that goes on from it: so where a stop leaves
-- one of these, its image has the event before the notice is posted.
abbrev pub NoticesStay : Type 0
NoticesStay = (m : ℕ) (H G : List Event) (s place : ℕ) → first_waiting m H s ≡ Some place → Extends H G
    → (e : Event) × (event_in H place ≡ Some e) × (event_in G place ≡ Some e)

-- the first notice that waits for a subscription is no earlier one in a later history
abbrev pub NoticesGoInOrder : Type 0
NoticesGoInOrder = (m : ℕ) (H G : List Event) (s place next : ℕ) → Extends H G → first_waiting m H s ≡ Some place
    → first_waiting m G s ≡ Some next → place ≤ next

-- it was neither taken nor refused five times
abbrev pub NoneIsPostedTooOften : Type 0
NoneIsPostedTooOften = (m : ℕ) (H : List Event) (s place : ℕ) → first_waiting m H s ≡ Some place
    → is_passed H s place ≡ false

-- and in a legal history each earlier notice of the subscription was
abbrev pub NoneIsSkipped : Type 0
NoneIsSkipped = (m : ℕ) (H : List Event) (s place earlier : ℕ) → IsLegal m H → first_waiting m H s ≡ Some place
    → IsIn earlier (notices m H s) → earlier < place → is_passed H s earlier ≡ true

-- an event stands at this place of the history, and of each that goes on from it
pub record HasItsEvent (H : List Event) (place : ℕ) : Type 0 where
  pub event : Event
  pub stays : (G : List Event) → Extends H G → event_in G place ≡ Some event

-- what waits first behind the dispatches of a round tells of an event that was there when its deliveries began
abbrev pub RoundsTellOfTheirBeginning : Type 0
RoundsTellOfTheirBeginning = (m now : ℕ) (H : List Event) (ps : List Dispatch) (s place : ℕ)
    → first_waiting m (once_all_dispatched now H ps) s ≡ Some place → HasItsEvent H place

-- a stop leaves a history of manager m that has this event at this place
pub record LeavesEvent (m place : ℕ) (e : Event) (p : Pair) : Type 0 where
  pub history : List Event
  pub file : HasHistory m history p.image
  pub has : event_in history place ≡ Some e

-- the dispatches of deliveries that ended so: those that were recorded, and the one that wasn't
abbrev pub all_made : List Dispatch → RoundEnd → List Dispatch
all_made ps (stopped s (sent p) why) = p ∷ ps
all_made ps other = ps

-- Of each notice that is posted in the deliveries of a round the event stands in all that a stop may leave from the
-- moment at which they begin on, and so before the post: none tells of what a stop takes back.
abbrev pub NoticesTellOfWhatStands : {S : Type 0} → LentTell → (S → SiteState) → Type 0
NoticesTellOfWhatStands {S} t state =
    (p : Point) (ps : List Dispatch) (end : RoundEnd) (n : Managed) (a b : S) (i j : SiteCounts) (c d : Carrier)
    → DeliversAll t p ps end n (record { site = state a; counts = i; carrier = c })
    (record { site = state b; counts = j; carrier = d })
    → t.site → (x : Dispatch) → IsIn x (all_made ps end)
    → (e : Event) × LeavesOnly (LeavesEvent p.manager x.place e) (state a) (state b)
