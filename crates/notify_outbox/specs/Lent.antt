-- What a delivery is lent beside the journal, a courier, and what a post does there (SOL 003 5.4.20, Notification
-- endpoint).
use Rattle.std.specs.Prelude.{List, Some, ℕ, ◌≡◌}
use Rattle.lcm_events.specs.declared.events.Event.{Event}
use Rattle.notice_table.specs.Queues.{first_waiting}
use Rattle.notify_outbox.specs.Dispatches.{Dispatch, body_at, callback}
use Rattle.site_traits.specs.Counts.{CallCounts, SiteCounts}
use Rattle.site_traits.specs.Peers.{Post, PostCause, Posts}
use Rattle.site_traits.specs.Site.{SiteState}

-- which of the objects outside tell what is done to them
pub record LentTell : Type 1 where
  pub site : Type 0
  pub courier : Type 0

abbrev pub telling : Type 0 → Type 0 → LentTell
telling site courier = record { site = site; courier = courier }

-- what a courier shows: the posts that got a status, where it tells, and its counts
pub record Carrier : Type 0 where
  pub state : List Post
  pub counts : CallCounts

abbrev pub carrier : List Post → CallCounts → Carrier
carrier state counts = record { state = state; counts = counts }

-- all that a delivery is lent: the site with its counts, and the courier
pub record Lent : Type 1 where
  pub site : SiteState
  pub counts : SiteCounts
  pub carrier : Carrier

abbrev pub lent : SiteState → SiteCounts → List Post → CallCounts → Lent
lent site counts state calls = record {
  site = site;
  counts = counts;
  carrier = carrier state calls;
}

-- where notices are taken up: the manager's number, how many bytes its journal saves, the moment, and the history, the
-- latest event first
pub record Point : Type 0 where
  pub manager : ℕ
  pub saved : ℕ
  pub moment : ℕ
  pub history : List Event

abbrev pub point : ℕ → ℕ → ℕ → List Event → Point
point m saved now H = record { manager = m; saved = saved; moment = now; history = H }

-- One post was made, of the first notice that waits for its subscription over history H of manager m, to its callback,
-- and was answered so. Where the site tells, its body is the notice's, by the history; where the courier tells, it
-- stands behind the posts before it exactly where it got a status (SOL 003 5.4.20).
pub record PostsNotice (t : LentTell) (m : ℕ) (H : List Event) (p : Dispatch) (a b : Carrier) : Type 0 where
  pub uri : List ℕ
  pub body : List ℕ
  pub next : first_waiting m H p.subscription ≡ Some p.place
  pub to : callback H p.subscription ≡ Some uri
  pub of : t.site → body_at m H p.subscription p.place ≡ Some body
  pub posts : t.courier → Posts uri body p.answer a.state b.state
  pub counts : PostCause p.answer a.counts b.counts
