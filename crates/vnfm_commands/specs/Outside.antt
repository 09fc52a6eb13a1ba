-- All that a run works with but for its words and the sink of its line, as one value.
use Rattle.std.specs.Prelude.{ℕ, List}
use Rattle.lcm_mouth.specs.Mouth.{MouthState}
use Rattle.lcm_mouth.specs.World as session
use Rattle.notify_outbox.specs.Lent as posting
use Rattle.notify_outbox.specs.Lent.{Carrier, carrier}
use Rattle.occ_work.specs.Around as acting
use Rattle.occ_work.specs.Around.{Around, Peer}
use Rattle.site_traits.specs.Counts.{CallCounts, SiteCounts}
use Rattle.site_traits.specs.Peers.{OrchestratorState, Post}
use Rattle.site_traits.specs.Site.{SiteState}

-- which of the objects outside tell what is done to them
pub record Tells : Type 1 where
  pub site : Type 0
  pub door : Type 0
  pub orchestrator : Type 0
  pub courier : Type 0
  pub clock : Type 0

-- All of it: the site, which has the journal's file and the jobs, with its counts, the connection, the orchestrator,
-- the courier and the clock.
pub record Outside : Type 1 where
  pub site : SiteState
  pub counts : SiteCounts
  pub mouth : MouthState
  pub orchestrator : Peer
  pub courier : Carrier
  pub clock : List ℕ

-- what an act sees of it
abbrev pub acting_tells : Tells → acting.ReachTells
acting_tells t = acting.telling t.site t.orchestrator

abbrev pub acting_outside : Outside → acting.Reach
acting_outside w = record { site = w.site; counts = w.counts; orchestrator = w.orchestrator }

-- what a delivery sees of it
abbrev pub posting_tells : Tells → posting.LentTell
posting_tells t = posting.telling t.site t.courier

abbrev pub posting_outside : Outside → posting.Lent
posting_outside w = record { site = w.site; counts = w.counts; carrier = w.courier }

-- what stands beside the journal's file
pub record Beside : Type 0 where
  pub mouth : MouthState
  pub around : Around
  pub courier : Carrier
  pub clock : List ℕ

abbrev pub beside : Outside → Beside
beside w = record { mouth = w.mouth; around = acting.around (acting_outside w); courier = w.courier; clock = w.clock }

-- these objects, each by what it tells and, but for the connection and the clock, by its counts
abbrev pub outside : SiteState → SiteCounts → MouthState → OrchestratorState → CallCounts → List Post → CallCounts
    → List ℕ → Outside
outside site counts mouth orchestrator calls courier posts clock = record {
  site = site;
  counts = counts;
  mouth = mouth;
  orchestrator = record { state = orchestrator; counts = calls };
  courier = carrier courier posts;
  clock = clock;
}

-- what tells of these objects
abbrev pub telling : Type 0 → Type 0 → Type 0 → Type 0 → Type 0 → Tells
telling site door orchestrator courier clock = record {
  site = site;
  door = door;
  orchestrator = orchestrator;
  courier =
      courier;
  clock = clock;
}

-- what a session sees of it
abbrev pub session_tells : Tells → session.WorldTells
session_tells t = session.telling t.site t.door t.clock

abbrev pub session_peers : Beside → session.Peers
session_peers b = record { mouth = b.mouth; clock = b.clock }

abbrev pub session_world : Outside → session.World
session_world w = session.world w.site w.mouth w.clock
