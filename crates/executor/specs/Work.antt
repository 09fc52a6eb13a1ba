-- What work does to a manager's journal, said by the histories that it leads to (own rule). A history has the latest
-- event first.
use Rattle.std.specs.Prelude.{◌≡◌, ℕ, Bool, true, false, List, ◌∷◌, ◌++◌, Result, Ok, Err}
use Rattle.executor.specs.History.{HasHistory}
use Rattle.executor.specs.Managed.{Managed, Keeps, StandsFor, IsReady}
use Rattle.executor.specs.declared.manager.WorkFault.{WorkFault}
use Rattle.executor.specs.declared.manager.WorkFault.TheVariants as fault
use Rattle.journal_core.specs.Load.{SyncsAndReads}
use Rattle.lcm_events.specs.declared.events.Event.{Event}
use Rattle.lcm_jobs.specs.Sound.{IsSound}
use Rattle.lcm_model.specs.Allowed.{IsLegal}
use Rattle.site_traits.specs.Site.{Pair, SiteState, KeepsJobs, LeavesOnly}

-- what became of work: it went well up to this history; or it did so, and then the disk failed on the way to that one
pub data Work : Type 0 where
  went : List Event → Work
  broke : List Event → List Event → Work

-- the history that stands: all of it was acknowledged
abbrev pub stood : Work → List Event
stood (went G) = G
stood (broke G K) = G

-- the history that the work aimed at
abbrev pub aimed : Work → List Event
aimed (went G) = G
aimed (broke G K) = K

-- the disk failed
abbrev pub failed : Work → Bool
failed (went G) = false
failed (broke G K) = true

-- the second history is the first, and more events
pub record Extends (H G : List Event) : Type 0 where
  pub more : List Event
  pub is : G ≡ more ++ H

-- the history grew to the one that stands, and that to the one that was aimed at, which is legal
pub record Grows (m : ℕ) (H : List Event) (w : Work) : Type 0 where
  pub to_stood : Extends H (stood w)
  pub to_aimed : Extends (stood w) (aimed w)
  pub legal : IsLegal m (aimed w)

-- a stop leaves a history from the first of these to the second
pub record HasSome (m : ℕ) (H K : List Event) (p : Pair) : Type 0 where
  pub history : List Event
  pub from : Extends H history
  pub to : Extends history K
  pub file : HasHistory m history p.image

-- a stop leaves a history from the first of these to the second, and jobs that are sound with it
pub record HasSomeSound (m : ℕ) (H K : List Event) (p : Pair) : Type 0 where
  pub history : List Event
  pub from : Extends H history
  pub to : Extends history K
  pub file : HasHistory m history p.image
  pub sound : IsSound m history p.jobs

-- At each moment of the work a stop leaves a history from the one at its start to the one that it aimed at, and jobs
-- that are sound with it; at its end a history from what stands on, and jobs that are sound with it.
pub record StaysSound (m : ℕ) (H : List Event) (w : Work) (a b : SiteState) : Type 0 where
  pub any_moment : LeavesOnly (HasSomeSound m H (aimed w)) a b
  pub at_exit : (p : Pair) → b.since b.moment p → HasSomeSound m (stood w) (aimed w) p

-- At each moment of the work a stop leaves a history from the one at its start to the one that it aimed at. At its end
-- a stop leaves what stands, or more of what was aimed at; unless the disk failed, nothing is pending there, and the
-- file has what stands.
pub record AtSite (m : ℕ) (H : List Event) (w : Work) (n : Managed) (a b : SiteState) : Type 0 where
  pub any_moment : LeavesOnly (HasSome m H (aimed w)) a b
  pub at_exit : (p : Pair) → b.since b.moment p → HasSome m (stood w) (aimed w) p
  pub stands : failed w ≡ false → StandsFor n (stood w) b

-- The work did this to the file and to history H of manager m, which is now n: it keeps what stands, and is closed
-- where the disk failed.
pub record WorksAtFile (tells : Type 0) (m : ℕ) (H : List Event) (w : Work) (n : Managed)
    (a b : SiteState) : Type 0 where
  pub number : n.ledger.manager ≡ m
  pub keeps : Keeps n (stood w)
  pub closed : n.ledger.closed ≡ failed w
  pub grows : Grows m H w
  pub site : tells → AtSite m H w n a b

-- The same of work in which jobs may have been begun, looked at and aborted: where they are sound with H, each stop
-- leaves sound ones.
pub record WorksWithJobs (tells : Type 0) (m : ℕ) (H : List Event) (w : Work) (n : Managed)
    (a b : SiteState) : Type 0 where
  pub at_file : WorksAtFile tells m H w n a b
  pub sound : tells → IsSound m H a.jobs → StaysSound m H w a b

-- The same of work that left the jobs alone.
pub record Works (tells : Type 0) (m : ℕ) (H : List Event) (w : Work) (n : Managed) (a b : SiteState) : Type 0 where
  pub number : n.ledger.manager ≡ m
  pub keeps : Keeps n (stood w)
  pub closed : n.ledger.closed ≡ failed w
  pub grows : Grows m H w
  pub site : tells → AtSite m H w n a b
  pub sound : tells → IsSound m H a.jobs → StaysSound m H w a b
  pub jobs : tells → KeepsJobs a b

-- what recording an event does to a history, by its answer: the event is in it, or the disk failed on the way there, or
-- nothing was done
abbrev pub recorded : List Event → Event → Result (Unit {0}) WorkFault → Work
recorded H e (Ok done) = went (e ∷ H)
recorded H e (Err fault.Disk) = broke H (e ∷ H)
recorded H e (Err other) = went H

-- Works in a row from the first of these sites to the last are one, which comes to what the last of them comes to.
abbrev pub Joins : Type 0 → SiteState → SiteState → SiteState → Type 0
Joins tells a b c = (m : ℕ) (H G : List Event) (w : Work) (n o : Managed) → Works tells m H (went G) n a b
    → Works tells m G w o b c → Works tells m H w o a c

-- the same of works with jobs
abbrev pub WorksWithJobsJoin : Type 0 → SiteState → SiteState → SiteState → Type 0
WorksWithJobsJoin tells a b c =
    (m : ℕ) (H G : List Event) (w : Work) (n o : Managed) → WorksWithJobs tells m H (went G) n a b
    → WorksWithJobs tells m G w o b c → WorksWithJobs tells m H w o a c

-- work that leaves the jobs alone is one with jobs
abbrev pub WorksAreWithJobs : Type 0 → SiteState → SiteState → Type 0
WorksAreWithJobs tells a b = (m : ℕ) (H : List Event) (w : Work) (n : Managed) → Works tells m H w n a b
    → WorksWithJobs tells m H w n a b

-- where nothing is done that is a work
abbrev pub Idles : Type 0 → SiteState → Type 0
Idles tells s = (m : Managed) (H : List Event) → IsReady tells m H s → Works tells m.ledger.manager H (went H) m s s

-- behind work in which the disk didn't fail the manager is ready for more
abbrev pub LeadsOn : Type 0 → SiteState → SiteState → Type 0
LeadsOn tells a b = (m : ℕ) (H : List Event) (w : Work) (n : Managed) → Works tells m H w n a b → failed w ≡ false
    → IsReady tells n (stood w) b

-- the same of work with jobs
abbrev pub WorksWithJobsLeadOn : Type 0 → SiteState → SiteState → Type 0
WorksWithJobsLeadOn tells a b =
    (m : ℕ) (H : List Event) (w : Work) (n : Managed) → WorksWithJobs tells m H w n a b → failed w ≡ false
    → IsReady tells n (stood w) b

-- what is read, and whatever a stop leaves now, has the history for which the manager stands
pub record HasEverywhere (m : ℕ) (H : List Event) (s : SiteState) : Type 0 where
  pub here : HasHistory m H s.image
  pub left : (p : Pair) → s.since s.moment p → HasHistory m H p.image

abbrev pub Stays : SiteState → Type 0
Stays s = (m : Managed) (H : List Event) → StandsFor m H s → HasEverywhere m.ledger.manager H s

-- Where a journal was opened that any stop leaves with history H, and then work was done on it, a stop leaves a history
-- from H to the one that the work aimed at; and where the jobs were sound with H, it leaves sound ones.
abbrev pub Follows : Type 0 → SiteState → SiteState → SiteState → Type 0
Follows tells a b c = tells → SyncsAndReads a b → (m : ℕ) (H : List Event) (w : Work) (n : Managed)
    → WorksWithJobs tells m H w n b c
    → ((p : Pair) → a.since a.moment p → HasHistory m H p.image)
    → LeavesOnly (HasSome m H (aimed w)) a c × (IsSound m H a.jobs → StaysSound m H w a c)

-- the opening of a journal leaves the jobs alone, and so does work behind it
abbrev pub LeavesJobs : Type 0 → SiteState → SiteState → SiteState → Type 0
LeavesJobs tells a b c = tells → SyncsAndReads a b → KeepsJobs a b
    × ((m : ℕ) (H : List Event) (w : Work) (n : Managed) → Works tells m H w n b c → KeepsJobs a c)
