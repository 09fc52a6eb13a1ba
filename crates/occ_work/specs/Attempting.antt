-- What an act does that makes an attempt: it begins it, or looks at its job (own rule).
use Rattle.std.specs.Prelude.{Bool, List, [], false, true, ◌∷◌, ◌≡◌, Result, IfOk}
use Rattle.executor.specs.Managed.{Managed}
use Rattle.executor.specs.Work.{WorksAtFile}
use Rattle.executor.specs.declared.manager.WorkFault.{WorkFault}
use Rattle.lcm_events.specs.declared.attempts.Outcome.TheVariants as outcome
use Rattle.lcm_events.specs.declared.attempts.Tag.{Tag}
use Rattle.lcm_events.specs.declared.events.EventKind.{EventKind}
use Rattle.lcm_events.specs.declared.events.EventKind.TheVariants.{CallFailed, Intent, Settled}
use Rattle.site_traits.specs.Counts.{SiteCounts}
use Rattle.site_traits.specs.Jobs.{Advances}
use Rattle.site_traits.specs.Site.{OnJobs, SiteState}
use Rattle.site_traits.specs.declared.jobs.AbortAnswer.{AbortAnswer}
use Rattle.site_traits.specs.declared.jobs.BeginAnswer.{BeginAnswer}
use Rattle.site_traits.specs.declared.jobs.BeginAnswer.TheVariants as begin
use Rattle.occ_work.specs.Acting.{Records, TellsRoomFor, recording}
use Rattle.occ_work.specs.Around.{Handles, Infrastructure, JobsDo, aborts_answered, aborts_counted, answers_after}
use Rattle.occ_work.specs.Around.{counts_after}
use Rattle.occ_work.specs.Deeds.{Deed, Exchange, IsTried, answered, asked, ending, kinds_of, polled, Point}
use Rattle.occ_work.specs.declared.ends.Acted.{Acted}

-- the infrastructure as a site shows it
abbrev pub infrastructure : SiteState → SiteCounts → Infrastructure
infrastructure s counts = record { jobs = s.jobs; answers = s.answers; counts = counts }

-- what a site shows: what it tells, and its counts
pub record SiteShown : Type 1 where
  pub state : SiteState
  pub counts : SiteCounts

abbrev pub shows : SiteState → SiteCounts → SiteShown
shows state counts = record { state = state; counts = counts }

-- nothing is exchanged with an orchestrator
abbrev pub IsWithoutPeer : Exchange → Type 0
IsWithoutPeer (asked body ended heard) = ⊥
IsWithoutPeer (polled at ended heard) = ⊥
IsWithoutPeer x = Unit {0}

-- The jobs of these attempts were aborted, the latest first, and no other call was made.
pub record AbortsEach (tells : Type 0) (aborts : List (Tag × AbortAnswer)) (a b : SiteShown) : Type 0 where
  pub calls : tells → OnJobs Advances a.state b.state
  pub answers : tells → b.state.answers ≡ aborts_answered aborts a.state.answers
  pub counts : b.counts ≡ aborts_counted aborts a.counts

-- The exchange was made, in which no job is begun, and no other call; the file stays.
pub record Inquires (tells : Type 0) (x : Exchange) (a b : SiteShown) : Type 0 where
  pub calls : tells → OnJobs Advances a.state b.state
  pub jobs : tells → JobsDo x a.state.jobs b.state.jobs
  pub answers : tells → b.state.answers ≡ answers_after x a.state.answers
  pub counts : b.counts ≡ counts_after x a.counts

-- The deed was tried at this point of a manager, which is now n, with the infrastructure alone: its exchange was made
-- and no other, what that appends was recorded, and the answer says so.
pub record Attempts (tells : Type 0) (p : Point) (d : Deed) (result : Result Acted WorkFault) (n : Managed)
    (a b : SiteShown) : Type 0 where
  pub tried : IsTried p.manager p.history d result
  pub alone : IsWithoutPeer d.exchange
  pub handled : Handles tells d.exchange (infrastructure a.state a.counts) (infrastructure b.state b.counts)
  pub records : Records tells p (kinds_of p.history d) result n a.state b.state
  pub ended : IfOk result (λ done. done ≡ ending d.action (answered p.history d))

-- the kinds of the events that follow an attempt's intent, by what the begin of its job was answered (own rule)
abbrev pub following : Tag → BeginAnswer → List EventKind
following t begin.Begun = []
following t (begin.Refused code) = Settled t (outcome.Broken code) ∷ []
following t begin.Failed = CallFailed t ∷ []

-- the event is about an attempt (own rule)
abbrev pub is_of_attempt : EventKind → Bool
is_of_attempt (Intent t) = true
is_of_attempt (CallFailed t) = true
is_of_attempt (Settled t outcome) = true
is_of_attempt _ = false

-- Events of these kinds, one or none, were to be put at this point of a manager, which is now n, without memory, and
-- that ended so. Its journal saves as much as before.
pub record Puts (tells : Type 0) (p : Point) (kinds : List EventKind) (result : Result Acted WorkFault) (n : Managed)
    (a b : SiteState) : Type 0 where
  pub at_file : WorksAtFile tells p.manager p.history (recording p.moment kinds p.history result) n a b
  pub saved : n.ledger.saved ≡ p.saved
  pub room : TellsRoomFor p.saved p.moment kinds p.history result
