-- What an act is lent beside the journal, an orchestrator and an infrastructure, and what an exchange does to both.
use Rattle.std.specs.Prelude.{List, [], ◌∷◌, ◌≡◌}
use Rattle.lcm_events.specs.declared.attempts.Tag.{Tag}
use Rattle.site_traits.specs.Counts.{CallCounts, SiteCounts, abort_counts, begin_counts, look_counts, one_more}
use Rattle.site_traits.specs.Jobs.{Advances, Answered, BeginsAs, Job, LooksAs, abort_answered, begin_answered}
use Rattle.site_traits.specs.Jobs.{look_answered}
use Rattle.site_traits.specs.Peers.{Asks, CallCause, OrchestratorState, Polls}
use Rattle.site_traits.specs.Site.{SiteState}
use Rattle.site_traits.specs.declared.jobs.AbortAnswer.{AbortAnswer}
use Rattle.occ_work.specs.Deeds.{Exchange, aborted, asked, began, looked, nothing, polled}

-- which of the objects outside tell what is done to them
pub record ReachTells : Type 1 where
  pub site : Type 0
  pub orchestrator : Type 0

-- what an orchestrator shows: what it tells, and its counts
pub record Peer : Type 0 where
  pub state : OrchestratorState
  pub counts : CallCounts

abbrev pub peer : OrchestratorState → CallCounts → Peer
peer state counts = record { state = state; counts = counts }

-- what an infrastructure shows: its jobs and what it answered, where the site tells, and the site's counts
pub record Infrastructure : Type 0 where
  pub jobs : List Job
  pub answers : Answered
  pub counts : SiteCounts

-- both
pub record Around : Type 0 where
  pub orchestrator : Peer
  pub infrastructure : Infrastructure

-- all that an act is lent: the site with its counts, and the orchestrator
pub record Reach : Type 1 where
  pub site : SiteState
  pub counts : SiteCounts
  pub orchestrator : Peer

-- what tells of these
abbrev pub telling : Type 0 → Type 0 → ReachTells
telling site orchestrator = record { site = site; orchestrator = orchestrator }

-- these objects outside
abbrev pub reach : SiteState → SiteCounts → OrchestratorState → CallCounts → Reach
reach site counts state calls = record {
  site = site;
  counts = counts;
  orchestrator = peer state calls;
}

-- what is beside the journal of it
abbrev pub around : Reach → Around
around w = record {
  orchestrator = w.orchestrator;
  infrastructure =
      record { jobs = w.site.jobs; answers = w.site.answers; counts = w.counts };
}

-- what an exchange does to what the orchestrator tells: nothing, or what a call does that ended so (SOL 003 9.4.2,
-- 9.4.3)
abbrev pub Exchanges : Exchange → OrchestratorState → OrchestratorState → Type 0
Exchanges (asked body ended heard) a b = Asks body heard ended a b
Exchanges (polled at ended heard) a b = Polls at heard ended a b
Exchanges other a b = b ≡ a

-- what an exchange does to the orchestrator's counts: nothing, or one call more, which failed or not
abbrev pub Counts : Exchange → CallCounts → CallCounts → Type 0
Counts (asked body ended heard) a b = CallCause ended a b
Counts (polled at ended heard) a b = CallCause ended a b
Counts other a b = b ≡ a

-- the exchange was made with the orchestrator, and no other call
pub record Calls (tells : Type 0) (x : Exchange) (a b : Peer) : Type 0 where
  pub told : tells → Exchanges x a.state b.state
  pub counts : Counts x a.counts b.counts

-- What an exchange does to the jobs: a begin puts its job, or doesn't, by the answer; a look tells how its job stands;
-- beside that running jobs may end by themselves (own rule).
abbrev pub JobsDo : Exchange → List Job → List Job → Type 0
JobsDo (began t work answer) before after = BeginsAs t work answer before after
JobsDo (looked t answer) before after = Advances before after × LooksAs t answer before after
JobsDo (aborted aborts t answer) before after = Advances before after × LooksAs t answer before after
JobsDo other before after = Advances before after

-- what it has answered after these aborts, and its counts, the latest first
abbrev pub aborts_answered : List (Tag × AbortAnswer) → Answered → Answered
aborts_answered [] l = l
aborts_answered ((t, ended) ∷ earlier) l = abort_answered t ended (aborts_answered earlier l)

abbrev pub aborts_counted : List (Tag × AbortAnswer) → SiteCounts → SiteCounts
aborts_counted [] c = c
aborts_counted ((t, ended) ∷ earlier) c = abort_counts ended (aborts_counted earlier c)

-- what the infrastructure has answered after an exchange (own rule)
abbrev pub answers_after : Exchange → Answered → Answered
answers_after (began t work answer) l = begin_answered answer l
answers_after (looked t answer) l = look_answered t answer l
answers_after (aborted aborts t answer) l = look_answered t answer (aborts_answered aborts l)
answers_after other l = l

-- the counts after an exchange: a refusal, or a call that failed (own rule)
abbrev pub counts_after : Exchange → SiteCounts → SiteCounts
counts_after (began t work answer) c = begin_counts answer c
counts_after (looked t answer) c = look_counts answer c
counts_after (aborted aborts t answer) c = look_counts answer (aborts_counted aborts c)
counts_after other c = c

-- these counts tell the same of the calls on jobs
pub record CountJobsAlike (a b : SiteCounts) : Type 0 where
  pub vim : b.vim ≡ a.vim
  pub look : b.look ≡ a.look
  pub refusals : b.refusals ≡ a.refusals

-- the exchange was made with the infrastructure, and no other
pub record Handles (tells : Type 0) (x : Exchange) (a b : Infrastructure) : Type 0 where
  pub jobs : tells → JobsDo x a.jobs b.jobs
  pub answers : tells → b.answers ≡ answers_after x a.answers
  pub counts : CountJobsAlike (counts_after x a.counts) b.counts

-- the exchange was made, and no other
pub record Exchanged (t : ReachTells) (x : Exchange) (a b : Around) : Type 0 where
  pub told : t.orchestrator → Exchanges x a.orchestrator.state b.orchestrator.state
  pub counts : Counts x a.orchestrator.counts b.orchestrator.counts
  pub handled : Handles t.site x a.infrastructure b.infrastructure

-- nobody was asked: running jobs may have ended by themselves
abbrev pub Unasked : ReachTells → Around → Around → Type 0
Unasked t a b = Exchanged t nothing a b

-- Where this holds a disk call failed, once; else none did (own rule).
pub record DiskFails (failed : Type 0) (a b : SiteCounts) : Type 0 where
  pub rose : failed → b.disk ≡ one_more a.disk
  pub stays : ¬ failed → b.disk ≡ a.disk
