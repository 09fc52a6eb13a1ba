-- What a site tells: its file and its jobs, and what a stop may leave of both. The rules are this project's own:
-- between two syncs a written range and the part past the old end may hold any bytes, and a sync that succeeded fixes
-- what a read gives; a call on the jobs that has returned, or was cut short by a stop, has put its job in place or
-- never will.
use Rattle.std.specs.Prelude.{◌≡◌, ◌⊎◌, ◌≤◌, ℕ, ◌+◌, max, List, [], ◌++◌, length, take, drop, Result, OnOk}
use Rattle.std.proofs.Common.{refl}
use Rattle.lcm_events.specs.declared.acts.Act.{Act}
use Rattle.lcm_events.specs.declared.attempts.Tag.{Tag}
use Rattle.site_traits.specs.declared.jobs.BeginAnswer.{BeginAnswer}
use Rattle.site_traits.specs.declared.jobs.LookAnswer.{LookAnswer}
use Rattle.site_traits.specs.declared.jobs.AbortAnswer.{AbortAnswer}
use Rattle.site_traits.specs.Jobs.{Job, Advances, MayArrive, BeginsAs, LooksAs, Answered, unanswered, begin_answered}
use Rattle.site_traits.specs.Jobs.{look_answered, abort_answered}

-- what a stop leaves behind: a file and jobs, the latest first
pub record Pair : Type 0 where
  pub image : List ℕ
  pub jobs : List Job

-- the pair with this file and these jobs
abbrev pub pair_of : List ℕ → List Job → Pair
pair_of image jobs = record { image = image; jobs = jobs }

-- All that a site tells. `image` is what a read gives, `jobs` are the jobs, the latest first, and `answers` what the
-- calls on them answered.
-- `since t` holds of the pairs that a stop at a moment since t may leave: a moment since u is one since an earlier t,
-- and what a read gives is, with the jobs, among what a stop now may leave. Between two calls a stop leaves the jobs as
-- they are.
pub record SiteState : Type 1 where
  pub image : List ℕ
  pub jobs : List Job
  pub answers : Answered
  pub moment : ℕ
  pub since : ℕ → Pair → Type 0
  pub earlier : (t u : ℕ) (p : Pair) → t ≤ u → since u p → since t p
  pub now : since moment (pair_of image jobs)
  pub stay : (p : Pair) → since moment p → p.jobs ≡ jobs

-- the pair has no job
abbrev pub IsJobless : Pair → Type 0
IsJobless p = p.jobs ≡ []

-- the state of a site that tells nothing, which no clause speaks of
abbrev pub untold : SiteState
untold = record {
  image = [];
  jobs = [];
  answers = unanswered;
  moment = 0;
  since = λ t p. IsJobless p;
  earlier = λ t u p le left. left;
  now = refl;
  stay = λ p left. left;
}

-- The law on moments. What a stop during the call may leave comes by a step from what a stop before it may leave; what
-- a stop since an earlier moment may leave is that of before the call together with that of the call.
pub record Passes (step : Pair → Pair → Type 0) (a b : SiteState) : Type 0 where
  pub later : a.moment ≤ b.moment
  pub during : (p : Pair) → b.since a.moment p → (q : Pair) × a.since a.moment q × step q p
  pub nothing_else : (t : ℕ) (p : Pair) → t ≤ a.moment → b.since t p → a.since t p ⊎ b.since a.moment p
  pub keeps : (t : ℕ) (p : Pair) → t ≤ a.moment → a.since t p → b.since t p

-- A stop at a moment from a to b leaves only pairs that have P. What a stop since an earlier moment may leave is what
-- it might have left before, or has P.
pub record LeavesOnly (P : Pair → Type 0) (a b : SiteState) : Type 0 where
  pub later : a.moment ≤ b.moment
  pub each : (p : Pair) → b.since a.moment p → P p
  pub before : (t : ℕ) (p : Pair) → t ≤ a.moment → b.since t p → a.since t p ⊎ P p

-- nothing is pending: a stop now leaves what a read gives
pub record IsSettled (s : SiteState) : Type 0 where
  pub image : (p : Pair) → s.since s.moment p → p.image ≡ s.image

-- new is old with these bytes at this place
abbrev pub Holds : List ℕ → ℕ → List ℕ → List ℕ → Type 0
Holds old at bytes new = new ≡ take at old ++ bytes ++ drop (at + length bytes) old

-- after a write of n bytes that a stop cuts short: any bytes in the range and past the old end, the same elsewhere
pub record Torn (at n : ℕ) (old new : List ℕ) : Type 0 where
  pub before : take at new ≡ take at old
  pub after : drop (at + n) new ≡ drop (at + n) old
  pub no_shorter : length old ≤ length new
  pub no_longer : length new ≤ max (length old) (at + n)

-- after a cut that a stop cuts short: the old length or the new one
abbrev pub Cut : ℕ → List ℕ → List ℕ → Type 0
Cut to old new = (new ≡ old) ⊎ (new ≡ take to old)

-- the file stays
abbrev pub Same : List ℕ → List ℕ → Type 0
Same old new = new ≡ old

-- the file changes by this, and running jobs may end by themselves
pub record FileStep (step : List ℕ → List ℕ → Type 0) (p q : Pair) : Type 0 where
  pub image : step p.image q.image
  pub jobs : Advances p.jobs q.jobs

-- a call on the file: what a stop during it leaves comes by this step, and no call on jobs was answered
pub record OnFile (step : List ℕ → List ℕ → Type 0) (a b : SiteState) : Type 0 where
  pub passes : Passes (FileStep step) a b
  pub answers : b.answers ≡ a.answers

-- a call that only reads the file
pub record Reads (a b : SiteState) : Type 0 where
  pub on_file : OnFile Same a b
  pub same : b.image ≡ a.image
  pub settled : IsSettled a → IsSettled b

-- a write, which a read then gives where it succeeded
pub record Writes {T E : Type 0} (at : ℕ) (bytes : List ℕ) (result : Result T E) (a b : SiteState) : Type 0 where
  pub on_file : OnFile (Torn at (length bytes)) a b
  pub holds : OnOk result (Holds a.image at bytes b.image)

-- a write that is on the disk where it succeeded
pub record WritesThrough {T E : Type 0} (at : ℕ) (bytes : List ℕ) (result : Result T E) (a b : SiteState) : Type 0 where
  pub on_file : OnFile (Torn at (length bytes)) a b
  pub holds : OnOk result (Holds a.image at bytes b.image)
  pub settled : OnOk result (IsSettled b)

-- a cut, which a read then gives where it succeeded
pub record Cuts {T E : Type 0} (to : ℕ) (result : Result T E) (a b : SiteState) : Type 0 where
  pub on_file : OnFile (Cut to) a b
  pub cut : OnOk result (b.image ≡ take to a.image)

-- a sync, after which nothing is pending where it succeeded
pub record Syncs {T E : Type 0} (result : Result T E) (a b : SiteState) : Type 0 where
  pub on_file : OnFile Same a b
  pub same : b.image ≡ a.image
  pub settled : OnOk result (IsSettled b)

-- the jobs change by this, and the file stays
pub record JobStep (step : List Job → List Job → Type 0) (p q : Pair) : Type 0 where
  pub image : q.image ≡ p.image
  pub jobs : step p.jobs q.jobs

-- a call on the jobs: what a stop during it leaves comes by this step, and a read gives what it gave
pub record OnJobs (step : List Job → List Job → Type 0) (a b : SiteState) : Type 0 where
  pub passes : Passes (JobStep step) a b
  pub same : b.image ≡ a.image

-- a begin of the job of this tag with this work: at each moment the one job was put last or none, and the answer tells
-- which
pub record Begins (tag : Tag) (act : Act) (answer : BeginAnswer) (a b : SiteState) : Type 0 where
  pub on_jobs : OnJobs (MayArrive tag act) a b
  pub begins : BeginsAs tag act answer a.jobs b.jobs
  pub answers : b.answers ≡ begin_answered answer a.answers

-- a look at the job of this tag: running jobs may end by themselves, and the answer tells how this one stands
pub record Looks (tag : Tag) (answer : LookAnswer) (a b : SiteState) : Type 0 where
  pub on_jobs : OnJobs Advances a b
  pub looks : LooksAs tag answer a.jobs b.jobs
  pub answers : b.answers ≡ look_answered tag answer a.answers

-- an abort of the job of this tag: running jobs may end, and the others stay
pub record Aborts (tag : Tag) (answer : AbortAnswer) (a b : SiteState) : Type 0 where
  pub on_jobs : OnJobs Advances a b
  pub answers : b.answers ≡ abort_answered tag answer a.answers

-- the pair's jobs are those that the site had, of which some running ones may have ended by themselves
pub record HasItsJobs (from : SiteState) (p : Pair) : Type 0 where
  pub jobs : Advances from.jobs p.jobs

-- calls that leave the jobs alone: at each moment only running ones may have ended by themselves, and no call on jobs
-- was answered
pub record KeepsJobs (a b : SiteState) : Type 0 where
  pub any_moment : LeavesOnly (HasItsJobs a) a b
  pub answers : b.answers ≡ a.answers
