-- What has happened at a site in memory: the calls on record and the jobs (own rules).
use Rattle.std.specs.Prelude.{◌≡◌, ◌⊎◌, ℕ, ◌+◌, true, if◌then◌else◌, nat_le, List, [], ◌∷◌, ◌++◌, length, fold}
use Rattle.lcm_events.specs.declared.acts.Act.{Act}
use Rattle.lcm_events.specs.declared.attempts.Tag.{Tag}
use Rattle.site_traits.specs.declared.jobs.BeginAnswer.{BeginAnswer}
use Rattle.site_traits.specs.declared.jobs.BeginAnswer.TheVariants as begin
use Rattle.site_traits.specs.declared.jobs.LookAnswer.{LookAnswer}
use Rattle.site_traits.specs.declared.jobs.LookAnswer.TheVariants as look
use Rattle.site_traits.specs.declared.jobs.AbortAnswer.{AbortAnswer}
use Rattle.site_traits.specs.declared.jobs.AbortAnswer.TheVariants as abort
use Rattle.site_traits.specs.declared.mem_jobs.Arrival.{Arrival}
use Rattle.site_traits.specs.declared.mem_jobs.Arrival.TheVariants as arrival
use Rattle.site_traits.specs.declared.mem_jobs.JobPlan.{JobPlan}
use Rattle.site_traits.specs.declared.past.SiteCall.{SiteCall}
use Rattle.site_traits.specs.declared.past.SiteCall.TheVariants as call
use Rattle.site_traits.specs.declared.past.Past.{Past}
use Rattle.site_traits.specs.Jobs.{Answered, unanswered, begin_answered, look_answered, abort_answered}
use Rattle.site_traits.specs.KeptJobs.{begin_of, look_of, arrives, arrived, found_of, latest_of, latest_changed, looked}
use Rattle.site_traits.specs.KeptJobs.{aborted_at}
use Rattle.site_traits.specs.Log.{HasRoom, with_call}

-- what a call on record does to the answers that were given
abbrev pub answered_by : SiteCall → Answered → Answered
answered_by (call.Began tag came) l = begin_answered (begin_of came) l
answered_by (call.Looked tag found) l = look_answered tag (look_of found) l
answered_by (call.Aborted tag) l = abort_answered tag abort.Asked l
answered_by other l = l

-- what the calls on record answered
abbrev pub answers_of : List (SiteCall × List ℕ) → Answered
answers_of calls = fold (λ l e. answered_by e.0 l) unanswered calls

-- the past stays as it is
pub record Stays (old new : Past) : Type 0 where
  pub log : new.log ≡ old.log
  pub kept : new.kept.items ≡ old.kept.items
  pub most : new.most ≡ old.most

-- what comes of a begin by this plan: it is refused with code 1 where as many jobs are there as there is room for
abbrev pub arrival_by : JobPlan → Past → Arrival
arrival_by plan p = if nat_le p.most (length p.kept.items) then arrival.Refused 1 else plan.arrival

-- the begin is on record, and its job is put last where it arrives
pub record IsBegun (tag : Tag) (act : Act) (plan : JobPlan) (came : Arrival) (answer : BeginAnswer)
    (old new : Past) : Type 0 where
  pub answered : answer ≡ begin_of came
  pub room : HasRoom 0 old.log
  pub log : new.log ≡ with_call (call.Began tag came) [] old.log
  pub kept : new.kept.items ≡ (if arrives came then old.kept.items
      ++ arrived tag act plan (length old.log.calls + 1) old.kept.items ∷ [] else old.kept.items)
  pub most : new.most ≡ old.most

-- the begin is not on record and failed: for want of room there, or, where a job would be put, for want of memory
pub record IsNotBegun (came : Arrival) (answer : BeginAnswer) (old new : Past) : Type 0 where
  pub answered : answer ≡ begin.Failed
  pub cause : (HasRoom 0 old.log → ⊥) ⊎ (arrives came ≡ true)
  pub stays : Stays old new

-- what a begin by this plan does
abbrev pub BeginsBy : Tag → Act → JobPlan → BeginAnswer → Past → Past → Type 0
BeginsBy tag act plan answer old new = IsBegun tag act plan (arrival_by plan old) answer old new
    ⊎ IsNotBegun (arrival_by plan old) answer old new

-- the look is on record, and answers how the latest job of this tag stands
pub record IsLookedAt (tag : Tag) (answer : LookAnswer) (old new : Past) : Type 0 where
  pub answered : answer ≡ look_of (found_of (latest_of tag old.kept.items))
  pub room : HasRoom 0 old.log
  pub log : new.log ≡ with_call (call.Looked tag (found_of (latest_of tag old.kept.items))) [] old.log
  pub kept : new.kept.items ≡ latest_changed tag (looked (length old.log.calls + 1)) old.kept.items
  pub most : new.most ≡ old.most

-- the abort is on record, and has ended the latest job of this tag where that one can be aborted and goes on
pub record IsAborted (tag : Tag) (answer : AbortAnswer) (old new : Past) : Type 0 where
  pub answered : answer ≡ abort.Asked
  pub room : HasRoom 0 old.log
  pub log : new.log ≡ with_call (call.Aborted tag) [] old.log
  pub kept : new.kept.items ≡ latest_changed tag (aborted_at (length old.log.calls + 1)) old.kept.items
  pub most : new.most ≡ old.most

-- the look found no room on record
pub record IsUnseen (answer : LookAnswer) (old new : Past) : Type 0 where
  pub answered : answer ≡ look.Failed
  pub full : HasRoom 0 old.log → ⊥
  pub stays : Stays old new

-- the abort found no room on record
pub record IsUnheard (answer : AbortAnswer) (old new : Past) : Type 0 where
  pub answered : answer ≡ abort.Failed
  pub full : HasRoom 0 old.log → ⊥
  pub stays : Stays old new
