-- The jobs of a site in memory, as it keeps them: each with the moments of its arrival and of its end (own rules).
use Rattle.std.specs.Prelude.{◌≡◌, ◌≤◌, ◌<◌, ℕ, ◌+◌, ◌-◌, Bool, true, false, ◌==◌, ◌||◌, ◌&&◌, if◌then◌else◌, nat_le}
use Rattle.std.specs.Prelude.{Option, Some, None, is_some, is_none, slice_get, MatchOption, List, [], ◌∷◌, All, map}
use Rattle.std.specs.Prelude.{filter, reverse, find, drop, length, decimal}
use Rattle.lcm_events.specs.Same.{same_tag}
use Rattle.lcm_events.specs.declared.acts.Act.{Act}
use Rattle.lcm_events.specs.declared.attempts.Tag.{Tag}
use Rattle.site_traits.specs.Jobs.{Job}
use Rattle.site_traits.specs.declared.jobs.Phase.{Phase}
use Rattle.site_traits.specs.declared.jobs.Phase.TheVariants as phase
use Rattle.site_traits.specs.declared.jobs.BeginAnswer.{BeginAnswer}
use Rattle.site_traits.specs.declared.jobs.BeginAnswer.TheVariants as begin
use Rattle.site_traits.specs.declared.jobs.LookAnswer.{LookAnswer}
use Rattle.site_traits.specs.declared.jobs.LookAnswer.TheVariants as look
use Rattle.site_traits.specs.declared.mem_jobs.Arrival.{Arrival}
use Rattle.site_traits.specs.declared.mem_jobs.Arrival.TheVariants.{Taken, FailedArrived, FailedLost, Refused}
use Rattle.site_traits.specs.declared.mem_jobs.JobEnd.{JobEnd}
use Rattle.site_traits.specs.declared.mem_jobs.JobEnd.TheVariants as end
use Rattle.site_traits.specs.declared.mem_jobs.JobPlan.{JobPlan}
use Rattle.site_traits.specs.declared.mem_jobs.Found.{Found}
use Rattle.site_traits.specs.declared.mem_jobs.Found.TheVariants as found
use Rattle.site_traits.specs.declared.mem_jobs.KeptJob.{KeptJob}

-- the name of the resource of the job at this place of the list, from 1: `r` and the place in decimal (own rule)
abbrev pub resource_name : ℕ → List ℕ
resource_name place = 114 ∷ decimal place

-- how a job at this place ends by itself
abbrev pub planned_end : JobEnd → ℕ → Found
planned_end end.Done place = found.Done place
planned_end (end.Broken code) place = found.Broken code

-- how the job has ended, where it has
abbrev pub ended_as : KeptJob → Found
ended_as w = if w.aborted then found.Aborted else planned_end w.end w.place

-- what a look finds of the job: that it goes on while it hasn't ended and looks are left, else how it has ended
abbrev pub found_of : Option KeptJob → Found
found_of None = found.Absent
found_of (Some w) = if is_some w.ended || (w.looks == 0) then ended_as w else found.Running

-- what a look answers that found this
abbrev pub look_of : Found → LookAnswer
look_of found.Absent = look.Absent
look_of found.Running = look.Running
look_of (found.Done place) = look.Done (resource_name place)
look_of (found.Broken code) = look.Broken code
look_of found.Aborted = look.Aborted

-- how a job stands of which a look finds this
abbrev pub phase_found : Found → Phase
phase_found (found.Done place) = phase.Done (resource_name place)
phase_found (found.Broken code) = phase.Broken code
phase_found found.Aborted = phase.Aborted
phase_found other = phase.Running

-- what begin answers, by what comes of it
abbrev pub begin_of : Arrival → BeginAnswer
begin_of Taken = begin.Begun
begin_of FailedArrived = begin.Failed
begin_of FailedLost = begin.Failed
begin_of (Refused code) = begin.Refused code

-- whether the job is put
abbrev pub arrives : Arrival → Bool
arrives Taken = true
arrives FailedArrived = true
arrives FailedLost = false
arrives (Refused code) = false

-- an end at this moment, where there is one, has been by that one
abbrev pub has_been : Option ℕ → ℕ → Bool
has_been None k = false
has_been (Some moment) k = nat_le moment k

-- how the job stands at this moment
abbrev pub phase_at : ℕ → KeptJob → Phase
phase_at k w = if has_been w.ended k then phase_found (ended_as w) else phase.Running

-- how the job stands at last
abbrev pub phase_now : KeptJob → Phase
phase_now w = if is_some w.ended then phase_found (ended_as w) else phase.Running

-- a job by its tag, its work and how it stands
abbrev pub job_of : Tag → Act → Phase → Job
job_of tag act stands = record { tag = tag; act = act; phase = stands }

-- the job as it is at this moment
abbrev pub job_at : ℕ → KeptJob → Job
job_at k w = record { tag = w.tag; act = w.act; phase = phase_at k w }

-- the job has arrived by this moment
abbrev pub is_there : ℕ → KeptJob → Bool
is_there k w = nat_le w.at k

-- the jobs as they are at this moment
abbrev pub jobs_of : ℕ → List KeptJob → List Job
jobs_of k kept = map (job_at k) (filter (is_there k) kept)

-- the jobs as they are at this moment, the latest first
abbrev pub jobs_at : ℕ → List KeptJob → List Job
jobs_at k kept = jobs_of k (reverse kept)

-- a look at the job at this moment: one that goes on with looks left has one fewer, and with none left it ends
abbrev pub looked : ℕ → KeptJob → KeptJob
looked now w = if is_some w.ended then w else if w.looks == 0 then record w { ended = Some now }
    else record w { looks = w.looks - 1 }

-- an abort of the job at this moment: one that goes on and can be aborted has ended
abbrev pub aborted_at : ℕ → KeptJob → KeptJob
aborted_at now w = if is_none w.ended && w.abortable then record w { ended = Some now; aborted = true } else w

-- the job of this tag
abbrev pub is_of : Tag → KeptJob → Bool
is_of tag w = same_tag tag w.tag

-- the list with the first that passes the test changed so
abbrev pub first_changed : (KeptJob → Bool) → (KeptJob → KeptJob) → List KeptJob → List KeptJob
first_changed test change [] = []
first_changed test change (w ∷ ws) = if test w then change w ∷ ws else w ∷ first_changed test change ws

-- the latest job of this tag
abbrev pub latest_of : Tag → List KeptJob → Option KeptJob
latest_of tag kept = find (is_of tag) (reverse kept)

-- the jobs with the latest one of this tag changed so
abbrev pub latest_changed : Tag → (KeptJob → KeptJob) → List KeptJob → List KeptJob
latest_changed tag change kept = reverse (first_changed (is_of tag) change (reverse kept))

-- a job that arrives at this moment, by this plan, behind these
abbrev pub arrived : Tag → Act → JobPlan → ℕ → List KeptJob → KeptJob
arrived tag act plan now kept = record {
  tag = tag;
  act = act;
  place = length kept + 1;
  looks = plan.looks;
  end = plan.end;
  abortable = plan.abortable;
  at = now;
  ended = None;
  aborted = false;
}

-- an end, where there is one, came by this moment
abbrev pub EndedBy : ℕ → Option ℕ → Type 0
EndedBy now end = (moment : ℕ) → end ≡ Some moment → moment ≤ now

-- the job has arrived by this moment, and ended by it where it has ended
pub record IsEarly (now : ℕ) (w : KeptJob) : Type 0 where
  pub there : w.at ≤ now
  pub ended : EndedBy now w.ended

-- no job has this tag
abbrev pub HasNone : Tag → List KeptJob → Type 0
HasNone tag kept = All (λ w. is_of tag w ≡ false) kept

-- the latest job of this tag stands at this place, from 0
pub record IsLatest (tag : Tag) (kept : List KeptJob) (k : ℕ) : Type 0 where
  pub job : KeptJob
  pub there : slice_get kept k ≡ Some job
  pub within : k < length kept
  pub is : is_of tag job ≡ true
  pub last : HasNone tag (drop (k + 1) kept)

-- the latest job of this tag stands at this place, or none has the tag and there is no place
abbrev pub IsPlaced : Tag → List KeptJob → Option ℕ → Type 0
IsPlaced tag kept place = MatchOption place (HasNone tag kept) (IsLatest tag kept)

-- the job as it stood at this moment, for a site on which no call was made: it keeps its plan and the looks that are
-- left of it
abbrev pub stood : ℕ → KeptJob → KeptJob
stood k w = record w {
  at = 0;
  ended = (if has_been w.ended k then Some 0 else None);
  aborted =
      has_been w.ended k && w.aborted;
}

-- the jobs of this moment as they stood then, for a site on which no call was made
abbrev pub kept_at : ℕ → List KeptJob → List KeptJob
kept_at k kept = map (stood k) (filter (is_there k) kept)
