-- What is planned of the begins of a trial's site, and what it keeps of the jobs that were taken (own rules).
use Rattle.std.specs.Prelude.{◌≡◌, ℕ, ◌+◌, ◌%◌, ◌<◌, ◌==◌, List, [], ◌∷◌, length, get_or, if◌then◌else◌}
use Rattle.std.specs.Coded.{Coded-set, coded_ℕ, ×_prop, Unit-prop, Π_prop}
use Rattle.site_traits.specs.contracts.mem_jobs.Found as found_row
use Rattle.site_traits.specs.contracts.mem_jobs.JobPlan as plan_row
use Rattle.site_traits.specs.declared.mem_jobs.Arrival.{Arrival}
use Rattle.site_traits.specs.declared.mem_jobs.Arrival.TheVariants as arrival
use Rattle.site_traits.specs.declared.mem_jobs.Found.TheVariants as found
use Rattle.site_traits.specs.declared.mem_jobs.JobPlan.{JobPlan}
use Rattle.site_traits.specs.declared.mem_jobs.KeptJob.{KeptJob}
use Rattle.site_traits.specs.Book.{unplanned}
use Rattle.site_traits.specs.KeptJobs.{ended_as}

-- what comes of the begin at this place, from 1: each sixteenth is refused with code 9, and every other is taken
abbrev pub coming : ℕ → Arrival
coming place = if place % 16 == 0 then arrival.Refused 9 else arrival.Taken

-- the plan of the begin at this place, from 1: a job that is taken ends at the first look
abbrev pub plan_of : ℕ → JobPlan
plan_of place = record unplanned { arrival = coming place }

-- each plan is that of its place
abbrev pub ArePlans : List JobPlan → Type 0
ArePlans plans = (k : ℕ) → k < length plans → get_or plans k unplanned ≡ plan_of (k + 1)

-- the plans of the first 65,536 begins
pub record IsWork (plans : List JobPlan) : Type 0 where
  pub all : length plans ≡ 65536
  pub each : ArePlans plans

-- a job that was taken at this place, from 1, does its work there, and the next look finds that
pub record IsTaken (place : ℕ) (job : KeptJob) : Type 0 where
  pub ends : ended_as job ≡ found.Done place
  pub at_once : job.looks ≡ 0

-- each of these jobs, the latest first, was taken at its place
abbrev pub AreTaken : List KeptJob → Type 0
AreTaken [] = Unit {0}
AreTaken (job ∷ earlier) = IsTaken (length earlier + 1) job × AreTaken earlier

-- each of these has one proof at most
pub IsWork-prop : (plans : List JobPlan) → IsProp (IsWork plans)
IsWork-prop plans a b i = record {
  all = Coded-set coded_ℕ (length plans) 65536 a.all b.all i;
  each = (Π_prop (λ k. Π_prop (λ lt. Coded-set plan_row.the_row.coded (get_or plans k unplanned) (plan_of (k + 1)))))
      a.each b.each i;
}

IsTaken-prop : (place : ℕ) (job : KeptJob) → IsProp (IsTaken place job)
IsTaken-prop place job a b i = record {
  ends = Coded-set found_row.the_row.coded (ended_as job) (found.Done place) a.ends b.ends i;
  at_once = Coded-set coded_ℕ job.looks 0 a.at_once b.at_once i;
}

pub AreTaken-prop : (jobs : List KeptJob) → IsProp (AreTaken jobs)
AreTaken-prop [] = Unit-prop
AreTaken-prop (job ∷ earlier) = ×_prop (IsTaken-prop (length earlier + 1) job) (AreTaken-prop earlier)
