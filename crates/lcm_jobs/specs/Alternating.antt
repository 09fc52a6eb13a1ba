-- The jobs of a change, one after the other (own rules).
use Rattle.std.specs.Prelude.{Bool, List, [], false, filter, map, true, ℕ, ◌∷◌, ◌≡◌}
use Rattle.lcm_events.specs.declared.attempts.Tag.{Tag}
use Rattle.lcm_events.specs.declared.attempts.Way.{Way}
use Rattle.lcm_events.specs.declared.attempts.Way.TheVariants.{Forward, Undo}
use Rattle.lcm_events.specs.declared.events.Event.{Event}
use Rattle.lcm_model.specs.Attempts.{is_of, is_open}
use Rattle.lcm_model.specs.Words.{IsIn}
use Rattle.site_traits.specs.declared.jobs.Phase.{Phase}
use Rattle.site_traits.specs.declared.jobs.Phase.TheVariants.{Done, Running}
use Rattle.site_traits.specs.Jobs.{Job}
use Rattle.lcm_jobs.specs.Sound.{IsSoundWithin}

-- no tag stands twice (own rule)
abbrev pub AreApart : List Tag → Type 0
AreApart [] = Unit {0}
AreApart (t ∷ ts) = (IsIn t ts → ⊥) × AreApart ts

-- no two jobs are for one attempt (own rule)
abbrev pub EachAttemptHasOneJob : Type 0
EachAttemptHasOneJob = (width m : ℕ) (H : List Event) (jobs : List Job) → IsSoundWithin width m H jobs
    → AreApart (map (λ j. j.tag) jobs)

-- a job that runs is for an attempt that is open (own rule)
abbrev pub RunningJobsAreOpen : Type 0
RunningJobsAreOpen =
    (width m : ℕ) (H : List Event) (jobs : List Job) → IsSoundWithin width m H jobs → (j : Job) → IsIn j jobs
    → j.phase ≡ Running → is_open H j.tag ≡ true

-- the job is of change c of occurrence o (own rule)
abbrev pub is_job_of : ℕ → ℕ → Job → Bool
is_job_of o c j = is_of o c j.tag

-- the jobs of change c of occurrence o, the latest first (own rule)
abbrev pub jobs_of : ℕ → ℕ → List Job → List Job
jobs_of o c jobs = filter (is_job_of o c) jobs

-- the job did its work (own rule)
abbrev pub did_it : Phase → Bool
did_it (Done name) = true
did_it _ = false

-- in which ways the jobs of a change were done, the latest first (own rule)
abbrev pub ways_done : ℕ → ℕ → List Job → List Way
ways_done o c jobs = map (λ j. j.tag.way) (filter (λ j. did_it j.phase) (jobs_of o c jobs))

-- the way of the job that may be done next: the change is made first, and then undone and made in turn (own rule)
abbrev pub next_way : List Way → Way
next_way (Forward ∷ ways) = Undo
next_way _ = Forward

-- the ways, the latest first, are in turn: made, undone, made and so on (own rule)
abbrev pub AreInTurn : List Way → Type 0
AreInTurn [] = Unit {0}
AreInTurn (way ∷ ways) = (way ≡ next_way ways) × AreInTurn ways

-- none of these jobs runs (own rule)
abbrev pub HaveEnded : List Job → Type 0
HaveEnded jobs = (j : Job) → IsIn j jobs → j.phase ≡ Running → ⊥

-- all but the first of a list (own rule)
abbrev pub rest : {A : Type 0} → List A → List A
rest [] = []
rest (x ∷ xs) = xs

-- the jobs of a change alternate: all but the latest have ended, and those that were done made and undid it in turn
-- (own rule)
pub record Alternate (jobs : List Job) (o c : ℕ) : Type 0 where
  pub ended : HaveEnded (rest (jobs_of o c jobs))
  pub turns : AreInTurn (ways_done o c jobs)

-- the jobs of each change alternate (own rule)
abbrev pub JobsAlternate : Type 0
JobsAlternate = (width m : ℕ) (H : List Event) (jobs : List Job) → IsSoundWithin width m H jobs → (o c : ℕ)
    → Alternate jobs o c
