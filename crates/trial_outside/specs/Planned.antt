-- How the begins, the looks and the jobs of a trial's site come out (own rules). A list of answers or of jobs has the
-- latest first.
use Rattle.std.specs.Prelude.{◌≡◌, ℕ, ◌+◌, ◌%◌, ◌==◌, ◌++◌, List, [], ◌∷◌, length, if◌then◌else◌}
use Rattle.std.specs.Coded.{Coded-set, coded_ℕ, coded_list, ×_prop, Unit-prop}
use mathlib.Core.HLevel.{⊥_prop}
use Rattle.lcm_events.specs.declared.attempts.Tag.{Tag}
use Rattle.site_traits.specs.contracts.jobs.BeginAnswer as begin_answer
use Rattle.site_traits.specs.declared.jobs.BeginAnswer.{BeginAnswer}
use Rattle.site_traits.specs.declared.jobs.BeginAnswer.TheVariants as begin
use Rattle.site_traits.specs.declared.jobs.LookAnswer.{LookAnswer}
use Rattle.site_traits.specs.declared.jobs.LookAnswer.TheVariants as look
use Rattle.site_traits.specs.declared.jobs.Phase.{Phase}
use Rattle.site_traits.specs.declared.jobs.Phase.TheVariants as phase
use Rattle.site_traits.specs.Jobs.{Job}
use Rattle.site_traits.specs.KeptJobs.{resource_name}

-- the answer to the begin at this place, from 1: each sixteenth is refused with code 9, and every other is taken
abbrev pub planned : ℕ → BeginAnswer
planned place = if place % 16 == 0 then begin.Refused 9 else begin.Begun

-- each answer to a begin is the planned one of its place, from 1
abbrev pub ArePlanned : List BeginAnswer → Type 0
ArePlanned [] = Unit {0}
ArePlanned (answer ∷ earlier) = (answer ≡ planned (length earlier + 1)) × ArePlanned earlier

-- the look found that its job did its work
abbrev pub IsDone : LookAnswer → Type 0
IsDone (look.Done name) = Unit {0}
IsDone other = ⊥

-- each look that was answered found that its job did its work
abbrev pub AreDone : List (Tag × LookAnswer) → Type 0
AreDone [] = Unit {0}
AreDone (answered ∷ earlier) = IsDone answered.1 × AreDone earlier

-- the job at this place goes on, or did its work on the resource that is named after the place
abbrev pub IsPlaced : ℕ → Phase → Type 0
IsPlaced place phase.Running = Unit {0}
IsPlaced place (phase.Done name) = name ≡ resource_name place
IsPlaced place other = ⊥

-- each job goes on, or did its work on the resource that is named after its place, from 1
abbrev pub ArePlaced : List Job → Type 0
ArePlaced [] = Unit {0}
ArePlaced (job ∷ earlier) = IsPlaced (length earlier + 1) job.phase × ArePlaced earlier

-- what is so of all answers or jobs is so of the earlier ones
pub planned_before : (later earlier : List BeginAnswer) → ArePlanned (later ++ earlier) → ArePlanned earlier
planned_before [] earlier are = are
planned_before (answer ∷ later) earlier are = planned_before later earlier are.1

pub done_before : (later earlier : List (Tag × LookAnswer)) → AreDone (later ++ earlier) → AreDone earlier
done_before [] earlier are = are
done_before (answered ∷ later) earlier are = done_before later earlier are.1

pub placed_before : (later earlier : List Job) → ArePlaced (later ++ earlier) → ArePlaced earlier
placed_before [] earlier are = are
placed_before (job ∷ later) earlier are = placed_before later earlier are.1

-- each of these has one proof at most
pub ArePlanned-prop : (answers : List BeginAnswer) → IsProp (ArePlanned answers)
ArePlanned-prop [] = Unit-prop
ArePlanned-prop (answer ∷ earlier) =
    ×_prop (Coded-set begin_answer.the_row.coded answer (planned (length earlier + 1))) (ArePlanned-prop earlier)

IsDone-prop : (answer : LookAnswer) → IsProp (IsDone answer)
IsDone-prop (look.Done name) = Unit-prop
IsDone-prop look.Absent = ⊥_prop
IsDone-prop look.Running = ⊥_prop
IsDone-prop (look.Broken code) = ⊥_prop
IsDone-prop look.Aborted = ⊥_prop
IsDone-prop look.Failed = ⊥_prop

pub AreDone-prop : (answers : List (Tag × LookAnswer)) → IsProp (AreDone answers)
AreDone-prop [] = Unit-prop
AreDone-prop (answered ∷ earlier) = ×_prop (IsDone-prop answered.1) (AreDone-prop earlier)

IsPlaced-prop : (place : ℕ) (stands : Phase) → IsProp (IsPlaced place stands)
IsPlaced-prop place phase.Running = Unit-prop
IsPlaced-prop place (phase.Done name) = Coded-set (coded_list coded_ℕ) name (resource_name place)
IsPlaced-prop place (phase.Broken code) = ⊥_prop
IsPlaced-prop place phase.Aborted = ⊥_prop

pub ArePlaced-prop : (jobs : List Job) → IsProp (ArePlaced jobs)
ArePlaced-prop [] = Unit-prop
ArePlaced-prop (job ∷ earlier) = ×_prop (IsPlaced-prop (length earlier + 1) job.phase) (ArePlaced-prop earlier)
