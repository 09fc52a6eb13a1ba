-- When jobs agree with a history: the infrastructure was asked for nothing but what the history says, and what the
-- history says of it is so (own rules).
use Rattle.std.specs.Prelude.{List, None, Option, Some, [], filter_map, map, ℕ, ◌∷◌, ◌⊎◌, ◌≡◌}
use Rattle.lcm_events.specs.declared.acts.Act.{Act}
use Rattle.lcm_events.specs.declared.attempts.Outcome.{Outcome}
use Rattle.lcm_events.specs.declared.attempts.Outcome.TheVariants as outcome
use Rattle.lcm_events.specs.declared.attempts.Tag.{Tag}
use Rattle.lcm_events.specs.declared.events.Event.{Event}
use Rattle.lcm_events.specs.declared.events.EventKind.{EventKind}
use Rattle.lcm_events.specs.declared.events.EventKind.TheVariants.{Intent, Settled}
use Rattle.lcm_model.specs.Allowed.{IsLegalWithin}
use Rattle.lcm_model.specs.Work.{window}
use Rattle.lcm_model.specs.Words.{IsIn, told}
use Rattle.site_traits.specs.declared.jobs.Phase.{Phase}
use Rattle.site_traits.specs.declared.jobs.Phase.TheVariants.{Aborted, Broken, Done}
use Rattle.site_traits.specs.Jobs.{Job, phase_of}
use Rattle.change_planner.specs.Tags.{act_of}

-- an attempt with its work
pub record Attempt : Type 0 where
  pub tag : Tag
  pub act : Option Act

-- the attempt that an event begins, with its work after its past (own rule)
abbrev pub begun_in : List Event → EventKind → Option Attempt
begun_in H (Intent t) = Some (record { tag = t; act = act_of H t })
begun_in H _ = None

-- the attempts that were begun, each with its work, the latest first (own rule)
abbrev pub begun : List Event → List Attempt
begun H = told begun_in H

-- the attempt that a job is for, with its work
abbrev pub attempt_of : Job → Attempt
attempt_of j = record { tag = j.tag; act = Some j.act }

-- these are some of the others, in the same order (own rule)
abbrev pub IsPartOf : {A : Type 0} → List A → List A → Type 0
IsPartOf [] ys = Unit {0}
IsPartOf (x ∷ xs) [] = ⊥
IsPartOf (x ∷ xs) (y ∷ ys) = ((x ≡ y) × IsPartOf xs ys) ⊎ IsPartOf (x ∷ xs) ys

-- an attempt that ended, and how
pub record EndedAttempt : Type 0 where
  pub tag : Tag
  pub outcome : Outcome

-- the attempt that an event ends, and how (own rule)
abbrev pub ended_attempt_in : EventKind → Option EndedAttempt
ended_attempt_in (Settled t out) = Some (record { tag = t; outcome = out })
ended_attempt_in _ = None

-- the attempts that ended, and how, the latest first (own rule)
abbrev pub ended_attempts : List Event → List EndedAttempt
ended_attempts H = filter_map (λ e. ended_attempt_in e.kind) H

-- there is no job, or a broken one (own rule)
abbrev pub IsNoneOrBroken : Option Phase → Type 0
IsNoneOrBroken None = Unit {0}
IsNoneOrBroken (Some (Broken code)) = Unit {0}
IsNoneOrBroken (Some other) = ⊥

-- How an attempt ended agrees with its job: done, a job that is done on that resource; broken, a broken job or none,
-- since the infrastructure may have refused it; aborted, an aborted job; not begun, no job (own rule).
abbrev pub Agrees : Outcome → Option Phase → Type 0
Agrees (outcome.Done name) p = p ≡ Some (Done name)
Agrees (outcome.Broken code) p = IsNoneOrBroken p
Agrees outcome.Aborted p = p ≡ Some Aborted
Agrees outcome.NotBegun p = p ≡ None

-- Jobs, the latest first, are sound with the history of manager m: the history is legal, where at most so many attempts
-- of an occurrence may be open; the jobs are some of the attempts that were begun, each with its work, in the order in
-- which they were begun; and each ended attempt agrees with the job (own rule).
pub record IsSoundWithin (width m : ℕ) (H : List Event) (jobs : List Job) : Type 0 where
  pub legal : IsLegalWithin width m H
  pub begun : IsPartOf (map attempt_of jobs) (begun H)
  pub ended : (x : EndedAttempt) → IsIn x (ended_attempts H) → Agrees x.outcome (phase_of x.tag jobs)

-- jobs are sound with the history of manager m (own rule)
abbrev pub IsSound : ℕ → List Event → List Job → Type 0
IsSound m H jobs = IsSoundWithin window m H jobs

-- the event says nothing of jobs, or ends an attempt as its job has ended (own rule)
abbrev pub FitsJobs : EventKind → List Job → Type 0
FitsJobs (Settled t out) jobs = Agrees out (phase_of t jobs)
FitsJobs _ jobs = Unit {0}
