-- What keeps jobs sound with a history (own rules).
use Rattle.std.specs.Prelude.{List, None, Some, ℕ, ◌∷◌, ◌≡◌}
use Rattle.lcm_events.specs.declared.acts.Act.{Act}
use Rattle.lcm_events.specs.declared.attempts.Outcome.{Outcome}
use Rattle.lcm_events.specs.declared.attempts.Tag.{Tag}
use Rattle.lcm_events.specs.declared.events.Event.{Event}
use Rattle.lcm_events.specs.declared.events.EventKind.{EventKind}
use Rattle.lcm_events.specs.declared.events.EventKind.TheVariants.{Intent}
use Rattle.lcm_model.specs.Allowed.{IsAllowedWithin}
use Rattle.site_traits.specs.declared.jobs.Phase.{Phase}
use Rattle.site_traits.specs.Jobs.{Advances, Arrives, Job, phase_of}
use Rattle.change_planner.specs.Tags.{act_of}
use Rattle.lcm_jobs.specs.Sound.{Agrees, FitsJobs, IsSoundWithin}

-- running jobs may end by themselves (own rule)
abbrev pub JobsMayEnd : Type 0
JobsMayEnd = (width m : ℕ) (H : List Event) (before after : List Job) → IsSoundWithin width m H before
    → Advances before after → IsSoundWithin width m H after

-- an event that is allowed and fits the jobs may be recorded (own rule)
abbrev pub FittingEventsMayCome : Type 0
FittingEventsMayCome =
    (width m : ℕ) (H : List Event) (time : ℕ) (k : EventKind) (jobs : List Job) → IsSoundWithin width m H jobs
    → IsAllowedWithin width m H k
    → FitsJobs k jobs → IsSoundWithin width m (record { moment = time; kind = k } ∷ H) jobs

-- Once an attempt was recorded as begun, its job may arrive, with its work over the history before: that the attempt
-- had no job follows (own rule).
abbrev pub JobsMayArriveBehindIntents : Type 0
JobsMayArriveBehindIntents =
    (width m : ℕ) (H : List Event) (time : ℕ) (t : Tag) (act : Act) (phase : Phase) (before after : List Job)
    → IsSoundWithin width m H before
    → IsAllowedWithin width m H (Intent t) → act_of H t ≡ Some act → Arrives t act phase before after
    → IsSoundWithin width m (record { moment = time; kind = Intent t } ∷ H) after

-- an attempt that may begin has no job yet (own rule)
abbrev pub NewAttemptsHaveNoJob : Type 0
NewAttemptsHaveNoJob =
    (width m : ℕ) (H : List Event) (t : Tag) (jobs : List Job) → IsSoundWithin width m H jobs
    → IsAllowedWithin width m H (Intent t) → phase_of t jobs ≡ None

-- an ended attempt that agrees with its job goes on to agree with it (own rule)
abbrev pub EndingsStayAgreed : Type 0
EndingsStayAgreed =
    (t : Tag) (out : Outcome) (before after : List Job) → Advances before after → Agrees out (phase_of t before)
    → Agrees out (phase_of t after)
