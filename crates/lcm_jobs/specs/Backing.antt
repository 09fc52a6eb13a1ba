-- What stands behind each job: an attempt that the history has, behind a grant (SOL 003 9.4.2, Grants).
use Rattle.std.specs.Prelude.{List, Some, true, ℕ, ◌++◌, ◌∷◌, ◌≡◌}
use Rattle.lcm_events.specs.declared.events.Event.{Event}
use Rattle.lcm_events.specs.declared.events.EventKind.TheVariants.{Intent}
use Rattle.lcm_model.specs.Grants.{is_granted}
use Rattle.lcm_model.specs.Words.{IsIn}
use Rattle.site_traits.specs.Jobs.{Job}
use Rattle.change_planner.specs.Tags.{act_of}
use Rattle.lcm_jobs.specs.Sound.{IsSoundWithin}

-- The history has the job's attempt, whose occurrence was granted before it began, and the job is its work over the
-- history before (SOL 003 9.4.2).
pub record IsGrantedWork (H : List Event) (j : Job) : Type 0 where
  pub later : List Event
  pub moment : ℕ
  pub past : List Event
  pub intent : H ≡ later ++ (record { moment = moment; kind = Intent j.tag }) ∷ past
  pub granted : is_granted past j.tag.occ ≡ true
  pub work : act_of past j.tag ≡ Some j.act

-- no resource stands ungranted: each job is the work of an attempt behind a grant (SOL 003 9.4.2)
abbrev pub JobsAreGrantedWork : Type 0
JobsAreGrantedWork =
    (width m : ℕ) (H : List Event) (jobs : List Job) → IsSoundWithin width m H jobs → (j : Job) → IsIn j jobs
    → IsGrantedWork H j
