-- What stands beside what among the jobs (SOL 001, Vdu.Compute, VduCp).
use Rattle.std.specs.Prelude.{List, Option, Some, true, ℕ, ◌≡◌, ◌⊎◌}
use Rattle.lcm_events.specs.declared.changes.Def.{Def}
use Rattle.lcm_events.specs.declared.changes.DefKind.TheVariants.{Compute}
use Rattle.lcm_events.specs.declared.changes.Verb.TheVariants.{Create}
use Rattle.lcm_events.specs.declared.descriptor.Vnfd.{Vnfd}
use Rattle.lcm_events.specs.declared.events.Event.{Event}
use Rattle.lcm_model.specs.Lives.{descriptor}
use Rattle.lcm_model.specs.Needs.{needs}
use Rattle.lcm_model.specs.Vnfcs.{links}
use Rattle.lcm_model.specs.Words.{IsIn}
use Rattle.site_traits.specs.Jobs.{Job}
use Rattle.lcm_jobs.specs.Idle.{stands_among}
use Rattle.lcm_jobs.specs.Sound.{IsSoundWithin}

-- a compute stands beside this: a storage of its machine, or a link of its instance (SOL 001, Vdu.Compute, VduCp)
abbrev pub IsBeside : Vnfd → Def → Def → Type 0
IsBeside d x y = IsIn y (needs d Create x) ⊎ IsIn y (links d)

-- where a compute stands among the jobs, so do its storages and all links of its instance (own rule)
abbrev pub ComputesStandBesideTheirs : Type 0
ComputesStandBesideTheirs =
    (width m : ℕ) (H : List Event) (jobs : List Job) → IsSoundWithin width m H jobs → (i : ℕ) (d : Vnfd)
    → descriptor H i ≡ Some d
    → (x : Def) → x.kind ≡ Compute → stands_among H i x jobs ≡ true → (y : Def) → IsBeside d x y
    → stands_among H i y jobs ≡ true
