-- What stands of an instance among the jobs (SOL 003 5.5.2.2, instantiationState).
use Rattle.std.specs.Option.{option_map_or}
use Rattle.std.specs.Prelude.{Bool, List, None, Option, [], false, filter_map, if◌then◌else◌, option_and_then}
use Rattle.std.specs.Prelude.{slice_get, ℕ, ◌==◌, ◌≡◌}
use Rattle.lcm_events.specs.Same.{same_def}
use Rattle.lcm_events.specs.declared.attempts.Tag.{Tag}
use Rattle.lcm_events.specs.declared.changes.Change.{Change}
use Rattle.lcm_events.specs.declared.changes.Def.{Def}
use Rattle.lcm_events.specs.declared.changes.Verb.{Verb}
use Rattle.lcm_events.specs.declared.events.Event.{Event}
use Rattle.lcm_events.specs.declared.events.Operation.{Operation}
use Rattle.lcm_model.specs.Holding.{leaves_it}
use Rattle.lcm_model.specs.Instances.{is_instantiated}
use Rattle.lcm_model.specs.Operations.{ongoing, operation, verb_done}
use Rattle.lcm_model.specs.Words.{first, when}
use Rattle.site_traits.specs.Jobs.{Job}
use Rattle.lcm_jobs.specs.Alternating.{did_it}
use Rattle.lcm_jobs.specs.Sound.{IsSoundWithin}

-- what an attempt at a change does to a definition, where the change is of it (own rule)
abbrev pub verb_for : Tag → Def → Change → Option Verb
verb_for t x k = when (same_def k.def x) (verb_done t.way k.verb)

-- what an attempt at a change of an operation does to a definition of an instance (own rule)
abbrev pub verb_in : ℕ → Def → Tag → Operation → Option Verb
verb_in i x t a = option_and_then (verb_for t x) (if a.instance == i then slice_get a.changes t.change else None)

-- what an attempt does to a definition of an instance, where it is one at it (own rule)
unfoldable pub verb_on : List Event → ℕ → Def → Tag → Option Verb
verb_on H i x t = option_and_then (verb_in i x t) (operation H t.occ)

-- what a job did to a definition of an instance, where it did its work at it (own rule)
unfoldable pub verb_of_job : List Event → ℕ → Def → Job → Option Verb
verb_of_job H i x j = if did_it j.phase then verb_on H i x j.tag else None

-- a definition of an instance stands among the jobs, the latest first: something was done to it, last not a removal
-- (own rule)
abbrev pub stands_among : List Event → ℕ → Def → List Job → Bool
stands_among H i x jobs = option_map_or leaves_it (first (filter_map (verb_of_job H i x) jobs)) false

-- an instance that is NOT_INSTANTIATED without an operation that goes on has nothing standing among the jobs (SOL 003
-- 5.5.2.2, instantiationState)
abbrev pub IdleInstancesHaveNoJobStanding : Type 0
IdleInstancesHaveNoJobStanding =
    (width m : ℕ) (H : List Event) (jobs : List Job) → IsSoundWithin width m H jobs → (i : ℕ)
    → is_instantiated H i ≡ false → ongoing H i ≡ []
    → (x : Def) → stands_among H i x jobs ≡ false
