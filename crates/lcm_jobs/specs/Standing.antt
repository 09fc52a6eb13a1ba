-- What stands among the jobs, change by change (own rules).
use Rattle.std.specs.Option.{option_map_or}
use Rattle.std.specs.Prelude.{Bool, List, [], false, filter, if◌then◌else◌, length, ℕ, ◌-◌, ◌<◌, ◌∷◌, ◌≡◌, ◌≤◌}
use Rattle.lcm_events.specs.Same.{same_way}
use Rattle.lcm_events.specs.declared.attempts.Tag.{Tag}
use Rattle.lcm_events.specs.declared.attempts.Way.{Way}
use Rattle.lcm_events.specs.declared.attempts.Way.TheVariants.{Forward, Undo}
use Rattle.lcm_events.specs.declared.events.Event.{Event}
use Rattle.lcm_events.specs.declared.states.OpState.TheVariants.{Completed, RolledBack}
use Rattle.lcm_model.specs.Attempts.{net, open_attempts}
use Rattle.lcm_model.specs.Moves.{state}
use Rattle.lcm_model.specs.Operations.{changes}
use Rattle.lcm_model.specs.Work.{net_after}
use Rattle.site_traits.specs.Jobs.{Job, phase_of}
use Rattle.lcm_jobs.specs.Alternating.{did_it, ways_done}
use Rattle.lcm_jobs.specs.Sound.{IsSoundWithin}

-- how many jobs of a change were done in this way (own rule)
abbrev pub made : Way → List Job → ℕ → ℕ → ℕ
made way jobs o c = length (filter (same_way way) (ways_done o c jobs))

-- how often a change stands among the jobs: how often it was made less how often it was undone (own rule)
abbrev pub stands : List Job → ℕ → ℕ → ℕ
stands jobs o c = made Forward jobs o c - made Undo jobs o c

-- a change stands at most once: it was never undone more often than made (own rule)
pub record StandsAtMostOnce (jobs : List Job) (o c : ℕ) : Type 0 where
  pub stands : stands jobs o c ≤ 1
  pub undone : made Undo jobs o c ≤ made Forward jobs o c

-- each change stands at most once (own rule)
abbrev pub ChangesStandAtMostOnce : Type 0
ChangesStandAtMostOnce = (width m : ℕ) (H : List Event) (jobs : List Job) → IsSoundWithin width m H jobs → (o c : ℕ)
    → StandsAtMostOnce jobs o c

-- the job of an attempt was done (own rule)
abbrev pub is_job_done : List Job → Tag → Bool
is_job_done jobs t = option_map_or did_it (phase_of t jobs) false

-- the net of a change by the history and, where an attempt is open whose job was done, what it is after that attempt
-- (own rule)
abbrev pub net_at : List Job → ℕ → List Tag → ℕ
net_at jobs settled [] = settled
net_at jobs settled (t ∷ ts) = if is_job_done jobs t then net_after t.way else settled

-- what stands of a change is its net, or its net after an open attempt whose job was done (own rule)
abbrev pub WhatStandsIsTheNet : Type 0
WhatStandsIsTheNet =
    (width m : ℕ) (H : List Event) (jobs : List Job) → IsSoundWithin width m H jobs → (o c : ℕ)
    → stands jobs o c ≡ net_at jobs (net H o c) (open_attempts H o c)

-- each change of the occurrence stands so often (own rule)
abbrev pub EachStands : List Event → List Job → ℕ → ℕ → Type 0
EachStands H jobs o n = (c : ℕ) → c < length (changes H o) → stands jobs o c ≡ n

-- every change of an occurrence that is COMPLETED stands exactly once (own rule)
abbrev pub CompletedStandsOnce : Type 0
CompletedStandsOnce =
    (width m : ℕ) (H : List Event) (jobs : List Job) → IsSoundWithin width m H jobs → (o : ℕ) → state H o ≡ Completed
    → EachStands H jobs o 1

-- no change of an occurrence that is ROLLED_BACK stands (own rule)
abbrev pub RolledBackStandsNot : Type 0
RolledBackStandsNot =
    (width m : ℕ) (H : List Event) (jobs : List Job) → IsSoundWithin width m H jobs → (o : ℕ) → state H o ≡ RolledBack
    → EachStands H jobs o 0
