-- What a trial comes to (own rule, docs/FORMATS.md, "The trial").
use Rattle.std.specs.Prelude.{◌≡◌, ℕ, false, true, Result, Ok, Err}
use Rattle.lcm_trial.specs.Trial.{passes_room, tried_of}
use Rattle.lcm_trial.specs.declared.counts.Tried.{Tried}
use Rattle.lcm_trial.specs.declared.counts.TrialFault.{TrialFault}
use Rattle.lcm_trial.specs.declared.counts.TrialFault.TheVariants.{Memory, Room}

-- The trial of this start and so many steps came to this: to its numbers, where its room isn't passed; it ended for want
-- of room where it is; or there was no memory.
abbrev pub Tries : ℕ → ℕ → Result Tried TrialFault → Type 0
Tries start count (Ok tried) = (tried ≡ tried_of start count) × (passes_room start count ≡ false)
Tries start count (Err Room) = passes_room start count ≡ true
Tries start count (Err Memory) = Unit {0}
