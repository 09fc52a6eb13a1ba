-- What a run of `trial` promises (own rule, docs/FORMATS.md, "The trial").
use Rattle.std.specs.Prelude.{◌≡◌, ◌⊎◌, ◌++◌, ℕ, List, Some, true}
use Rattle.command_line.specs.Words.{settings_of}
use Rattle.command_line.specs.declared.options.Command.TheVariants.{Trial}
use Rattle.command_line.specs.declared.options.Settings.{Settings}
use Rattle.lcm_trial.specs.Trial.{passes_room, tried_of}
use Rattle.site_traits.specs.Counts.{Rose}
use Rattle.vnfm_commands.specs.Ending.{Output, tried_lines}

-- A trial of this start and so many steps ended with this status. That is 0, where its lines are those of the trial, 3
-- exactly where it passes its room, but that this yields to want of memory, 6, or 7, where its lines couldn't be put.
pub record IsTried (lines : Type 0) (start count status : ℕ) (a b : Output) : Type 0 where
  pub only : (status ≡ 0) ⊎ ((status ≡ 3) ⊎ ((status ≡ 6) ⊎ (status ≡ 7)))
  pub told : lines → status ≡ 0 → b.bytes ≡ a.bytes ++ tried_lines (tried_of start count)
  pub room : status ≡ 3 → passes_room start count ≡ true
  pub passes : passes_room start count ≡ true → (status ≡ 3) ⊎ (status ≡ 6)
  pub sink : status ≡ 7 → Rose a.counts.faults b.counts.faults

-- a run of words of `trial` ended as the trial of their start and count
abbrev pub TriesAs : Type 0 → List (List ℕ) → ℕ → Output → Output → Type 0
TriesAs lines words status a b =
    (s : Settings) → settings_of words ≡ Some s → s.command ≡ Trial → IsTried lines s.start s.count status a b
