-- What a trial comes to, counted, and when it passes its room (own rule, docs/FORMATS.md, "The trial").
use Rattle.std.specs.Prelude.{Bool, List, false, filter, length, sum_by, suc, true, zero, ℕ, ◌-◌, ◌||◌}
use Rattle.executor.specs.Room.{is_full}
use Rattle.instance_table.specs.Rows.{instance_rows}
use Rattle.lcm_events.specs.declared.events.Event.{Event}
use Rattle.lcm_events.specs.declared.states.OpState.{OpState}
use Rattle.lcm_events.specs.declared.states.OpState.TheVariants as states
use Rattle.lcm_model.specs.Moves.{state}
use Rattle.lcm_model.specs.Operations.{operations}
use Rattle.occ_table.specs.declared.rows.OccRow.{OccRow}
use Rattle.lcm_trial.specs.Stages.{Stage, stage_after}
use Rattle.lcm_trial.specs.declared.counts.Tried.{Tried}
use Rattle.lcm_trial.specs.declared.fates.Fate.{Fate}
use Rattle.lcm_trial.specs.declared.fates.Fate.TheVariants.{Completed, Failed, Ongoing, RolledBack}

-- how an operation in this state came out (SOL 003 5.6.2)
abbrev pub fate_of : OpState → Fate
fate_of states.Completed = Completed
fate_of states.Failed = Failed
fate_of states.RolledBack = RolledBack
fate_of _ = Ongoing

-- two operations came out alike
abbrev pub same_fate : Fate → Fate → Bool
same_fate Completed Completed = true
same_fate Failed Failed = true
same_fate RolledBack RolledBack = true
same_fate Ongoing Ongoing = true
same_fate _ _ = false

-- the operation of a row came out so (SOL 003 5.6.2)
abbrev pub row_came_out : Fate → OccRow → Bool
row_came_out fate r = same_fate (fate_of r.state) fate

-- how many operations of all instances came out so (SOL 003 5.6.2)
unfoldable pub count_of : Fate → List Event → ℕ
count_of fate H = length (filter (λ a. same_fate (fate_of (state H a.occ)) fate) (operations H))

-- how many definitions stand over all live instances (SOL 003 5.5.2.2)
unfoldable pub standing : List Event → ℕ
standing H = sum_by (λ r. length r.holding.items) (instance_rows H)

-- what a trial came to at this stage
abbrev pub tried_at : Stage → Tried
tried_at s = record {
  requests = s.requests;
  accepted = s.accepted;
  refused = s.requests - s.accepted;
  completed = count_of Completed s.history;
  failed = count_of Failed s.history;
  rolled_back = count_of RolledBack s.history;
  ongoing = count_of Ongoing s.history;
  jobs = length s.jobs;
  standing = standing s.history;
}

-- what the trial of this start and so many steps comes to
unfoldable pub tried_of : ℕ → ℕ → Tried
tried_of start count = tried_at (stage_after start count)

-- at this stage the journal is full: it has no room in 67,108,864 bytes, with the closed gate behind its records
abbrev pub is_full_at : Stage → Bool
is_full_at s = is_full 67108864 0 s.history

-- the trial of this start and so many steps passes its room: its journal is full at some stage of it
unfoldable pub passes_room : ℕ → ℕ → Bool
passes_room start zero = is_full_at (stage_after start zero)
passes_room start (suc k) = passes_room start k || is_full_at (stage_after start (suc k))
