-- The next action of an active occurrence, by its row.
use Rattle.std.specs.List.{range_with_len}
use Rattle.std.specs.List.Sorted.{IsNonDecreasingBy}
use Rattle.std.specs.Prelude.{Bool, List, Option, Some, [], if◌then◌else◌, is_some, length, map, nat_lt, not}
use Rattle.std.specs.Prelude.{option_map, slice_get, unwrap_or, ℕ, ◌+◌, ◌&&◌, ◌||◌, ◌∷◌, ◌≡◌, ◌<◌, ◌≤◌}
use Rattle.lcm_events.specs.declared.attempts.Tag.{Tag}
use Rattle.lcm_events.specs.declared.attempts.Way.{Way}
use Rattle.lcm_events.specs.declared.attempts.Way.TheVariants.{Forward, Undo}
use Rattle.lcm_events.specs.declared.states.OpState.{OpState}
use Rattle.lcm_events.specs.declared.states.OpState.TheVariants.{FailedTemp, Processing, RolledBack, RollingBack}
use Rattle.lcm_events.specs.declared.states.OpState.TheVariants.{Starting}
use Rattle.lcm_model.specs.Next.{chosen, end_of, only_when}
use Rattle.lcm_model.specs.Words.{first, first_some}
use Rattle.lcm_model.specs.Work.{window}
use Rattle.lcm_model.specs.declared.actions.Action.{Action}
use Rattle.lcm_model.specs.declared.actions.Action.TheVariants.{AbortAndLook, AskForGrant, Begin, Look, MoveTo, Poll}
use Rattle.change_planner.specs.Free.{free_by}
use Rattle.occ_table.specs.Steps.{gives_up_row, has_open_at, is_forced_mode}
use Rattle.occ_table.specs.declared.rows.OccRow.{OccRow}
use Rattle.occ_steps.specs.declared.steps.Step.{Step}
use Rattle.occ_steps.specs.declared.steps.Step.TheVariants as step

-- the action that a step is
abbrev pub action_of : Step → Action
action_of (step.Move to) = MoveTo to
action_of step.Poll = Poll
action_of step.Ask = AskForGrant
action_of (step.Begin tag) = Begin tag
action_of (step.Look tag) = Look tag
action_of (step.AbortAndLook tag) = AbortAndLook tag

-- which of the row's changes have an open attempt, in the order of the plan (own rule)
abbrev pub busy_in : OccRow → List Bool
busy_in r = map (λ c. has_open_at c r.pending) (range_with_len 0 (length r.changes))

-- the number of the change of the row that is attempted next in this way: of those that may be, the first is made, the
-- last undone (own rule)
abbrev pub next_at : Way → OccRow → Option ℕ
next_at way r = chosen way (free_by way r.changes r.nets (busy_in r))

-- the way of the attempts that are made in this state (SOL 003 5.6.2)
abbrev pub way_in : OpState → Way
way_in RollingBack = Undo
way_in _ = Forward

-- the tag of the next attempt in this way at a change of occurrence o: its number is one more than how many attempts
-- the row counts (own rule)
abbrev pub next_tag : ℕ → Way → OccRow → ℕ → Tag
next_tag o way r c = record { occ = o; change = c; attempt = unwrap_or (slice_get r.attempts c) 0 + 1; way = way }

-- the row's plan can be worked on: at most 5,000 changes, whose phases rise, a net for each, and one more than how many
-- attempts the row counts at one fits a tag (own limit, own format)
pub record IsWorkable (r : OccRow) : Type 0 where
  pub few : length r.changes ≤ 5000
  pub phases : IsNonDecreasingBy (λ x. x.phase) r.changes
  pub nets : length r.nets ≡ length r.changes
  pub attempts : (c n : ℕ) → slice_get r.attempts c ≡ Some n → n < 4294967295

-- the next action while the grant is asked for, by the row (SOL 003 9.4.2)
abbrev pub asking_by_row : OccRow → Action
asking_by_row r =
    if gives_up_row r then MoveTo RolledBack
    else (if is_some r.grant then MoveTo Processing else (if is_some r.location then Poll else AskForGrant))

-- there is trouble since the last move, or a cancel in force, by the row (own rule)
abbrev pub is_stopped_row : OccRow → Bool
is_stopped_row r = r.trouble || is_some r.cancel

-- one more attempt may begin, by the row: there is neither trouble nor a cancel, and fewer are open than the window
-- lets be (own rule)
abbrev pub goes_on_row : OccRow → Bool
goes_on_row r = not (is_stopped_row r) && nat_lt (length r.pending) window

-- the tag of the open attempt of the row that began first (own rule)
abbrev pub first_tag : OccRow → Option Tag
first_tag r = option_map (λ p. p.tag) (first r.pending)

-- the tag of the attempt in this way that may begin next, by the row (own rule)
abbrev pub begin_tag : ℕ → Way → OccRow → Option Tag
begin_tag o way r = only_when (goes_on_row r) (option_map (next_tag o way r) (next_at way r))

-- where no attempt is open and none begins, the work stops after trouble or a cancel, and else it is done (own rule)
abbrev pub leaving_by_row : Way → OccRow → Action
leaving_by_row way r = if is_stopped_row r then MoveTo FailedTemp else MoveTo (end_of way)

-- the next action in this way while changes are made or undone, by the row: under a FORCEFUL cancel the open attempts
-- are aborted and the first is looked at; while there is room one more begins; else the first is looked at (own rule)
abbrev pub working_by_row : ℕ → Way → OccRow → Action
working_by_row o way r = unwrap_or (first_some (
    only_when (is_forced_mode r.cancel) (option_map AbortAndLook (first_tag r))
    ∷ option_map Begin (begin_tag o way r)
    ∷ option_map Look (first_tag r) ∷ [])) (leaving_by_row way r)

-- the next action of an occurrence of this number and row in this state: in STARTING its grant is asked for, and else
-- its changes are made or undone (SOL 003 5.6.2)
abbrev pub next_in_state : OpState → ℕ → OccRow → Action
next_in_state Starting o r = asking_by_row r
next_in_state state o r = working_by_row o (way_in state) r

-- the next action of an active occurrence of this number and row (SOL 003 5.6.2)
abbrev pub next_by_row : ℕ → OccRow → Action
next_by_row o r = next_in_state r.state o r
