-- What the rows of the table are: a function of the history (SOL 003 5.5.2.13, VnfLcmOpOcc).
use Rattle.std.specs.List.{range_with_len}
use Rattle.std.specs.Prelude.{List, None, Option, Some, filter_map, if◌then◌else◌, map, option_map, reverse, unwrap_or}
use Rattle.std.specs.Prelude.{ℕ, ◌≡◌, ◌==◌, length}
use Rattle.lcm_events.specs.declared.events.Event.{Event}
use Rattle.lcm_events.specs.declared.events.Operation.{Operation}
use Rattle.lcm_events.specs.declared.states.CancelMode.{CancelMode}
use Rattle.lcm_events.specs.declared.states.CancelMode.TheVariants.{Forceful, Graceful}
use Rattle.lcm_events.specs.declared.attempts.Outcome.{Outcome}
use Rattle.lcm_events.specs.declared.attempts.Outcome.TheVariants.{Aborted, Broken, Done, NotBegun}
use Rattle.lcm_events.specs.declared.attempts.Tag.{Tag}
use Rattle.lcm_events.specs.declared.events.EventKind.{EventKind}
use Rattle.lcm_events.specs.declared.events.EventKind.TheVariants.{Asked, CancelAsked, Denied, GrantTried, Moved}
use Rattle.lcm_events.specs.declared.events.EventKind.TheVariants.{Settled}
use Rattle.lcm_events.specs.declared.events.GrantTry.{GrantTry}
use Rattle.lcm_events.specs.declared.events.GrantTry.TheVariants.{Later, NotCovering, Trouble}
use Rattle.lcm_model.specs.Attempts.{open_of, attempts, net}
use Rattle.lcm_model.specs.Grants.{has_ended, location, troubled_tries, grant}
use Rattle.lcm_model.specs.Moves.{state}
use Rattle.lcm_model.specs.Operations.{operation, operations}
use Rattle.lcm_model.specs.Since.{has_call_failed, has_trouble, is_cancelled, is_forced}
use Rattle.lcm_model.specs.Words.{first, told, when}
use Rattle.occ_table.specs.Descriptors.{vnfd}
use Rattle.occ_table.specs.Ended.{is_over, kept, kept_grant, kept_where}
use Rattle.occ_table.specs.Phases.{tallies}
use Rattle.occ_table.specs.Used.{used}
use Rattle.occ_table.specs.declared.causes.Cause.{Cause}
use Rattle.occ_table.specs.declared.causes.Cause.TheVariants as causes
use Rattle.occ_table.specs.declared.pending.Pending.{Pending}
use Rattle.occ_table.specs.declared.rows.OccRow.{OccRow}

-- the mode of the cancel in force: FORCEFUL where one of those in force is, or else GRACEFUL (SOL 003 5.4.17)
abbrev pub cancel : List Event → ℕ → Option CancelMode
cancel H o = if is_forced H o then Some Forceful else if is_cancelled H o then Some Graceful else None

-- an open attempt, and whether the call that was to begin it has failed (own rule)
abbrev pub pending_of : List Event → Tag → Pending
pending_of H t = record { tag = t; failed = has_call_failed H t }

-- the open attempts of an occurrence in the order in which they began (own rule)
abbrev pub pendings : List Event → ℕ → List Pending
pendings H o = reverse (map (pending_of H) (open_of H o))

-- when an event asked for the occurrence (SOL 003 5.5.2.13, startTime)
abbrev pub asked_when : ℕ → ℕ → EventKind → Option ℕ
asked_when o time (Asked a) = when (a.occ == o) time
asked_when o time _ = None

-- when the occurrence was asked for (SOL 003 5.5.2.13, startTime)
abbrev pub asked : List Event → ℕ → ℕ
asked H o = unwrap_or (first (filter_map (λ e. asked_when o e.moment e.kind) H)) 0

-- when an event brought the occurrence into a state: its ask or a move (SOL 003 5.5.2.13, stateEnteredTime)
abbrev pub entered_when : ℕ → ℕ → EventKind → Option ℕ
entered_when o time (Asked a) = when (a.occ == o) time
entered_when o time (Moved occ to) = when (occ == o) time
entered_when o time _ = None

-- when the occurrence came into its state (SOL 003 5.5.2.13, stateEnteredTime)
abbrev pub entered : List Event → ℕ → ℕ
entered H o = unwrap_or (first (filter_map (λ e. entered_when o e.moment e.kind) H)) 0

-- the cause that a try gives: that the grant doesn't cover, and the fifth in trouble (SOL 003 5.5.2.13, error)
abbrev pub cause_of_try : List Event → ℕ → GrantTry → Option Cause
cause_of_try H o (Later at) = None
cause_of_try H o Trouble = when (troubled_tries H o == 4) causes.NoGrant
cause_of_try H o NotCovering = Some causes.NotCovering

-- the cause that the end of an attempt gives (SOL 003 5.5.2.13, error)
abbrev pub cause_of_end : List Event → Tag → Outcome → Option Cause
cause_of_end H t (Done name) = None
cause_of_end H t (Broken code) = Some (causes.Broken t.change code)
cause_of_end H t Aborted = Some (causes.Aborted t.change)
cause_of_end H t NotBegun = when (has_call_failed H t) (causes.CallFailed t.change)

-- the cause that an event, after its past, gives to the occurrence (SOL 003 5.5.2.13, error)
abbrev pub cause_in : ℕ → List Event → EventKind → Option Cause
cause_in o H (GrantTried occ answer) = if occ == o then cause_of_try H o answer else None
cause_in o H (Denied occ) = when (occ == o) causes.Denied
cause_in o H (Settled t outcome) = if t.occ == o then cause_of_end H t outcome else None
cause_in o H (CancelAsked occ mode) = when (occ == o) causes.Cancelled
cause_in o H _ = None

-- why the occurrence's work stopped: the last cause that an event gave (SOL 003 5.5.2.13, error)
abbrev pub cause : List Event → ℕ → Option Cause
cause H o = first (told (cause_in o) H)

-- the numbers of the changes of an operation (own rule)
abbrev pub numbers : Operation → List ℕ
numbers a = range_with_len 0 (length a.changes)

-- the nets of the changes of an operation, in the order of its plan (own rule)
abbrev pub nets : List Event → Operation → List ℕ
nets H a = map (net H a.occ) (numbers a)

-- what the history says of an operation that was asked for; once it is over, without attempts, places and the location
-- of its grant (SOL 003 5.5.2.13)
abbrev pub row : List Event → Operation → OccRow
row H a = record {
  instance = a.instance;
  vnfd = vnfd H a.instance;
  role = a.role;
  ask = a.ask;
  changes = a.changes;
  nets = nets H a;
  waiting = tallies 0 a.changes (nets H a);
  made = tallies 1 a.changes (nets H a);
  attempts = kept (is_over H a.occ) (map (λ c. length (attempts H a.occ c)) (numbers a));
  used = map (used H a.occ) (numbers a);
  state = state H a.occ;
  asked = asked H a.occ;
  entered = entered H a.occ;
  location = kept_where (is_over H a.occ) (location H a.occ);
  tries = troubled_tries H a.occ;
  ended = has_ended H a.occ;
  cancel = cancel H a.occ;
  trouble = has_trouble H a.occ;
  cause = cause H a.occ;
  pending = pendings H a.occ;
  grant = option_map (kept_grant (is_over H a.occ)) (grant H a.occ);
}

-- the rows of all operations, in the order in which they were asked for (SOL 003 5.4.12)
abbrev pub rows : List Event → List OccRow
rows H = reverse (map (row H) (operations H))

-- the row of the occurrence of this number (SOL 003 5.4.13)
abbrev pub occurrence : List Event → ℕ → Option OccRow
occurrence H o = option_map (row H) (operation H o)

-- the rows are those of the history
abbrev pub StandsFor : List OccRow → List Event → Type 0
StandsFor rs H = rs ≡ rows H
