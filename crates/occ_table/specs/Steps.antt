-- What an event makes of a row, and of the rows. Of these words the table's contracts use those for what is reserved, a
-- first row and a grant; what rows are after an event they say by the history.
use Rattle.lcm_events.specs.declared.states.OpState.{OpState}
use Rattle.lcm_model.specs.Refusals.{is_terminate}
use Rattle.occ_table.specs.declared.rows.Grant.{Grant}
use Rattle.lcm_model.specs.Words.{otherwise, when}
use Rattle.lcm_model.specs.Work.{net_after, net_before, works_in}
use Rattle.occ_table.specs.Descriptors.{vnfd_in}
use Rattle.lcm_model.specs.Moves.{is_final}
use Rattle.occ_table.specs.Ended.{kept, kept_where, stripped}
use Rattle.occ_table.specs.Phases.{in_phases, is_clear, none_counted, tally_after}
use Rattle.lcm_events.specs.declared.changes.Change.{Change}
use Rattle.lcm_events.specs.declared.attempts.Way.{Way}
use Rattle.lcm_events.specs.declared.attempts.Way.TheVariants.{Forward, Undo}
use Rattle.std.specs.Option.{option_map_or}
use Rattle.std.specs.List.{list_any}
use Rattle.std.specs.Prelude.{List, None, Option, Some, [], false, min, nat_le, true, ℕ, ◌≤◌, ◌||◌, ◌+◌, ◌-◌, ◌++◌, ◌∷◌}
use Rattle.std.specs.Prelude.{zero, suc, Bool, filter, map, if◌then◌else◌, length, nat_lt, not, ◌&&◌, replicate}
use Rattle.std.specs.Prelude.{slice_get, slice_set, is_none, is_some, option_map, ◌==◌, ◌≡◌, ◌<◌}
use Rattle.lcm_events.specs.declared.events.EventKind.{EventKind}
use Rattle.lcm_events.specs.declared.events.EventKind.TheVariants.{Asked, CallFailed, CancelAsked, Denied, GrantTried}
use Rattle.lcm_events.specs.declared.events.EventKind.TheVariants.{Granted, Intent, Moved, Settled}
use Rattle.lcm_events.specs.declared.events.GrantTry.{GrantTry}
use Rattle.lcm_events.specs.declared.events.GrantTry.TheVariants.{Later, NotCovering, Trouble}
use Rattle.lcm_events.specs.declared.events.Operation.{Operation}
use Rattle.lcm_events.specs.declared.states.CancelMode.{CancelMode}
use Rattle.lcm_events.specs.declared.states.CancelMode.TheVariants.{Forceful, Graceful}
use Rattle.lcm_events.specs.declared.states.OpState.TheVariants.{Starting, Completed, Failed, FailedTemp, Processing}
use Rattle.lcm_events.specs.declared.states.OpState.TheVariants.{RolledBack, RollingBack}
use Rattle.lcm_model.specs.Operations.{occurrence_of}
use Rattle.lcm_events.specs.Same.{same_tag}
use Rattle.lcm_events.specs.declared.attempts.Outcome.{Outcome}
use Rattle.lcm_events.specs.declared.attempts.Outcome.TheVariants.{Aborted, Broken, Done, NotBegun}
use Rattle.lcm_events.specs.declared.attempts.Tag.{Tag}
use Rattle.lcm_events.specs.Same.{same_state}
use Rattle.lcm_events.specs.declared.places.Place.{Place}
use Rattle.lcm_model.specs.Descriptors.{is_given}
use Rattle.lcm_model.specs.Grants.{IsPlacing}
use Rattle.occ_table.specs.declared.causes.Cause.{Cause}
use Rattle.occ_table.specs.declared.causes.Cause.TheVariants as causes
use Rattle.occ_table.specs.declared.pending.Pending.{Pending}
use Rattle.occ_table.specs.declared.rows.OccRow.{OccRow}
use Rattle.occ_table.specs.declared.used.Used.{Used}

-- the row of an operation that is asked for at this time, which names no descriptor yet
abbrev pub first_row : ℕ → Operation → OccRow
first_row time a = record {
  instance = a.instance;
  vnfd = [];
  role = a.role;
  ask = a.ask;
  changes = a.changes;
  nets = replicate (length a.changes) 0;
  waiting = in_phases a.changes;
  made = replicate 9 0;
  attempts = replicate (length a.changes) 0;
  used = replicate (length a.changes) None;
  state = Starting;
  asked = time;
  entered = time;
  location = None;
  tries = 0;
  ended = false;
  cancel = None;
  trouble = false;
  cause = None;
  pending = [];
  grant = None;
}

-- the row after a try in trouble
abbrev pub after_trouble : OccRow → OccRow
after_trouble r = record r {
  tries = min (r.tries + 1) 255;
  ended = r.ended || nat_le 5 (min (r.tries + 1) 255);
  cause = otherwise (when (r.tries == 4) causes.NoGrant) r.cause;
}

-- the row after a try that led to no grant
abbrev pub after_answer : GrantTry → OccRow → OccRow
after_answer (Later at) r = record r { location = Some at }
after_answer Trouble r = after_trouble r
after_answer NotCovering r = record r { ended = true; cause = Some causes.NotCovering }

-- the mode in force after one more cancel
abbrev pub after_cancel : CancelMode → Option CancelMode → Option CancelMode
after_cancel Graceful (Some Forceful) = Some Forceful
after_cancel mode _ = Some mode

-- the open attempts with one more, where fewer than four are open
abbrev pub begun : Tag → List Pending → List Pending
begun t ps = if nat_lt (length ps) 4 then ps ++ record { tag = t; failed = false } ∷ [] else ps

-- an open attempt after the call for the tag has failed
abbrev pub failed_by : Tag → Pending → Pending
failed_by t p = record p { failed = same_tag p.tag t || p.failed }

-- the open attempts without one that ended
abbrev pub ended : Tag → List Pending → List Pending
ended t ps = filter (λ p. not (same_tag p.tag t)) ps

-- the tag is open among these
abbrev pub has_open_among : Tag → List Pending → Bool
has_open_among t ps = list_any (λ p. same_tag t p.tag) ps

-- the tag is open among these, and its call has failed
abbrev pub has_failed_among : Tag → List Pending → Bool
has_failed_among t ps = list_any (λ p. same_tag t p.tag && p.failed) ps

-- it is trouble that one of these attempts ends so
abbrev pub is_trouble_among : Tag → Outcome → List Pending → Bool
is_trouble_among t (Done name) ps = false
is_trouble_among t (Broken code) ps = true
is_trouble_among t Aborted ps = true
is_trouble_among t NotBegun ps = has_failed_among t ps

-- the cause that it is that one of these attempts ends so
abbrev pub cause_among : Tag → Outcome → List Pending → Option Cause
cause_among t (Done name) ps = None
cause_among t (Broken code) ps = Some (causes.Broken t.change code)
cause_among t Aborted ps = Some (causes.Aborted t.change)
cause_among t NotBegun ps = when (has_failed_among t ps) (causes.CallFailed t.change)

-- the row after an attempt has begun, which never happens where its occurrence is over
abbrev pub after_begun : Tag → OccRow → OccRow
after_begun t r = if is_final r.state then r else record r
    { pending = begun t r.pending; attempts = slice_set r.attempts t.change t.attempt }

-- the nets after an attempt has ended so
abbrev pub nets_after : Tag → Outcome → List ℕ → List ℕ
nets_after t (Done name) ns = slice_set ns t.change (net_after t.way)
nets_after t _ ns = ns

-- the row after an attempt has ended
abbrev pub after_settled : Tag → Outcome → OccRow → OccRow
after_settled t outcome r = record r {
  trouble = is_trouble_among t outcome r.pending || r.trouble;
  cause = otherwise (cause_among t outcome r.pending) r.cause;
  pending = ended t r.pending;
  nets = nets_after t outcome r.nets;
  waiting = tally_after 0 t outcome r.changes r.waiting;
  made = tally_after 1 t outcome r.changes r.made;
}

-- the row after its occurrence was granted
abbrev pub after_granted : Grant → OccRow → OccRow
after_granted g r = record r { ended = true; grant = Some g }

-- the row after it was told where its grant will be
abbrev pub after_told : List ℕ → OccRow → OccRow
after_told at r = record r { location = Some at }

-- the row after it has forgotten attempts, places and the location of its grant, where its occurrence is over
abbrev pub forgotten : Bool → OccRow → OccRow
forgotten over r = record r {
  attempts = kept over r.attempts;
  location = kept_where over r.location;
  grant = option_map (stripped over) r.grant;
}

-- the row after a move to this state at this time, which never happens where its occurrence is over
abbrev pub after_move : ℕ → OpState → OccRow → OccRow
after_move time to r =
    if is_final r.state then r else forgotten (is_final to)
    (record r { state = to; entered = time; cancel = None; trouble = false })

-- beside a row whose occurrence isn't over there is room for four open attempts where none is open
abbrev pub HasRoomBeside : OccRow → ℕ → Type 0
HasRoomBeside r room = is_final r.state ≡ false → length r.pending ≡ 0 → 4 ≤ room

-- the answer tells where the grant will be
abbrev pub is_later : GrantTry → Bool
is_later (Later at) = true
is_later _ = false

-- the event brings what is laid aside for it: a grant, or the location of one
abbrev pub is_bringing : EventKind → Bool
is_bringing (Granted o name places spots) = true
is_bringing (GrantTried o answer) = is_later answer
is_bringing _ = false

-- what each change used, after one has used something, or nothing
abbrev pub put_used : ℕ → Option Used → List (Option Used) → List (Option Used)
put_used c None us = us
put_used c (Some u) us = slice_set us c (Some u)

-- the row after its change of this number has used something, or nothing
abbrev pub noted : ℕ → Option Used → OccRow → OccRow
noted c x r = record r { used = put_used c x r.used }

-- the row after an event of this moment that is about its occurrence, by which its change has used something, or
-- nothing
abbrev pub row_after : ℕ → Option Used → EventKind → OccRow → OccRow
row_after time x (GrantTried o answer) r = after_answer answer r
row_after time x (Granted o name places spots) r = after_granted
    (record { name = name; places = places; spots = spots }) r
row_after time x (Denied o) r = record r { ended = true; cause = Some causes.Denied }
row_after time x (Moved o to) r = after_move time to r
row_after time x (CancelAsked o mode) r = record r {
  cancel = after_cancel mode r.cancel;
  cause =
      Some causes.Cancelled;
}
row_after time x (Intent t) r = after_begun t r
row_after time x (CallFailed t) r = record r { pending = map (failed_by t) r.pending }
row_after time x (Settled t outcome) r = noted t.change x (after_settled t outcome r)
row_after time x _ r = r

-- a list with the entry at this place changed
abbrev pub update : {A : Type 0} → (A → A) → ℕ → List A → List A
update f n [] = []
update f zero (x ∷ xs) = f x ∷ xs
update f (suc n) (x ∷ xs) = x ∷ update f n xs

-- the rows after an event of this moment about this occurrence, or about none
abbrev pub rows_about : Option ℕ → ℕ → Option Used → EventKind → List OccRow → List OccRow
rows_about None time x k rs = rs
rows_about (Some o) time x k rs = update (row_after time x k) (o - 1) rs

-- the row with the descriptor of its instance
abbrev pub described : List ℕ → OccRow → OccRow
described v r = record r { vnfd = v }

-- the rows after an event of this moment, where the instances have these descriptors, and by which a change has used
-- something, or nothing
abbrev pub rows_after : List (List ℕ) → ℕ → Option Used → EventKind → List OccRow → List OccRow
rows_after vs time x (Asked a) rs = rs ++ described (vnfd_in a.instance vs) (first_row time a) ∷ []
rows_after vs time x k rs = rows_about (occurrence_of k) time x k rs

-- no attempt is open
abbrev pub none_open : List Pending → Bool
none_open [] = true
none_open (p ∷ ps) = false

-- the mode in force is FORCEFUL
abbrev pub is_forced_mode : Option CancelMode → Bool
is_forced_mode (Some Forceful) = true
is_forced_mode _ = false

-- the work of the row's occurrence is at rest
abbrev pub is_quiet_row : OccRow → Bool
is_quiet_row r = none_open r.pending && not r.trouble && is_none r.cancel

-- the work of the row's occurrence has stopped
abbrev pub has_stopped_row : OccRow → Bool
has_stopped_row r = none_open r.pending && (r.trouble || is_some r.cancel)

-- the grant exchange of the row's occurrence gives it up
abbrev pub gives_up_row : OccRow → Bool
gives_up_row r = is_forced_mode r.cancel || (r.ended && not (is_some r.grant)) || (is_some r.grant && is_some r.cancel)

-- the grant exchange of the row's occurrence goes on
abbrev pub is_asking_row : OccRow → Bool
is_asking_row r = same_state r.state Starting && not r.ended && not (is_forced_mode r.cancel)

-- a try tells the row a location only where it has none
abbrev pub is_new_try_row : GrantTry → OccRow → Bool
is_new_try_row (Later at) r = is_none r.location
is_new_try_row _ r = true

-- the grant may be recorded in the row
pub record MayTake (r : OccRow) (name : List ℕ) (places : List Place) (spots : List ℕ) : Type 0 where
  pub asking : is_asking_row r ≡ true
  pub named : is_given name ≡ true
  pub placed : IsPlacing places spots (length r.changes)

-- an attempt at the change of this number is among these
abbrev pub has_open_at : ℕ → List Pending → Bool
has_open_at c ps = list_any (λ p. p.tag.change == c) ps

-- the number of an attempt is one more than these
abbrev pub is_next : ℕ → Option ℕ → Bool
is_next n None = false
is_next n (Some k) = k + 1 == n

-- the counts of the changes that an attempt in this way is for: those that wait, or those that are made
abbrev pub counts_for : Way → OccRow → List ℕ
counts_for Forward r = r.waiting
counts_for Undo r = r.made

-- it is the turn of a change: it has the net that the way begins with, and no such change is left in a phase that goes
-- before
abbrev pub is_turn : Tag → OccRow → Option Change → Bool
is_turn t r None = false
is_turn t r (Some x) =
    option_map_or (λ n. n == net_before t.way) (slice_get r.nets t.change) false
    && is_clear t.way x.phase (counts_for t.way r)

-- the attempt may begin at the row's occurrence, where at most so many may be open
pub record MayBeginRow (width : ℕ) (t : Tag) (r : OccRow) : Type 0 where
  pub works : r.state ≡ works_in t.way
  pub no_trouble : r.trouble ≡ false
  pub no_cancel : is_some r.cancel ≡ false
  pub room : length r.pending < width
  pub none_open : has_open_at t.change r.pending ≡ false
  pub number : is_next t.attempt (slice_get r.attempts t.change) ≡ true
  pub turn : is_turn t r (slice_get r.changes t.change) ≡ true

-- the row's occurrence may move from the one state to the other
abbrev pub may_move_from : OpState → OpState → OccRow → Bool
may_move_from Starting Processing r = is_some r.grant && is_none r.cancel
may_move_from Starting RolledBack r = gives_up_row r
may_move_from Processing Completed r = is_quiet_row r && none_counted r.waiting
may_move_from RollingBack RolledBack r = is_quiet_row r && none_counted r.made
may_move_from Processing FailedTemp r = has_stopped_row r
may_move_from RollingBack FailedTemp r = has_stopped_row r
may_move_from FailedTemp RollingBack r = not (is_terminate r.ask)
may_move_from FailedTemp Processing r = true
may_move_from FailedTemp Failed r = true
may_move_from _ _ r = false
