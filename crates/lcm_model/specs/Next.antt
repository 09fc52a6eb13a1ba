-- The next action of an active occurrence, and the events that it appends (own rule over SOL 003 5.6.2).
use Rattle.std.specs.List.{enumerate_from, range_with_len}
use Rattle.std.specs.Prelude.{Bool, List, None, Option, Some, [], false, filter, is_some, length, map, nat_lt, not}
use Rattle.std.specs.Prelude.{option_and_then, option_map, true, ℕ, ◌+◌, ◌==◌, ◌&&◌, ◌||◌, ◌∷◌}
use Rattle.lcm_events.specs.declared.attempts.Outcome.TheVariants.{Aborted, Broken, Done, NotBegun}
use Rattle.lcm_events.specs.declared.attempts.Tag.{Tag}
use Rattle.lcm_events.specs.declared.attempts.Way.{Way}
use Rattle.lcm_events.specs.declared.attempts.Way.TheVariants.{Forward, Undo}
use Rattle.lcm_events.specs.declared.events.Event.{Event}
use Rattle.lcm_events.specs.declared.events.EventKind.{EventKind}
use Rattle.lcm_events.specs.declared.events.EventKind.TheVariants.{CallFailed, Denied, GrantTried, Granted, Intent}
use Rattle.lcm_events.specs.declared.events.EventKind.TheVariants.{Moved, Settled}
use Rattle.lcm_events.specs.declared.events.GrantTry.TheVariants.{Later, NotCovering, Trouble}
use Rattle.lcm_events.specs.declared.places.Place.{Place}
use Rattle.lcm_events.specs.declared.states.OpState.{OpState}
use Rattle.lcm_events.specs.declared.states.OpState.TheVariants.{Completed, FailedTemp, Processing, RolledBack}
use Rattle.lcm_events.specs.declared.states.OpState.TheVariants.{RollingBack, Starting}
use Rattle.lcm_model.specs.declared.actions.Action.{Action}
use Rattle.lcm_model.specs.declared.actions.Action.TheVariants.{AbortAndLook, AskForGrant, Begin, Look, MoveTo, Poll}
use Rattle.lcm_model.specs.Words.{first, first_some, last, when}
use Rattle.lcm_model.specs.Moves.{state}
use Rattle.lcm_events.specs.declared.changes.Change.{Change}
use Rattle.lcm_model.specs.Attempts.{attempts, net, open_attempts, open_of}
use Rattle.lcm_model.specs.Operations.{changes, operation}
use Rattle.lcm_model.specs.Grants.{is_granted, location}
use Rattle.lcm_model.specs.Since.{has_trouble, is_cancelled, is_forced}
use Rattle.lcm_model.specs.Work.{all_through, gives_up, net_before, window}

-- a change of the occurrence has this net (own rule)
unfoldable pub is_at_net : List Event → ℕ → ℕ → ℕ → Bool
is_at_net H o n c = net H o c == n

-- the numbers of the occurrence's changes with this net, rising (own rule)
abbrev pub with_net : List Event → ℕ → ℕ → List ℕ
with_net H o n = filter (is_at_net H o n) (range_with_len 0 (length (changes H o)))

-- the tag of the next attempt at a change in this way (own rule)
abbrev pub new_tag : List Event → ℕ → Way → ℕ → Tag
new_tag H o way c = record { occ = o; change = c; attempt = length (attempts H o c) + 1; way = way }

-- no attempt is open (own rule)
abbrev pub is_none_open : List Tag → Bool
is_none_open [] = true
is_none_open (t ∷ ts) = false

-- what is given where this holds, and else nothing (own rule)
abbrev pub only_when : {A : Type 0} → Bool → Option A → Option A
only_when true x = x
only_when false x = None

-- the open attempt of an occurrence that began first (own rule)
abbrev pub first_open : List Event → ℕ → Option Tag
first_open H o = last (open_of H o)

-- the attempt is begun (own rule)
abbrev pub begin_of : List Event → ℕ → Way → ℕ → Action
begin_of H o way c = Begin (new_tag H o way c)

-- what is done while the grant is asked for (SOL 003 9.4.2)
abbrev pub next_while_asking : List Event → ℕ → Option Action
next_while_asking H o = first_some (
    when (gives_up H o) (MoveTo RolledBack)
    ∷ when (is_granted H o) (MoveTo Processing)
    ∷ when (is_some (location H o)) Poll
    ∷ Some AskForGrant ∷ [])

-- change c, with its change, may be attempted in this way: it waits, no attempt at it is open, and every change that
-- goes before it is through (own rule)
unfoldable pub is_free : List Event → ℕ → Way → ℕ × Change → Bool
is_free H o way x = (net H o x.0 == net_before way) && (is_none_open (open_attempts H o x.0)
    && all_through H o way x.1.phase)

-- the numbers of the changes that may be attempted in this way, rising (own rule)
abbrev pub free : List Event → ℕ → Way → List ℕ
free H o way = map (λ x. x.0) (filter (is_free H o way) (enumerate_from 0 (changes H o)))

-- the one that is attempted next: the first is made, the last undone (own rule)
abbrev pub chosen : Way → List ℕ → Option ℕ
chosen Forward ns = first ns
chosen Undo ns = last ns

-- one more attempt of the occurrence may begin: there is neither trouble nor a cancel, and fewer are open than the
-- window lets be (own rule)
abbrev pub goes_on : List Event → ℕ → Bool
goes_on H o = not (has_trouble H o || is_cancelled H o) && nat_lt (length (open_of H o)) window

-- the state that is left for, once no change is left for an attempt in this way (SOL 003 5.6.2)
abbrev pub end_of : Way → OpState
end_of Forward = Completed
end_of Undo = RolledBack

-- what is done while attempts are made in this way: under a FORCEFUL cancel the open ones are aborted and the first is
-- looked at; while there is room one more begins; else the first is looked at; after trouble or a cancel the work
-- stops, and else it is done (own rule)
abbrev pub next_at_work : List Event → ℕ → Way → Option Action
next_at_work H o way = first_some (
    only_when (is_forced H o) (option_map AbortAndLook (first_open H o))
    ∷ only_when (goes_on H o) (option_map (begin_of H o way) (chosen way (free H o way)))
    ∷ option_map Look (first_open H o)
    ∷ when (has_trouble H o || is_cancelled H o) (MoveTo FailedTemp)
    ∷ Some (MoveTo (end_of way)) ∷ [])

-- what is done in a state: changes are made in order, and undone in the reverse order (own rule)
abbrev pub next_in : OpState → List Event → ℕ → Option Action
next_in Starting H o = next_while_asking H o
next_in Processing H o = next_at_work H o Forward
next_in RollingBack H o = next_at_work H o Undo
next_in _ H o = None

-- the next action of an occurrence that was asked for, which an active one has (own rule)
abbrev pub next_action : List Event → ℕ → Option Action
next_action H o = option_and_then (λ a. next_in (state H o) H o) (operation H o)

-- what the outside answers to an action (own rule)
pub data Answer : Type 0 where
  GrantCame : List ℕ → List Place → List ℕ → Answer
  GrantMissesSome : Answer
  GrantDenied : Answer
  GrantTrouble : Answer
  GrantLater : Option (List ℕ) → Answer
  BeginTaken : Answer
  BeginRefused : ℕ → Answer
  BeginFailed : Answer
  LookedDone : List ℕ → Answer
  LookedBroken : ℕ → Answer
  LookedAborted : Answer
  LookedAbsent : Answer
  LookedRunning : Answer
  LookFailed : Answer

-- the events that the answer to a grant request of o appends, the latest first: one that comes later tells where, or is
-- trouble (SOL 003 9.4.2)
abbrev pub granting : ℕ → Answer → List EventKind
granting o (GrantCame grant places spots) = Granted o grant places spots ∷ []
granting o GrantMissesSome = GrantTried o NotCovering ∷ []
granting o GrantDenied = Denied o ∷ []
granting o GrantTrouble = GrantTried o Trouble ∷ []
granting o (GrantLater (Some at)) = GrantTried o (Later at) ∷ []
granting o (GrantLater None) = GrantTried o Trouble ∷ []
granting o _ = []

-- the events that the answer to a poll appends: none where the grant comes later still (SOL 003 9.4.3)
abbrev pub polling : ℕ → Answer → List EventKind
polling o (GrantLater at) = []
polling o answer = granting o answer

-- the events that the answer to a begin appends, the latest first (own rule)
abbrev pub beginning : Tag → Answer → List EventKind
beginning t BeginTaken = Intent t ∷ []
beginning t (BeginRefused code) = Settled t (Broken code) ∷ Intent t ∷ []
beginning t BeginFailed = CallFailed t ∷ Intent t ∷ []
beginning t _ = []

-- the events that the answer to a look appends (own rule)
abbrev pub looking : Tag → Answer → List EventKind
looking t (LookedDone name) = Settled t (Done name) ∷ []
looking t (LookedBroken code) = Settled t (Broken code) ∷ []
looking t LookedAborted = Settled t Aborted ∷ []
looking t LookedAbsent = Settled t NotBegun ∷ []
looking t _ = []

-- the events that an action of o with this answer appends, the latest first (own rule)
abbrev pub appended : ℕ → Action → Answer → List EventKind
appended o (MoveTo to) answer = Moved o to ∷ []
appended o AskForGrant answer = granting o answer
appended o Poll answer = polling o answer
appended o (AbortAndLook t) answer = looking t answer
appended o (Look t) answer = looking t answer
appended o (Begin t) answer = beginning t answer
