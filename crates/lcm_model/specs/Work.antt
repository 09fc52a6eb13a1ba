-- When an attempt may begin and when an occurrence may move (SOL 003 5.6.2; phases and windows are own rules).
use Rattle.std.specs.List.{enumerate_from, list_all}
use Rattle.std.specs.Prelude.{Bool, List, None, Option, Some, [], false, length, nat_lt, not, true, ℕ, ◌&&◌, ◌+◌, ◌<◌}
use Rattle.std.specs.Prelude.{◌==◌, ◌||◌, ◌≡◌}
use Rattle.lcm_events.specs.declared.attempts.Tag.{Tag}
use Rattle.lcm_events.specs.declared.attempts.Way.{Way}
use Rattle.lcm_events.specs.declared.attempts.Way.TheVariants.{Forward, Undo}
use Rattle.lcm_events.specs.declared.changes.Change.{Change}
use Rattle.lcm_events.specs.declared.events.Event.{Event}
use Rattle.lcm_events.specs.declared.events.Operation.{Operation}
use Rattle.lcm_events.specs.declared.states.OpState.{OpState}
use Rattle.lcm_events.specs.declared.states.OpState.TheVariants.{Completed, Failed, FailedTemp, Processing, RolledBack}
use Rattle.lcm_events.specs.declared.states.OpState.TheVariants.{RollingBack, Starting}
use Rattle.lcm_model.specs.Moves.{state}
use Rattle.lcm_model.specs.Attempts.{attempts, net, open_attempts, open_of}
use Rattle.lcm_model.specs.Operations.{change_of, changes, operation}
use Rattle.lcm_model.specs.Grants.{has_ended, is_granted}
use Rattle.lcm_model.specs.Since.{has_trouble, is_cancelled, is_forced}
use Rattle.lcm_model.specs.Plans.{phase}
use Rattle.lcm_model.specs.Refusals.{is_terminate}

-- how many attempts of an occurrence the product has open at once, at most (own rule)
abbrev pub window : ℕ
window = 4

-- the state in which attempts in this way are made (SOL 003 5.6.2)
abbrev pub works_in : Way → OpState
works_in Forward = Processing
works_in Undo = RollingBack

-- the net that a change has before it is made, or before it is undone (own rule)
abbrev pub net_before : Way → ℕ
net_before Forward = 0
net_before Undo = 1

-- the net that a change has once it is made, or once it is undone (own rule)
abbrev pub net_after : Way → ℕ
net_after Forward = 1
net_after Undo = 0

-- a change goes before those of this phase: a lower phase is made first, a higher one undone first (own rule)
abbrev pub goes_before : Way → ℕ → Change → Bool
goes_before Forward phase x = nat_lt x.phase phase
goes_before Undo phase x = nat_lt phase x.phase

-- a change, with its number, is through where it goes before those of this phase (own rule)
unfoldable pub is_through : List Event → ℕ → Way → ℕ → ℕ × Change → Bool
is_through H o way phase x = not (goes_before way phase x.1) || (net H o x.0 == net_after way)

-- every change that goes before this phase is through (own rule)
abbrev pub all_through : List Event → ℕ → Way → ℕ → Bool
all_through H o way phase = list_all (is_through H o way phase) (enumerate_from 0 (changes H o))

-- it is the turn of a change: it waits for the attempt, and every change that goes before it is through (own rule)
abbrev pub IsTurnOf : List Event → Tag → Option Change → Type 0
IsTurnOf H t None = ⊥
IsTurnOf H t (Some x) = (net H t.occ t.change ≡ net_before t.way) × (all_through H t.occ t.way x.phase ≡ true)

-- the attempt may begin, where at most so many of an occurrence may be open (own rule)
pub record MayBeginWithin (width : ℕ) (H : List Event) (t : Tag) : Type 0 where
  pub works : state H t.occ ≡ works_in t.way
  pub no_trouble : has_trouble H t.occ ≡ false
  pub no_cancel : is_cancelled H t.occ ≡ false
  pub room : length (open_of H t.occ) < width
  pub none_open : open_attempts H t.occ t.change ≡ []
  pub number : t.attempt ≡ length (attempts H t.occ t.change) + 1
  pub turn : IsTurnOf H t (change_of H t)

-- the attempt may begin (own rule)
abbrev pub MayBegin : List Event → Tag → Type 0
MayBegin H t = MayBeginWithin window H t

-- a change, with its number, has this net (own rule)
unfoldable pub has_net : List Event → ℕ → ℕ → ℕ × Change → Bool
has_net H o n x = net H o x.0 == n

-- every change of the occurrence has this net (own rule)
abbrev pub all_have_net : List Event → ℕ → ℕ → Bool
all_have_net H o n = list_all (has_net H o n) (enumerate_from 0 (changes H o))

-- the work of an occurrence is at rest: no open attempt, no trouble, no cancel (own rule)
pub record IsQuiet (H : List Event) (o : ℕ) : Type 0 where
  pub none_open : open_of H o ≡ []
  pub no_trouble : has_trouble H o ≡ false
  pub no_cancel : is_cancelled H o ≡ false

-- the work of an occurrence has stopped: no open attempt, and trouble or a cancel (own rule)
pub record HasStopped (H : List Event) (o : ℕ) : Type 0 where
  pub none_open : open_of H o ≡ []
  pub cause : (has_trouble H o || is_cancelled H o) ≡ true

-- the exchange gives the occurrence up: forced, ended without a grant, or granted and cancelled (own rule)
abbrev pub gives_up : List Event → ℕ → Bool
gives_up H o = is_forced H o || (has_ended H o && not (is_granted H o)) || (is_granted H o && is_cancelled H o)

-- the operation is TERMINATE (SOL 003 5.4.8)
abbrev pub is_termination : Option Operation → Bool
is_termination None = false
is_termination (Some a) = is_terminate a.ask

-- the occurrence may move from this state to that one (SOL 003 5.6.2; own rules on nets and cancels)
abbrev pub MayMove : List Event → ℕ → OpState → OpState → Type 0
MayMove H o Starting Processing = (is_granted H o ≡ true) × (is_cancelled H o ≡ false)
MayMove H o Starting RolledBack = gives_up H o ≡ true
MayMove H o Processing Completed = IsQuiet H o × (all_have_net H o 1 ≡ true)
MayMove H o RollingBack RolledBack = IsQuiet H o × (all_have_net H o 0 ≡ true)
MayMove H o Processing FailedTemp = HasStopped H o
MayMove H o RollingBack FailedTemp = HasStopped H o
MayMove H o FailedTemp RollingBack = is_termination (operation H o) ≡ false
MayMove H o FailedTemp Processing = Unit {0}
MayMove H o FailedTemp Failed = Unit {0}
MayMove H o _ _ = ⊥
