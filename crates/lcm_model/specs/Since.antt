-- What happened to an occurrence since its last move: cancels and trouble (SOL 003 5.4.17, Cancel operation task).
use Rattle.std.specs.List.{list_any}
use Rattle.std.specs.Prelude.{Bool, List, None, Option, Some, [], false, filter_map, if◌then◌else◌, is_some, true, ℕ}
use Rattle.std.specs.Prelude.{◌&&◌, ◌||◌, ◌==◌, ◌∷◌}
use Rattle.lcm_events.specs.Same.{same_tag}
use Rattle.lcm_events.specs.declared.attempts.Outcome.{Outcome}
use Rattle.lcm_events.specs.declared.attempts.Outcome.TheVariants.{Aborted, Broken, Done, NotBegun}
use Rattle.lcm_events.specs.declared.attempts.Tag.{Tag}
use Rattle.lcm_events.specs.declared.events.Event.{Event}
use Rattle.lcm_events.specs.declared.events.EventKind.{EventKind}
use Rattle.lcm_events.specs.declared.events.EventKind.TheVariants.{CallFailed, CancelAsked, Settled}
use Rattle.lcm_events.specs.declared.states.CancelMode.{CancelMode}
use Rattle.lcm_model.specs.Words.{first, when}
use Rattle.lcm_model.specs.Moves.{moved_to}
use Rattle.lcm_events.specs.declared.states.CancelMode.TheVariants.{Graceful, Forceful}

-- the events since the last move of the occurrence, the latest first (own rule)
abbrev pub since_move : List Event → ℕ → List Event
since_move [] o = []
since_move (e ∷ H) o = if is_some (moved_to o e.kind) then [] else e ∷ since_move H o

-- how an event asks to cancel the occurrence (own rule)
abbrev pub cancel_in : ℕ → EventKind → Option CancelMode
cancel_in o (CancelAsked occ mode) = when (occ == o) mode
cancel_in o _ = None

-- the cancels in force, the latest first: those since the last move (SOL 003 5.4.17)
abbrev pub cancels : List Event → ℕ → List CancelMode
cancels H o = filter_map (λ e. cancel_in o e.kind) (since_move H o)

-- the mode is FORCEFUL (SOL 003 5.5.2.14, CancelMode)
abbrev pub is_forceful : CancelMode → Bool
is_forceful Forceful = true
is_forceful Graceful = false

-- a cancel is in force (SOL 003 5.4.17)
abbrev pub is_cancelled : List Event → ℕ → Bool
is_cancelled H o = is_some (first (cancels H o))

-- a FORCEFUL cancel is in force: one of those in force is (own rule)
abbrev pub is_forced : List Event → ℕ → Bool
is_forced H o = list_any is_forceful (cancels H o)

-- the tag of the call that an event says has failed (own rule)
abbrev pub failed_call_in : EventKind → Option Tag
failed_call_in (CallFailed tag) = Some tag
failed_call_in _ = None

-- the call that was to begin the attempt has failed (own rule)
abbrev pub has_call_failed : List Event → Tag → Bool
has_call_failed H t = list_any (same_tag t) (filter_map (λ e. failed_call_in e.kind) H)

-- the outcome is trouble: broken, aborted, or not begun after a failed call (own rule)
abbrev pub is_trouble : List Event → Tag → Outcome → Bool
is_trouble H t (Done name) = false
is_trouble H t (Broken code) = true
is_trouble H t Aborted = true
is_trouble H t NotBegun = has_call_failed H t

-- the event, after its past, is trouble of the occurrence (own rule)
abbrev pub troubles : List Event → ℕ → EventKind → Bool
troubles H o (Settled t outcome) = (t.occ == o) && is_trouble H t outcome
troubles H o _ = false

-- there is trouble since the last move: an event behind it was trouble when it came (own rule)
abbrev pub has_trouble : List Event → ℕ → Bool
has_trouble [] o = false
has_trouble (e ∷ H) o = if is_some (moved_to o e.kind) then false else (troubles H o e.kind || has_trouble H o)
