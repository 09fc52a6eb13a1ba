-- Operations, their changes, and what an attempt at a change does (SOL 003 5.5.2.13, VnfLcmOpOcc).
use Rattle.std.specs.Option.{option_map_or}
use Rattle.std.specs.Prelude.{Bool, List, None, Option, Some, [], filter, filter_map, find, length, not, slice_get, ℕ}
use Rattle.std.specs.Prelude.{◌&&◌, ◌==◌}
use Rattle.lcm_events.specs.declared.asks.Ask.{Ask}
use Rattle.lcm_events.specs.declared.asks.Ask.TheVariants.{Heal, Instantiate, Operate, Scale, ScaleToLevel, Terminate}
use Rattle.lcm_events.specs.declared.asks.OpKind.{OpKind}
use Rattle.lcm_events.specs.declared.attempts.Tag.{Tag}
use Rattle.lcm_events.specs.declared.attempts.Way.{Way}
use Rattle.lcm_events.specs.declared.attempts.Way.TheVariants.{Forward, Undo}
use Rattle.lcm_events.specs.declared.changes.Change.{Change}
use Rattle.lcm_events.specs.declared.changes.Verb.{Verb}
use Rattle.lcm_events.specs.declared.changes.Verb.TheVariants.{Create, Remove, Start, Stop}
use Rattle.lcm_events.specs.declared.events.Event.{Event}
use Rattle.lcm_events.specs.declared.events.EventKind.{EventKind}
use Rattle.lcm_events.specs.declared.events.EventKind.TheVariants.{Asked, CallFailed, CancelAsked, Denied, GrantTried}
use Rattle.lcm_events.specs.declared.events.EventKind.TheVariants.{Granted, Intent, Moved, Settled}
use Rattle.lcm_events.specs.declared.events.Operation.{Operation}
use Rattle.lcm_model.specs.Moves.{is_final, state}
use Rattle.lcm_events.specs.declared.asks.OpKind.TheVariants as kinds

-- the operation that an event asks for (own rule)
abbrev pub asked_in : EventKind → Option Operation
asked_in (Asked operation) = Some operation
asked_in _ = None

-- the operations that were asked for, the latest first (own rule)
abbrev pub operations : List Event → List Operation
operations H = filter_map (λ e. asked_in e.kind) H

-- how many operations were asked for (own rule)
abbrev pub occurrences_made : List Event → ℕ
occurrences_made H = length (operations H)

-- the operation of this number (own rule)
abbrev pub operation : List Event → ℕ → Option Operation
operation H o = find (λ a. a.occ == o) (operations H)

-- the changes of an occurrence, in the order of its plan (own rule)
abbrev pub changes : List Event → ℕ → List Change
changes H o = option_map_or (λ a. a.changes) (operation H o) []

-- the occurrence that an event is about, which was asked for before it (own rule)
abbrev pub occurrence_of : EventKind → Option ℕ
occurrence_of (GrantTried occ answer) = Some occ
occurrence_of (Granted occ grant places spots) = Some occ
occurrence_of (Denied occ) = Some occ
occurrence_of (Intent tag) = Some tag.occ
occurrence_of (CallFailed tag) = Some tag.occ
occurrence_of (Settled tag outcome) = Some tag.occ
occurrence_of (Moved occ to) = Some occ
occurrence_of (CancelAsked occ mode) = Some occ
occurrence_of _ = None

-- the change that a tag names (own rule)
abbrev pub change_of : List Event → Tag → Option Change
change_of H t = slice_get (changes H t.occ) t.change

-- the kind of an operation (SOL 003 5.5.2.13)
abbrev pub kind_of : Ask → OpKind
kind_of (Instantiate flavour level) = kinds.Instantiate
kind_of (Scale way aspect steps) = kinds.Scale
kind_of (ScaleToLevel aim) = kinds.ScaleToLevel
kind_of (Heal cause named) = kinds.Heal
kind_of (Operate started stop) = kinds.Operate
kind_of (Terminate mode timeout) = kinds.Terminate

-- what undoes a change with this verb (own rule)
abbrev pub undo : Verb → Verb
undo Create = Remove
undo Remove = Create
undo Start = Stop
undo Stop = Start

-- what an attempt in this way at a change with this verb does (own rule)
abbrev pub verb_done : Way → Verb → Verb
verb_done Forward verb = verb
verb_done Undo verb = undo verb

-- an operation goes on: its state isn't final (SOL 003 5.6.2)
unfoldable pub goes_on : List Event → Operation → Bool
goes_on H a = not (is_final (state H a.occ))

-- the operation is the instance's and goes on (SOL 003 5.6.2)
abbrev pub is_ongoing : List Event → ℕ → Operation → Bool
is_ongoing H i a = (a.instance == i) && goes_on H a

-- the instance's operations that go on, the latest first (SOL 003 5.6.2)
abbrev pub ongoing : List Event → ℕ → List Operation
ongoing H i = filter (is_ongoing H i) (operations H)
