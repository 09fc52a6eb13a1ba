-- The attempts of a change, which of them are open, and the change's net (own rule).
use Rattle.std.specs.List.{list_any}
use Rattle.std.specs.Prelude.{Bool, List, None, Option, Some, false, filter, filter_map, length, not, true, ℕ, ◌&&◌}
use Rattle.std.specs.Prelude.{◌-◌, ◌==◌}
use Rattle.lcm_events.specs.Same.{same_tag, same_way}
use Rattle.lcm_events.specs.declared.attempts.Outcome.{Outcome}
use Rattle.lcm_events.specs.declared.attempts.Outcome.TheVariants.{Done}
use Rattle.lcm_events.specs.declared.attempts.Tag.{Tag}
use Rattle.lcm_events.specs.declared.attempts.Way.{Way}
use Rattle.lcm_events.specs.declared.attempts.Way.TheVariants.{Forward, Undo}
use Rattle.lcm_events.specs.declared.events.Event.{Event}
use Rattle.lcm_events.specs.declared.events.EventKind.{EventKind}
use Rattle.lcm_events.specs.declared.events.EventKind.TheVariants.{Intent, Settled}
use Rattle.lcm_model.specs.Words.{when}

-- the tag of an attempt that an event begins (own rule)
abbrev pub intent_in : EventKind → Option Tag
intent_in (Intent tag) = Some tag
intent_in _ = None

-- the tag of an attempt that an event ends (own rule)
abbrev pub settled_in : EventKind → Option Tag
settled_in (Settled tag outcome) = Some tag
settled_in _ = None

-- the outcome is that the attempt did its work (own rule)
abbrev pub is_done : Outcome → Bool
is_done (Done name) = true
is_done _ = false

-- the tag of an attempt that an event ends as done (own rule)
abbrev pub done_in : EventKind → Option Tag
done_in (Settled tag outcome) = when (is_done outcome) tag
done_in _ = None

-- the tags of all attempts, the latest first (own rule)
abbrev pub intents : List Event → List Tag
intents H = filter_map (λ e. intent_in e.kind) H

-- the tags of the attempts that ended, the latest first (own rule)
abbrev pub settled : List Event → List Tag
settled H = filter_map (λ e. settled_in e.kind) H

-- the tags of the attempts that ended as done, the latest first (own rule)
abbrev pub done : List Event → List Tag
done H = filter_map (λ e. done_in e.kind) H

-- the tag is of change c of occurrence o (own rule)
abbrev pub is_of : ℕ → ℕ → Tag → Bool
is_of o c t = (t.occ == o) && (t.change == c)

-- an attempt has ended (own rule)
abbrev pub is_settled : List Event → Tag → Bool
is_settled H t = list_any (same_tag t) (settled H)

-- an attempt has not ended (own rule)
unfoldable pub is_unsettled : List Event → Tag → Bool
is_unsettled H t = not (is_settled H t)

-- the attempts that are open, the latest first: begun and not ended (own rule)
abbrev pub open_tags : List Event → List Tag
open_tags H = filter (is_unsettled H) (intents H)

-- the attempts of change c of occurrence o, the latest first (own rule)
abbrev pub attempts : List Event → ℕ → ℕ → List Tag
attempts H o c = filter (is_of o c) (intents H)

-- the open attempts of change c of occurrence o (own rule)
abbrev pub open_attempts : List Event → ℕ → ℕ → List Tag
open_attempts H o c = filter (is_of o c) (open_tags H)

-- the tag is of occurrence o (own rule)
abbrev pub is_of_occurrence : ℕ → Tag → Bool
is_of_occurrence o t = t.occ == o

-- the open attempts of occurrence o, the latest first (own rule)
abbrev pub open_of : List Event → ℕ → List Tag
open_of H o = filter (is_of_occurrence o) (open_tags H)

-- the attempt is open (own rule)
abbrev pub is_open : List Event → Tag → Bool
is_open H t = list_any (same_tag t) (open_tags H)

-- how many attempts of c in this way are done (own rule)
abbrev pub done_count : Way → List Event → ℕ → ℕ → ℕ
done_count way H o c = length (filter (λ t. is_of o c t && same_way way t.way) (done H))

-- the net of a change: how often it was made less how often it was undone (own rule)
abbrev pub net : List Event → ℕ → ℕ → ℕ
net H o c = done_count Forward H o c - done_count Undo H o c
