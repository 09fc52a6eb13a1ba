-- The lines that tell of a history (own rule, docs/FORMATS.md).
use Rattle.std.specs.List.{range_with_len}
use Rattle.std.specs.Option.{option_map_or}
use Rattle.std.specs.Prelude.{IsUtf8, List, Option, [], flat_map, if◌then◌else◌, length, ℕ, ◌++◌, ◌≡◌}
use Rattle.executor.specs.Reading.{event_in}
use Rattle.history_lines.specs.Lines.{line}
use Rattle.history_report.specs.Chosen.{is_chosen, row_of, vnfd_of}
use Rattle.history_report.specs.declared.chosen.Chosen.{Chosen}
use Rattle.lcm_events.specs.declared.events.Event.{Event}

-- the line of event n, which is this one, where it is chosen
abbrev pub line_of : ℕ → List Event → Chosen → ℕ → Event → List ℕ
line_of manager H c n e = if is_chosen c (row_of H e.kind) e.kind
    then line manager n e (row_of H e.kind) (vnfd_of H (row_of H e.kind)) else []

-- the line of event n of a history, from 1, where it is chosen
unfoldable pub line_at : ℕ → List Event → Chosen → ℕ → List ℕ
line_at manager H c n = option_map_or (λ e. line_of manager H c n e) (event_in H n) []

-- the lines of the events of a history that are chosen, in the order in which they happened
unfoldable pub lines : ℕ → List Event → Chosen → List ℕ
lines manager H c = flat_map (line_at manager H c) (range_with_len 1 (length H))

-- a text is the front of a whole one
abbrev pub IsFrontOf : List ℕ → List ℕ → Type 0
IsFrontOf whole text = (rest : List ℕ) × (text ++ rest ≡ whole)

-- a page was put behind what stood there
abbrev pub PutsPage : List ℕ → List ℕ → Type 0
PutsPage before after = (page : List ℕ) × IsUtf8 page × (after ≡ before ++ page)
