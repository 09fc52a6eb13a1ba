-- Distinct places, as they are seen one row after another (own rule).
use Rattle.std.specs.Prelude.{List, ℕ, ◌≡◌, ◌≤◌, ◌<◌, ◌++◌, Option, Some, None, length, map, take}
use Rattle.lcm_events.specs.declared.places.Place.{Place}
use Rattle.lcm_model.specs.Grants.{places_after}

-- the places seen, and behind them those of these rows that weren't
abbrev pub with_rows : List Place → List (List ℕ × Place) → List Place
with_rows seen rows = seen ++ places_after seen (map (λ r. r.1) rows)

-- the front of the room holds the places seen with those of these rows, where they fit; else they are more than the
-- room
abbrev pub Sees : List Place → List (List ℕ × Place) → Option ℕ → List Place → Type 0
Sees seen rows None room = length room < length (with_rows seen rows)
Sees seen rows (Some n) room = (n ≤ length room) × (take n room ≡ with_rows seen rows)
