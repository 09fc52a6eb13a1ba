-- Where rows place the changes of a plan, found row by row (own rule).
use Rattle.std.specs.Option.{option_or}
use Rattle.std.specs.Prelude.{Bool, List, Option, None, Some, ℕ, ◌≡◌, ◌<◌, ◌&&◌, length, if◌then◌else◌, slice_index_or}
use Rattle.lcm_events.specs.Same.{same_name}
use Rattle.lcm_events.specs.declared.changes.Change.{Change}
use Rattle.lcm_events.specs.declared.places.Place.{Place}
use Rattle.lcm_model.specs.Grants.{change_id, place_in_rows}
use Rattle.grant_desk.specs.Parts.{asks}
use Rattle.grant_desk.specs.declared.parts.Part.{Part}

-- the place found for a change, once one is offered to it: the first stays
abbrev pub found_with : Bool → Option Place → Option Place → Option Place
found_with asked old place = if asked then option_or old place else old

-- the place found for change k of a part behind one row: that of the row, where it names the change and none was found
-- before
abbrev pub found_by_row : Part → List ℕ × Place → Change → ℕ → Option Place → Option Place
found_by_row part row x k old = found_with (asks part x.verb && same_name row.0 (change_id k)) old (Some row.1)

-- the places found for the changes behind one row of a part
pub record FoundByRow (part : Part) (row : List ℕ × Place) (xs : List Change)
    (old new : List (Option Place)) : Type 0 where
  pub long : length new ≡ length old
  pub each : (k : ℕ) (x : Change) → k < length xs → slice_index_or new k None
      ≡ found_by_row part row (slice_index_or xs k x) k (slice_index_or old k None)

-- the places found for the changes behind all rows of a part
pub record FoundByRows (part : Part) (rows : List (List ℕ × Place)) (xs : List Change)
    (old new : List (Option Place)) : Type 0 where
  pub long : length new ≡ length old
  pub each : (k : ℕ) (x : Change) → k < length xs
      → slice_index_or new k None ≡ found_with (asks part (slice_index_or xs k x).verb) (slice_index_or old k None)
      (place_in_rows rows (change_id k))
