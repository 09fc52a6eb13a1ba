-- How often rows name the changes of a plan (own rule).
use Rattle.std.specs.Prelude.{Bool, List, length, filter, ℕ, ◌≡◌, ◌<◌, ◌+◌, ◌^◌, ◌==◌, ◌||◌, not, min, slice_index}
use Rattle.std.specs.Prelude.{if◌then◌else◌, zip}
use Rattle.std.specs.List.{enumerate_from, list_all}
use Rattle.lcm_events.specs.Same.{same_name}
use Rattle.lcm_events.specs.declared.changes.Change.{Change}
use Rattle.lcm_events.specs.declared.places.Place.{Place}
use Rattle.lcm_model.specs.Grants.{change_id}
use Rattle.grant_desk.specs.Parts.{asks}
use Rattle.grant_desk.specs.declared.parts.Part.{Part}

-- how many rows name change k
unfoldable pub times : List (List ℕ × Place) → ℕ → ℕ
times rows k = length (filter (λ r. same_name r.0 (change_id k)) rows)

-- a count after a row with this identifier, of the rows that name change k: as far as a byte counts
abbrev pub counted : List ℕ → ℕ → ℕ → ℕ
counted id k n = if same_name id (change_id k) then min (n + 1) 255 else n

-- the counts are those of the rows for changes first, first + 1 and on
pub record AreTallied (rows : List (List ℕ × Place)) (first : ℕ) (counts : List ℕ) : Type 0 where
  pub each : (j : ℕ) → j < length counts → first + j < 2 ^ 64 → slice_index counts j ≡ min (times rows (first + j)) 255

-- a change and its count: it is named once, where it is asked for in this part
abbrev pub is_counted_once : Part → Change × ℕ → Bool
is_counted_once part x = not (asks part x.0.verb) || (x.1 == 1)

-- each of these changes that is asked for in this part is named once, by their counts
abbrev pub are_counted_once : Part → List Change → List ℕ → Bool
are_counted_once part xs counts = list_all (is_counted_once part) (zip xs counts)

-- a change and its number: the rows name it once, where it is asked for in this part
abbrev pub is_named_once : Part → List (List ℕ × Place) → ℕ × Change → Bool
is_named_once part rows x = not (asks part x.1.verb) || (times rows x.0 == 1)

-- each of these changes, of which the first has this number, that is asked for in this part is named once by the rows
abbrev pub are_named_once : Part → List (List ℕ × Place) → ℕ → List Change → Bool
are_named_once part rows first xs = list_all (is_named_once part rows) (enumerate_from first xs)
