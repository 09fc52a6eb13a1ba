-- What is looked at in a JSON value: what stands under names, the entries of a list, the members of an object (RFC
-- 8259).
use Rattle.std.specs.Prelude.{ℕ, List, [], ◌∷◌, ◌&&◌, Bool, false, nat_le, if◌then◌else◌, Option, Some, None}
use Rattle.std.specs.Prelude.{option_and_then}
use Rattle.std.specs.List.{filter_map}
use Rattle.std.specs.Option.{option_map_or}
use Rattle.std.specs.Str.{bytes_eq}
use Rattle.serde_json.specs.Data.{Data, Items, no_items, item, Members, no_members, member}
use Rattle.serde_json.specs.Find.{get, as_array, as_number, as_object, as_str, as_u64}

-- a name in the document, with what stands under it
abbrev pub Named : Type 0
Named = List ℕ × Data

-- the entries of a list, in order (RFC 8259 5)
abbrev pub items_in : Items → List Data
items_in no_items = []
items_in (item d ds) = d ∷ items_in ds

-- the members of an object, in byte order of their names (RFC 8259 4)
abbrev pub members_in : Members → List Named
members_in no_members = []
members_in (member k d ms) = (k, d) ∷ members_in ms

-- the entries of a value that is a list, and none of another
abbrev pub entries_of : Data → List Data
entries_of d = option_map_or items_in (as_array d) []

-- the members of a value that is an object, and none of another
abbrev pub members_of : Data → List Named
members_of d = option_map_or members_in (as_object d) []

-- what stands under these names, each in what stands under the one before
abbrev pub at : List (List ℕ) → Data → Option Data
at [] d = Some d
at (name ∷ names) d = option_and_then (at names) (get name d)

-- the one entry of a list that has just one
abbrev pub single : {A : Type 0} → List A → Option A
single [] = None
single (x ∷ []) = Some x
single (x ∷ y ∷ rest) = None

-- the member of an object that has just one
abbrev pub only_member : Data → Option Named
only_member d = single (members_of d)

-- the members of those entries of a list that are objects with just one: how TOSCA writes a list of named things
abbrev pub named_entries : Data → List Named
named_entries d = filter_map only_member (entries_of d)

-- the value is this text
abbrev pub is_text : List ℕ → Data → Bool
is_text text d = option_map_or (bytes_eq text) (as_str d) false

-- the whole number from low to high that the value is, where it is one
abbrev pub within : ℕ → ℕ → ℕ → Option ℕ
within low high n = if nat_le low n && nat_le n high then Some n else None

abbrev pub whole : ℕ → ℕ → Data → Option ℕ
whole low high d = option_and_then (within low high) (option_and_then as_u64 (as_number d))
