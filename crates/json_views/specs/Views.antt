-- How views are made of members and lists (RFC 8259 4, Objects; 5, Arrays).
use Rattle.std.specs.Prelude.{List, ℕ, Option, Some, None, map}
use Rattle.serde_json.specs.Data.{Data, array, Members, member}
use Rattle.serde_json.specs.View.{items_of}

-- a member that is there where there is a value of it, and then the rest
abbrev pub member_where : List ℕ → Option Data → Members → Members
member_where name None rest = rest
member_where name (Some d) rest = member name d rest

-- the array of what each entry is shown as, in order
abbrev pub array_of : {A : Type 0} → (A → Data) → List A → Data
array_of shown entries = array (items_of (map shown entries))
