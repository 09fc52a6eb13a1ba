-- An array's text is that of its entries one after another, and an object's that of its members.
use Rattle.std.proofs.Common.{◌≡◌, [], ◌++◌, ◌∷◌, ◌∙◌, List, append_assoc, refl, true, ℕ}
use Rattle.serde_json.specs.Data.{Data, Items, Members, array, item, member, no_items, no_members, object}
use Rattle.serde_json.specs.Written.{items_text, members_text}
use Rattle.json_members.specs.Text.{TextSoFar, closed, opened, with_member, with_value}

-- with the entries behind it that are left of an array, and its end
abbrev pub with_items : Items → TextSoFar → TextSoFar
with_items ds w = record { text = w.text ++ items_text w.after_value ds; after_value = true }

-- with the members behind it that are left of an object, and its end
abbrev pub with_members : Members → TextSoFar → TextSoFar
with_members ms w = record { text = w.text ++ members_text w.after_value ms; after_value = true }

-- an array is its opening bracket, and then its entries
pub array_written : (ds : Items) (w : TextSoFar) → with_items ds (opened 91 w) ≡ with_value (array ds) w
array_written ds w = simp append_assoc

-- the first entry that is left is written, and then the others
pub item_written : (d : Data) (ds : Items) (w : TextSoFar) → with_items ds (with_value d w) ≡ with_items (item d ds) w
item_written d ds w = simp append_assoc

-- where none is left, the closing bracket ends it
pub items_written : (w : TextSoFar) → closed 93 w ≡ with_items no_items w
items_written w = refl

-- the same of an object, whose members each have a name and a value
pub object_written : (ms : Members) (w : TextSoFar) → with_members ms (opened 123 w) ≡ with_value (object ms) w
object_written ms w = simp append_assoc

pub member_written : (k : List ℕ) (d : Data) (ms : Members) (w : TextSoFar)
    → with_members ms (with_member k d w) ≡ with_members (member k d ms) w
member_written k d ms w = simp append_assoc

pub members_written : (w : TextSoFar) → closed 125 w ≡ with_members no_members w
members_written w = refl

-- members of these names and values, one after another
abbrev pub members_named : List (List ℕ × Data) → Members
members_named [] = no_members
members_named (m ∷ ms) = member m.0 m.1 (members_named ms)

-- what is written with them behind it
abbrev pub with_each : List (List ℕ × Data) → TextSoFar → TextSoFar
with_each [] w = w
with_each (m ∷ ms) w = with_each ms (with_member m.0 m.1 w)

each_written : (ms : List (List ℕ × Data)) (w : TextSoFar) → with_members no_members (with_each ms w) ≡ with_members (members_named ms) w
each_written [] w = refl
each_written (m ∷ ms) w = each_written ms (with_member m.0 m.1 w) ∙ member_written m.0 m.1 (members_named ms) w

-- an object is its opening bracket, its members one after another, and its closing bracket
pub object_in_turn : (ms : List (List ℕ × Data)) (w : TextSoFar)
    → closed 125 (with_each ms (opened 123 w)) ≡ with_value (object (members_named ms)) w
object_in_turn ms w = each_written ms (opened 123 w) ∙ object_written (members_named ms) w
