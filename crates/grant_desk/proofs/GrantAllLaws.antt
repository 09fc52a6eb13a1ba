-- What an orchestrator that grants whatever it is asked for reads, gives and tells.
use Rattle.std.proofs.Common.{◌≡◌, ◌++◌, ◌∙◌, codes, map, subst, List, [], ◌∷◌, ℕ, Some, None, Option, refl, ap, sym, append_assoc, Bool}
use Rattle.std.proofs.Common.{true, false, ◌||◌}
use Rattle.std.specs.List.{enumerate_from}
use Rattle.std.specs.Prelude.{IsUtf8, filter, option_and_then, option_map}
use Rattle.std.specs.Str.{is_utf8}
use Rattle.std.proofs.lemmas.Str.{IsUtf8-from_is_utf8, is_utf8-from_IsUtf8}
use Rattle.serde_json.specs.Data.{Data, Items, no_items, item}
use Rattle.serde_json.specs.Find.{as_array, as_object, as_str, get}
use Rattle.serde_json.specs.Read.{read}
use Rattle.serde_json.specs.View.{items_of}
use Rattle.serde_json.specs.Written.{compact_text, has_float, items_have_float}
use Rattle.lcm_events.specs.declared.asks.Ask.{Ask}
use Rattle.lcm_events.specs.declared.changes.Change.{Change}
use Rattle.lcm_events.specs.declared.descriptor.Vnfd.{Vnfd}
use Rattle.lcm_events.specs.declared.held.Holding.{Holding}
use Rattle.lcm_model.specs.Grants.{change_id}
use Rattle.grant_desk.specs.GrantAll.{RequestsAreGranted, grant, grant_for, grant_text, part_rows, plan_grant, row, row_for, rows_for}
use Rattle.grant_desk.specs.GrantAll.{rows_where}
use Rattle.grant_desk.specs.Parts.{asks}
use Rattle.grant_desk.specs.Requests.{entries, entry, request}
use Rattle.grant_desk.specs.declared.parts.Part.{Part}
use Rattle.grant_desk.specs.declared.parts.Part.TheVariants as part
use Rattle.grant_desk.specs.declared.requests.GrantAsker.{GrantAsker}

-- the text for the bytes, by what they are read as
pub text-read : (n : ℕ) (bytes : List ℕ) (d : Data) → IsUtf8 bytes → read bytes ≡ Some d
    → grant_text n bytes ≡ option_map compact_text (grant_for n d)
text-read n bytes d utf8 reads = rw (is_utf8-from_IsUtf8 bytes utf8, reads) refl

pub text-unread : (n : ℕ) (bytes : List ℕ) → (IsUtf8 bytes → read bytes ≡ None) → grant_text n bytes ≡ None
text-unread n bytes unread = of (is_utf8 bytes) refl where
  of : (b : Bool) → is_utf8 bytes ≡ b → grant_text n bytes ≡ None
  of true e = rw (e, unread (IsUtf8-from_is_utf8 bytes e)) refl
  of false e = rw e refl

behind : (rows : List Data) (r : Data) (more : Option (List Data))
    → option_map (λ ys. rows ++ ys) (option_map (λ ys. r ∷ ys) more) ≡ option_map (λ ys. (rows ++ r ∷ []) ++ ys) more
behind rows r None = refl
behind rows r (Some ys) = ap Some (sym (append_assoc rows (r ∷ []) ys))

-- one row more
pub one_row : (rows : List Data) (r : Data) (d : Data) (ds : Items) → row_for d ≡ Some r
    → option_map (λ ys. rows ++ ys) (rows_for (item d ds)) ≡ option_map (λ ys. (rows ++ r ∷ []) ++ ys) (rows_for ds)
one_row rows r d ds e = rw e (behind rows r (rows_for ds))

-- an entry that can't be read
pub no_row : (rows : List Data) (d : Data) (ds : Items) → row_for d ≡ None → option_map (λ ys. rows ++ ys) (rows_for (item d ds)) ≡ None
no_row rows d ds e = rw e refl

-- neither of two has a float
or_false : (a b : Bool) → a ≡ false → b ≡ false → (a || b) ≡ false
or_false a b ha hb = rw (ha, hb) refl

-- these rows have no float
abbrev ArePlain : Option (List Data) → Type 0
ArePlain None = Unit {0}
ArePlain (Some rows) = items_have_float (items_of rows) ≡ false

more_plain : (id : List ℕ) (more : Option (List Data)) → ArePlain more → ArePlain (option_map (λ rs. row id ∷ rs) more)
more_plain id None plain = tt
more_plain id (Some rs) plain = plain

first_plain : (id : Option (List ℕ)) (more : Option (List Data)) → ArePlain more
    → ArePlain (option_and_then (λ r. option_map (λ rs. r ∷ rs) more) (option_map row id))
first_plain None more plain = tt
first_plain (Some id) more plain = more_plain id more plain

rows_plain : (ds : Items) → ArePlain (rows_for ds)
rows_plain no_items = refl
rows_plain (item d ds) = first_plain (option_and_then as_str (get (codes "id") d)) (rows_for ds) (rows_plain ds)

list_plain : (o : Option Items) → ArePlain (option_and_then rows_for o)
list_plain None = tt
list_plain (Some ds) = rows_plain ds

where_plain : (o : Option Data) → ArePlain (rows_where o)
where_plain None = refl
where_plain (Some d) = list_plain (as_array d)

-- the value, where there is one, has no float
abbrev IsPlain : Option Data → Type 0
IsPlain None = Unit {0}
IsPlain (Some d) = has_float d ≡ false

update_plain : (n : ℕ) (add remove : List Data) (update : Option (List Data)) → items_have_float (items_of add) ≡ false
    → items_have_float (items_of remove) ≡ false → ArePlain update
    → IsPlain (option_map (grant n add remove) update)
update_plain n add remove None a r u = tt
update_plain n add remove (Some update) a r u = or_false _ _ a (or_false _ _ r (or_false _ _ u refl))

remove_plain : (n : ℕ) (add : List Data) (remove update : Option (List Data)) → items_have_float (items_of add) ≡ false → ArePlain remove
    → ArePlain update
    → IsPlain (option_and_then (λ r. option_map (grant n add r) update) remove)
remove_plain n add None update a r u = tt
remove_plain n add (Some remove) update a r u = update_plain n add remove update a r u

add_plain : (n : ℕ) (add remove update : Option (List Data)) → ArePlain add → ArePlain remove → ArePlain update
    → IsPlain (option_and_then (λ a. option_and_then (λ r. option_map (grant n a r) update) remove) add)
add_plain n None remove update a r u = tt
add_plain n (Some add) remove update a r u = remove_plain n add remove update a r u

object_plain : {A : Type 0} (o : Option A) (g : Option Data) → IsPlain g → IsPlain (option_and_then (λ x. g) o)
object_plain None g plain = tt
object_plain (Some x) g plain = plain

-- a grant has no float
pub grant_plain : (n : ℕ) (d g : Data) → Some g ≡ grant_for n d → has_float g ≡ false
grant_plain n d g is = subst IsPlain (sym is) plain where
  plain : IsPlain (grant_for n d)
  plain = object_plain (as_object d) _
      (add_plain n (rows_where (get (codes "addResources") d)) (rows_where (get (codes "removeResources") d))
      (rows_where (get (codes "updateResources") d))
      (where_plain (get (codes "addResources") d)) (where_plain (get (codes "removeResources") d))
      (where_plain (get (codes "updateResources") d)))

-- what is granted for an entry of a request is its change
entry_row : (d : Vnfd) (h : Holding) (x : ℕ × Change) → row_for (entry d h x) ≡ Some (row (change_id x.0))
entry_row d h x = refl

-- what is granted for the entries of a request are their changes
entry_rows : (d : Vnfd) (h : Holding) (xs : List (ℕ × Change)) → rows_for (items_of (map (entry d h) xs))
    ≡ Some (map row (map (λ x. change_id x.0) xs))
entry_rows d h [] = refl
entry_rows d h (x ∷ xs) = ap (λ (o : Option (List Data)). option_map (λ rs. row (change_id x.0) ∷ rs) o) (entry_rows d h xs)

part_granted : (d : Vnfd) (h : Holding) (p : Part) (xs : List Change) → rows_where (Some (entries d h p xs)) ≡ Some (part_rows p xs)
unfolding entries
part_granted d h p xs = entry_rows d h (filter (λ x. asks p x.1.verb) (enumerate_from 0 xs))

plan_granted : (n : ℕ) (d : Vnfd) (h : Holding) (who : GrantAsker) (ask : Ask) (xs : List Change)
    → grant_for n (request d h who ask xs) ≡ Some (plan_grant n xs)
plan_granted n d h who ask xs = rw (part_granted d h part.Add xs, part_granted d h part.Remove xs, part_granted d h part.Update xs) refl

-- each request for a plan is granted whole
pub requests_granted : RequestsAreGranted
requests_granted n d h who ask xs body utf8 reads =
    text-read n body (request d h who ask xs) utf8 reads ∙ ap (option_map compact_text) (plan_granted n d h who ask xs)
