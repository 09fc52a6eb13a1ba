-- The members of a view, and that it has no float.
use Rattle.std.proofs.Common.{◌≡◌, ℕ, List, [], ◌∷◌, Bool, true, false, ◌||◌, Option, Some, None, codes, map, refl, sym}
use Rattle.std.specs.Prelude.{if◌then◌else◌, option_map}
use Rattle.std.specs.Option.{option_map_or}
use Rattle.serde_json.specs.Data.{Data, Members, null, object, string}
use Rattle.serde_json.specs.View.{items_of}
use Rattle.serde_json.specs.Written.{has_float, items_have_float, members_have_float}
use Rattle.instance_table.specs.Rows.{Rows}
use Rattle.instance_table.specs.Table.{vnfd_named}
use Rattle.instance_table.specs.declared.rows.InstanceRow.{InstanceRow}
use Rattle.lcm_events.specs.declared.changes.DefKind.TheVariants.{Compute, Link, Storage}
use Rattle.lcm_events.specs.declared.descriptor.Vnfd.{Vnfd}
use Rattle.lcm_events.specs.declared.held.Held.{Held}
use Rattle.lcm_events.specs.declared.held.Holding.{Holding}
use Rattle.json_views.specs.Instance.{instance_id, instance_path, instance_value}
use Rattle.json_views.specs.Instances.{instances_value, row_value}
use Rattle.json_views.specs.Links.{links}
use Rattle.json_views.specs.Made.{needed_members}
use Rattle.json_views.specs.Resources.{aspect_levels, compute_info, info_where, instantiated_info, link_info, scale_info, standing}
use Rattle.json_views.specs.Resources.{standing_storages, storage_id, storage_ids, storage_info}
use Rattle.json_views.specs.Views.{member_where}
use Rattle.json_members.specs.Members.{put_where}

-- the members that may be absent, put to those that every instance has, are the members of the view
pub members_made : (manager n : ℕ) (row : InstanceRow) (d : Vnfd) (info text name : Option Data)
    → info ≡ info_where d row.holding → text ≡ option_map string row.text → name ≡ option_map string row.name
    → object (put_where (codes "vnfInstanceName") name (put_where (codes "vnfInstanceDescription") text
    (put_where (codes "instantiatedVnfInfo") info
    (needed_members (instance_id manager n) (links row.holding.instantiated (instance_path manager n)) row.holding.instantiated row.vnfd
    d))))
    ≡ instance_value manager n row d
unfolding needed_members
members_made manager n row d None None None i t m = rw (sym i, sym t, sym m) refl
members_made manager n row d None None (Some x) i t m = rw (sym i, sym t, sym m) refl
members_made manager n row d None (Some y) None i t m = rw (sym i, sym t, sym m) refl
members_made manager n row d None (Some y) (Some x) i t m = rw (sym i, sym t, sym m) refl
members_made manager n row d (Some z) None None i t m = rw (sym i, sym t, sym m) refl
members_made manager n row d (Some z) None (Some x) i t m = rw (sym i, sym t, sym m) refl
members_made manager n row d (Some z) (Some y) None i t m = rw (sym i, sym t, sym m) refl
members_made manager n row d (Some z) (Some y) (Some x) i t m = rw (sym i, sym t, sym m) refl

-- neither of two has a float
pub or_false : (a b : Bool) → a ≡ false → b ≡ false → (a || b) ≡ false
or_false a b ha hb = rw (ha, hb) refl

-- an array of values without a float has none
pub array_plain : {A : Type 0} (shown : A → Data) → ((x : A) → has_float (shown x) ≡ false) → (xs : List A)
    → items_have_float (items_of (map shown xs)) ≡ false
array_plain shown plain [] = refl
array_plain shown plain (x ∷ xs) = or_false _ _ (plain x) (array_plain shown plain xs)

ids_plain : (d : Vnfd) (h : Holding) (v s : ℕ) → has_float (storage_ids d h v s) ≡ false
unfolding storage_ids
ids_plain d h v s = array_plain (λ k. string (storage_id d v s k)) (λ k. refl) (standing_storages d h v s)

compute_plain : (d : Vnfd) (h : Holding) (y : Held) → has_float (compute_info d h y) ≡ false
compute_plain d h y = rw (ids_plain d h y.def.vdu y.def.serial) refl

info_plain : (d : Vnfd) (h : Holding) → has_float (instantiated_info d h) ≡ false
info_plain d h =
    or_false _ _ (array_plain scale_info (λ x. refl) (aspect_levels d h))
    (or_false _ _ (array_plain (storage_info d) (λ y. refl) (standing Storage h))
    (or_false _ _ (array_plain (link_info d) (λ y. refl) (standing Link h))
    (or_false _ _ (array_plain (compute_info d h) (compute_plain d h) (standing Compute h))
    refl)))

-- a member that may be absent has no float where its value has none
abbrev pub IsPlain : Option Data → Type 0
IsPlain None = Unit {0}
IsPlain (Some d) = has_float d ≡ false

pub where_plain : (name : List ℕ) (o : Option Data) (rest : Members) → IsPlain o → members_have_float rest ≡ false
    → members_have_float (member_where name o rest) ≡ false
where_plain name None rest plain others = others
where_plain name (Some d) rest plain others = or_false (has_float d) (members_have_float rest) plain others

pub text_plain : (o : Option (List ℕ)) → IsPlain (option_map string o)
text_plain None = tt
text_plain (Some text) = refl

links_plain : (b : Bool) (path : List ℕ) → has_float (links b path) ≡ false
links_plain true path = refl
links_plain false path = refl

shown_plain : (d : Vnfd) (h : Holding) (b : Bool) → IsPlain (if b then Some (instantiated_info d h) else None)
shown_plain d h true = info_plain d h
shown_plain d h false = tt

-- the view of an instance has no float
pub instance_plain : (manager n : ℕ) (row : InstanceRow) (d : Vnfd) → has_float (instance_value manager n row d) ≡ false
instance_plain manager n row d =
    or_false _ _ (links_plain row.holding.instantiated (instance_path manager n))
    (where_plain (codes "instantiatedVnfInfo") (info_where d row.holding) _ (shown_plain d row.holding row.holding.instantiated)
    (where_plain (codes "vnfInstanceDescription") (option_map string row.text) _ (text_plain row.text)
    (where_plain (codes "vnfInstanceName") (option_map string row.name) _ (text_plain row.name)
    refl)))

-- nor has it with the descriptor that its row names, or without
pub row_plain : (manager : ℕ) (row : InstanceRow) (o : Option Vnfd)
    → has_float (option_map_or (instance_value manager row.number row) o null) ≡ false
row_plain manager row None = refl
row_plain manager row (Some d) = instance_plain manager row.number row d
