-- In what is read of a text, the members of each object stand in byte order of their names, each once (RFC 8259 4).
use Rattle.std.proofs.Common.{◌≡◌, ℕ, List, [], ◌∷◌, map, Bool, true, false, cond, filter, Option, Some, None, option_map, codes, refl, ap}
use Rattle.std.proofs.Common.{◌∙◌, IfSome, Ordering, Less, Equal, Greater, nat_cmp, Result, Ok, Err, is_some, nat_lt, length, subst, is_lt}
use Rattle.std.proofs.lemmas.Cmp.{nat_list_cmp_total}
use Rattle.std.proofs.lemmas.Bool.{and_parts}
use Rattle.std.specs.Cmp.Lexicographic.{slice_cmp}
use Rattle.std.specs.Str.{is_utf8}
use Rattle.std.specs.List.{cons_option, filter_map, list_all}
use Rattle.std.specs.Option.{option_and_then, option_map_or}
use Rattle.std.specs.Ordering.{match_ordering, ordering_reverse}
use Rattle.json.specs.Json as json
use Rattle.json.specs.Lex.{tokens}
use Rattle.serde_json.specs.Data.{Data, null, boolean, number, string, array, object, Items, no_items, item, Members, no_members, member}
use Rattle.serde_json.specs.Data.{put}
use Rattle.serde_json.specs.Find.{as_object, get, get_member}
use Rattle.serde_json.specs.Read.{max_depth, of_json, of_items, of_members, read}
use Rattle.lcm_model.specs.Descriptors.{are_sorted}
use Rattle.vnfd_document.specs.Json.{Named, at, entries_of, items_in, members_in, members_of, named_entries, only_member, single}
use Rattle.vnfd_document.specs.declared.fault.VnfdFault.{VnfdFault}
use Rattle.vnfd_document.specs.declared.fault.VnfdFault.TheVariants.{TooMany}
use Rattle.vnfd_document.specs.Document.{document, object_of, object_or_fault, only_object}
use Rattle.vnfd_document.specs.Order.{AllBehind, AllInOrder, Behind, InOrder, ItemsInOrder, MembersInOrder, Rises}
use Rattle.vnfd_document.specs.Names.{is_given_name, is_name, name_or_empty}
use Rattle.vnfd_document.specs.Places.{by_name, has_type, node_templates, of_type, policies, policies_in, put_by_name}

-- ---- what is put stays in order

behind_if : (o : Ordering) (j k l : List ℕ) (d e : Data) (ms : Members) → slice_cmp nat_cmp j k ≡ Less → slice_cmp nat_cmp j l ≡ Less
    → Behind j ms → Behind j (put k d ms)
    → Behind j (match_ordering o (member k d (member l e ms)) (member l d ms) (member l e (put k d ms)))
behind_if Less j k l d e ms p q b h = (p, (q, b))
behind_if Equal j k l d e ms p q b h = (q, b)
behind_if Greater j k l d e ms p q b h = (q, h)

behind_put : (j k : List ℕ) (d : Data) (ms : Members) → slice_cmp nat_cmp j k ≡ Less → Behind j ms → Behind j (put k d ms)
behind_put j k d no_members p b = (p, tt)
behind_put j k d (member l e ms) p b = behind_if (slice_cmp nat_cmp k l) j k l d e ms p b.0 b.1 (behind_put j k d ms p b.1)

behind_chain : (k l : List ℕ) (ms : Members) → slice_cmp nat_cmp k l ≡ Less → Behind l ms → Behind k ms
behind_chain k l no_members p b = tt
behind_chain k l (member m d ms) p b = (nat_list_cmp_total.trans k l m p b.0, behind_chain k l ms p b.1)

in_order_if : (o : Ordering) (k l : List ℕ) (d e : Data) (ms : Members) → slice_cmp nat_cmp k l ≡ o → InOrder d → Behind l ms → InOrder e
    → MembersInOrder ms → MembersInOrder (put k d ms)
    → MembersInOrder (match_ordering o (member k d (member l e ms)) (member l d ms) (member l e (put k d ms)))
in_order_if Less k l d e ms p new b old rest h = ((p, behind_chain k l ms p b), new, (b, old, rest))
in_order_if Equal k l d e ms p new b old rest h = (b, new, rest)
in_order_if Greater k l d e ms p new b old rest h =
    (behind_put l k d ms (nat_list_cmp_total.antisymm l k ∙ ap ordering_reverse p) b, old, h)

in_order_put : (k : List ℕ) (d : Data) (ms : Members) → InOrder d → MembersInOrder ms → MembersInOrder (put k d ms)
in_order_put k d no_members new h = (tt, new, tt)
in_order_put k d (member l e ms) new h = in_order_if (slice_cmp nat_cmp k l) k l d e ms refl new h.0 h.1 h.2 (in_order_put k d ms new h.2)

-- ---- what is read is in order

any_some : {A : Type 0} (o : Option A) → IfSome o (λ x. Unit {0})
any_some None = tt
any_some (Some x) = tt

some_map : {A B : Type 0} (f : A → B) (P : B → Type 0) (o : Option A) → IfSome o (λ x. P (f x)) → IfSome (option_map f o) P
some_map f P None h = tt
some_map f P (Some x) h = h

some_then : {A B : Type 0} (f : A → Option B) (Q : A → Type 0) (P : B → Type 0) (o : Option A) → IfSome o Q
    → ((x : A) → Q x → IfSome (f x) P) → IfSome (option_and_then f o) P
some_then f Q P None h next = tt
some_then f Q P (Some x) h next = next x h

some_and : {A : Type 0} (P Q : A → Type 0) (o : Option A) → IfSome o P → ((x : A) → P x → Q x) → IfSome o Q
some_and P Q None h next = tt
some_and P Q (Some x) h next = next x h

mutual
  in_order_json : (j : json.Json) → IfSome (of_json j) InOrder
  in_order_json json.null = tt
  in_order_json (json.boolean b) = tt
  in_order_json (json.number s) = some_map number InOrder _ (any_some _)
  in_order_json (json.string s) = tt
  in_order_json (json.array js) = some_map array InOrder _ (in_order_items js)
  in_order_json (json.object ms) = some_map object InOrder _ (in_order_members ms no_members tt)

  in_order_items : (js : json.Items) → IfSome (of_items js) ItemsInOrder
  in_order_items json.no_items = tt
  in_order_items (json.item j js) =
      some_then _ InOrder ItemsInOrder (of_json j) (in_order_json j)
      (λ d h. some_map (item d) ItemsInOrder (of_items js) (some_and ItemsInOrder (λ ds. InOrder d × ItemsInOrder ds) (of_items js)
      (in_order_items js) (λ ds k. (h, k))))

  in_order_members : (ms : json.Members) (found : Members) → MembersInOrder found → IfSome (of_members ms found) MembersInOrder
  in_order_members json.no_members found h = h
  in_order_members (json.member k j ms) found h =
      some_then _ InOrder MembersInOrder (of_json j) (in_order_json j)
      (λ d new. in_order_members ms (put k d found) (in_order_put k d found new h))

from_json : (o : Option json.Json) → IfSome (option_and_then of_json o) InOrder
from_json None = tt
from_json (Some j) = in_order_json j

-- what is read of a text is in order
pub in_order-read : (text : List ℕ) → IfSome (read text) InOrder
in_order-read text = from_json (option_and_then (λ p. json.if_last p.0 p.1) (json.value max_depth (tokens text)))

-- ---- what stands in it is in order

in_order_member_if : (o : Ordering) (e : Data) (rest : Option Data) → InOrder e → IfSome rest InOrder
    → IfSome (match_ordering o rest (Some e) rest) InOrder
in_order_member_if Less e rest h k = k
in_order_member_if Equal e rest h k = h
in_order_member_if Greater e rest h k = k

in_order-get_member : (k : List ℕ) (ms : Members) → MembersInOrder ms → IfSome (get_member k ms) InOrder
in_order-get_member k no_members h = tt
in_order-get_member k (member l e ms) h = in_order_member_if (slice_cmp nat_cmp k l) e (get_member k ms) h.1 (in_order-get_member k ms h.2)

pub in_order-get : (k : List ℕ) (d : Data) → InOrder d → IfSome (get k d) InOrder
in_order-get k null h = tt
in_order-get k (boolean b) h = tt
in_order-get k (number n) h = tt
in_order-get k (string s) h = tt
in_order-get k (array ds) h = tt
in_order-get k (object ms) h = in_order-get_member k ms h

pub in_order-at : (names : List (List ℕ)) (d : Data) → InOrder d → IfSome (at names d) InOrder
in_order-at [] d h = h
in_order-at (name ∷ names) d h = some_then (at names) InOrder InOrder (get name d) (in_order-get name d h) (λ e k. in_order-at names e k)

-- ---- members rise by name

all_behind-members : (k : List ℕ) (ms : Members) → Behind k ms → AllBehind k (members_in ms)
all_behind-members k no_members h = tt
all_behind-members k (member l d ms) h = (h.0, all_behind-members k ms h.1)

rises-members_in : (ms : Members) → MembersInOrder ms → Rises (members_in ms)
rises-members_in no_members h = tt
rises-members_in (member k d ms) h = (all_behind-members k ms h.0, rises-members_in ms h.2)

-- the members of a value rise
pub rises-members : (d : Data) → InOrder d → Rises (members_of d)
rises-members null h = tt
rises-members (boolean b) h = tt
rises-members (number n) h = tt
rises-members (string s) h = tt
rises-members (array ds) h = tt
rises-members (object ms) h = rises-members_in ms h

rises_object : (d : Data) → InOrder d → IfSome (option_map members_in (as_object d)) Rises
rises_object null h = tt
rises_object (boolean b) h = tt
rises_object (number n) h = tt
rises_object (string s) h = tt
rises_object (array ds) h = tt
rises_object (object ms) h = rises-members_in ms h

map_then : {A B C : Type 0} (f : A → Option B) (g : B → C) (o : Option A)
    → option_map g (option_and_then f o) ≡ option_and_then (λ x. option_map g (f x)) o
map_then f g None = refl
map_then f g (Some x) = refl

-- the node templates rise
pub rises-node_templates : (d : Data) → InOrder d → IfSome (node_templates d) Rises
rises-node_templates d h =
    let path = codes "topology_template" ∷ codes "node_templates" ∷ [] in
    rw (map_then as_object members_in (at path d))
    (some_then (λ x. option_map members_in (as_object x)) InOrder Rises (at path d) (in_order-at path d h) rises_object)

all_behind_if : (b : Bool) (k : List ℕ) (x : Named) (xs : List Named) → slice_cmp nat_cmp k x.0 ≡ Less → AllBehind k xs
    → AllBehind k (cond b (x ∷ xs) xs)
all_behind_if true k x xs p h = (p, h)
all_behind_if false k x xs p h = h

all_behind-filter : (t : Named → Bool) (k : List ℕ) (xs : List Named) → AllBehind k xs → AllBehind k (filter t xs)
all_behind-filter t k [] h = tt
all_behind-filter t k (x ∷ xs) h = all_behind_if (t x) k x (filter t xs) h.0 (all_behind-filter t k xs h.1)

rises_if : (b : Bool) (x : Named) (xs : List Named) → AllBehind x.0 xs → Rises xs → Rises (cond b (x ∷ xs) xs)
rises_if true x xs p h = (p, h)
rises_if false x xs p h = h

pub rises-filter : (t : Named → Bool) (xs : List Named) → Rises xs → Rises (filter t xs)
rises-filter t [] h = tt
rises-filter t (x ∷ xs) h = rises_if (t x) x (filter t xs) (all_behind-filter t x.0 xs h.0) (rises-filter t xs h.1)

-- those of a type rise where all do
pub rises-of_type : (kind : List ℕ) (xs : List Named) → Rises xs → Rises (of_type kind xs)
rises-of_type kind xs h = rises-filter (λ x. has_type kind x.1) xs h

-- ---- the names that a descriptor keeps

-- a name that isn't empty is kept as it is
pub name_or_empty-given : (k : List ℕ) → is_given_name k ≡ true → name_or_empty k ≡ k
name_or_empty-given k h = let is = (and_parts _ (is_name k) h).1 in rw is refl

sorted_two : (a b : List ℕ) (rest : List (List ℕ)) → slice_cmp nat_cmp a b ≡ Less → are_sorted (b ∷ rest) ≡ true
    → are_sorted (a ∷ b ∷ rest) ≡ true
sorted_two a b rest less h = rw less h

kept_less : (a b : List ℕ) → slice_cmp nat_cmp a b ≡ Less → is_given_name a ≡ true → is_given_name b ≡ true
    → slice_cmp nat_cmp (name_or_empty a) (name_or_empty b) ≡ Less
kept_less a b less p q = rw (name_or_empty-given a p, name_or_empty-given b q) less

-- names that rise, and are given, are sorted where the descriptor keeps them
pub sorted-names : (xs : List Named) → Rises xs → list_all (λ x. is_given_name x.0) xs ≡ true
    → are_sorted (map (λ x. name_or_empty x.0) xs) ≡ true
sorted-names [] h given = refl
sorted-names (x ∷ []) h given = refl
sorted-names (x ∷ y ∷ xs) h given =
    let first = and_parts (is_given_name x.0) _ given in
    let second = and_parts (is_given_name y.0) _ first.1 in
    sorted_two (name_or_empty x.0) (name_or_empty y.0) (map (λ z. name_or_empty z.0) xs) (kept_less x.0 y.0 h.0.0 first.0 second.0)
    (sorted-names (y ∷ xs) h.1 first.1)

-- ---- policies

in_order-members_in : (ms : Members) → MembersInOrder ms → AllInOrder (members_in ms)
in_order-members_in no_members h = tt
in_order-members_in (member k d ms) h = (h.1, in_order-members_in ms h.2)

in_order-members_of : (d : Data) → InOrder d → AllInOrder (members_of d)
in_order-members_of null h = tt
in_order-members_of (boolean b) h = tt
in_order-members_of (number n) h = tt
in_order-members_of (string s) h = tt
in_order-members_of (array ds) h = tt
in_order-members_of (object ms) h = in_order-members_in ms h

in_order-single : (xs : List Named) → AllInOrder xs → IfSome (single xs) (λ x. InOrder x.1)
in_order-single [] h = tt
in_order-single (x ∷ []) h = h.0
in_order-single (x ∷ y ∷ xs) h = tt

in_order-cons : (o : Option Named) (xs : List Named) → IfSome o (λ x. InOrder x.1) → AllInOrder xs → AllInOrder (cons_option o xs)
in_order-cons None xs h k = k
in_order-cons (Some x) xs h k = (h, k)

in_order-entries : (ds : Items) → ItemsInOrder ds → AllInOrder (filter_map only_member (items_in ds))
in_order-entries no_items h = tt
in_order-entries (item d ds) h = in_order-cons (only_member d) _ (in_order-single (members_of d) (in_order-members_of d h.0))
    (in_order-entries ds h.1)

in_order-put_if : (b : Bool) (x y : Named) (ys : List Named) → InOrder x.1 → InOrder y.1 → AllInOrder ys → AllInOrder (put_by_name x ys)
    → AllInOrder (cond b (y ∷ put_by_name x ys) (x ∷ y ∷ ys))
in_order-put_if true x y ys h k l m = (k, m)
in_order-put_if false x y ys h k l m = (h, (k, l))

in_order-put_by_name : (x : Named) (ys : List Named) → InOrder x.1 → AllInOrder ys → AllInOrder (put_by_name x ys)
in_order-put_by_name x [] h k = (h, tt)
in_order-put_by_name x (y ∷ ys) h k = in_order-put_if (is_lt (slice_cmp nat_cmp y.0 x.0)) x y ys h k.0 k.1 (in_order-put_by_name x ys h k.1)

in_order-by_name : (xs : List Named) → AllInOrder xs → AllInOrder (by_name xs)
in_order-by_name [] h = tt
in_order-by_name (x ∷ xs) h = in_order-put_by_name x (by_name xs) h.0 (in_order-by_name xs h.1)

in_order-policies_in : (d : Data) → InOrder d → AllInOrder (policies_in d)
in_order-policies_in null h = tt
in_order-policies_in (boolean b) h = tt
in_order-policies_in (number n) h = tt
in_order-policies_in (string s) h = tt
in_order-policies_in (array ds) h = in_order-by_name (filter_map only_member (items_in ds)) (in_order-entries ds h)
in_order-policies_in (object ms) h = in_order-members_in ms h

some_or_none : (o : Option Data) → IfSome o InOrder → AllInOrder (option_map_or policies_in o [])
some_or_none None h = tt
some_or_none (Some d) h = in_order-policies_in d h

-- what stands in each policy is in order
pub in_order-policies : (d : Data) → InOrder d → AllInOrder (policies d)
in_order-policies d h =
    let path = codes "topology_template" ∷ codes "policies" ∷ [] in
    some_or_none (at path d) (in_order-at path d h)

in_order_if_kept : (b : Bool) (x : Named) (xs : List Named) → InOrder x.1 → AllInOrder xs → AllInOrder (cond b (x ∷ xs) xs)
in_order_if_kept true x xs h k = (h, k)
in_order_if_kept false x xs h k = k

pub in_order-of_type : (kind : List ℕ) (xs : List Named) → AllInOrder xs → AllInOrder (of_type kind xs)
in_order-of_type kind [] h = tt
in_order-of_type kind (x ∷ xs) h = in_order_if_kept (has_type kind x.1) x (of_type kind xs) h.0 (in_order-of_type kind xs h.1)

-- ---- the document

only_object_in_order : (b : Bool) (d : Data) → InOrder d → IfSome (cond b (Some d) None) InOrder
only_object_in_order true d h = h
only_object_in_order false d h = tt

object_in_order : (b : Bool) (o : Option Data) → IfSome o InOrder → IfSome (cond b (option_and_then only_object o) None) InOrder
object_in_order true o h = some_then only_object InOrder InOrder o h (λ d k. only_object_in_order (is_some (as_object d)) d k)
object_in_order false o h = tt

given_in_order : (o : Option Data) (d : Data) → IfSome o InOrder → object_or_fault o ≡ Ok d → InOrder d
given_in_order None d h e = let no : ⊥ = cc in absurd no
given_in_order (Some x) d h e = let same : x ≡ d = cc in subst InOrder same h

document_if : (b : Bool) (o : Option Data) (d : Data) → IfSome o InOrder → cond b (Err (TooMany (codes "bytes"))) (object_or_fault o) ≡ Ok d
    → InOrder d
document_if true o d h e = let no : ⊥ = cc in absurd no
document_if false o d h e = given_in_order o d h e

-- the document is in order
pub in_order-document : (bytes : List ℕ) (d : Data) → document bytes ≡ Ok d → InOrder d
in_order-document bytes d e =
    document_if (nat_lt 1048576 (length bytes)) (object_of bytes) d (object_in_order (is_utf8 bytes) (read bytes) (in_order-read bytes)) e
