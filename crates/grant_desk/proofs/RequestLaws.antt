-- An entry of a grant request has no float, and a request nests no deeper than is read.
use Rattle.std.proofs.Common.{◌≡◌, ◌≤◌, arith, suc, ℕ, List, [], ◌∷◌, Bool, false, ◌||◌, Option, Some, None, codes, map, refl}
use Rattle.std.specs.List.{enumerate_from}
use Rattle.std.specs.Prelude.{filter, option_map}
use Rattle.std.proofs.Math.Nat.{max-le}
use Rattle.serde_json.specs.Data.{Data, Members, depth, items_depth, member, members_depth, no_members, string}
use Rattle.serde_json.specs.Read.{max_depth}
use Rattle.serde_json.specs.View.{items_of}
use Rattle.serde_json.specs.Written.{has_float, members_have_float}
use Rattle.change_planner.specs.Acts.{template_name}
use Rattle.held_items.specs.Items.{item_of}
use Rattle.lcm_events.specs.declared.asks.Ask.{Ask}
use Rattle.lcm_events.specs.declared.changes.Change.{Change}
use Rattle.lcm_events.specs.declared.changes.Def.{Def}
use Rattle.lcm_events.specs.declared.changes.DefKind.{DefKind}
use Rattle.lcm_events.specs.declared.changes.DefKind.TheVariants.{Compute, Link, Port, Storage}
use Rattle.lcm_events.specs.declared.changes.Verb.{Verb}
use Rattle.lcm_events.specs.declared.changes.Verb.TheVariants.{Create, Remove, Start, Stop}
use Rattle.lcm_events.specs.declared.descriptor.Vnfd.{Vnfd}
use Rattle.lcm_events.specs.declared.held.Held.{Held}
use Rattle.lcm_events.specs.declared.held.Holding.{Holding}
use Rattle.grant_desk.specs.Parts.{asks}
use Rattle.grant_desk.specs.Requests.{entries, entry, handle, instance_id, links, member_where, occurrence_id, request, resource_for}
use Rattle.grant_desk.specs.Requests.{type_word, vdu_for}
use Rattle.grant_desk.specs.declared.parts.Part.{Part}
use Rattle.grant_desk.specs.declared.parts.Part.TheVariants as part
use Rattle.grant_desk.specs.declared.requests.GrantAsker.{GrantAsker}

-- neither of two has a float
or_false : (a b : Bool) → a ≡ false → b ≡ false → (a || b) ≡ false
or_false a b ha hb = rw (ha, hb) refl

-- a member that may be absent has no float where its value has none
abbrev IsPlain : Option Data → Type 0
IsPlain None = Unit {0}
IsPlain (Some d) = has_float d ≡ false

where_plain : (name : List ℕ) (o : Option Data) (rest : Members) → IsPlain o → members_have_float rest ≡ false
    → members_have_float (member_where name o rest) ≡ false
where_plain name None rest plain others = others
where_plain name (Some d) rest plain others = or_false (has_float d) (members_have_float rest) plain others

handle_plain : (o : Option Held) → IsPlain (option_map handle o)
handle_plain None = tt
handle_plain (Some y) = refl

resource_plain : (v : Verb) (o : Option Held) → IsPlain (resource_for v o)
resource_plain Create o = tt
resource_plain Remove o = handle_plain o
resource_plain Start o = handle_plain o
resource_plain Stop o = handle_plain o

vdu_plain : (d : Vnfd) (k : DefKind) (x : Def) → IsPlain (vdu_for d k x)
vdu_plain d Link x = tt
vdu_plain d Storage x = refl
vdu_plain d Compute x = refl
vdu_plain d Port x = refl

pub entry_plain : (d : Vnfd) (h : Holding) (x : ℕ × Change) → has_float (entry d h x) ≡ false
entry_plain d h x =
    where_plain (codes "resource") (resource_for x.1.verb (item_of x.1.def h.items)) _ (resource_plain x.1.verb (item_of x.1.def h.items))
    (where_plain (codes "vduId") (vdu_for d x.1.def.kind x.1.def) _ (vdu_plain d x.1.def.kind x.1.def) refl)

-- the values of an array nest no deeper than each of them
array_depth : {A : Type 0} (shown : A → Data) (k : ℕ) → ((x : A) → depth (shown x) ≤ k) → (xs : List A)
    → items_depth (items_of (map shown xs)) ≤ k
array_depth shown k within [] = omega arith
array_depth shown k within (x ∷ xs) = max-le (within x) (array_depth shown k within xs)

-- a value that may be absent nests so deep at most
abbrev Nests : ℕ → Option Data → Type 0
Nests k None = Unit {0}
Nests k (Some d) = depth d ≤ k

where_depth : (k : ℕ) (name : List ℕ) (o : Option Data) (rest : Members) → Nests k o → members_depth rest ≤ k
    → members_depth (member_where name o rest) ≤ k
where_depth k name None rest within others = others
where_depth k name (Some d) rest within others = max-le within others

handle_depth : (o : Option Held) → Nests 1 (option_map handle o)
handle_depth None = tt
handle_depth (Some y) = omega arith

resource_depth : (v : Verb) (o : Option Held) → Nests 1 (resource_for v o)
resource_depth Create o = tt
resource_depth Remove o = handle_depth o
resource_depth Start o = handle_depth o
resource_depth Stop o = handle_depth o

vdu_depth : (d : Vnfd) (k : DefKind) (x : Def) → Nests 1 (vdu_for d k x)
vdu_depth d Link x = tt
vdu_depth d Storage x = omega arith
vdu_depth d Compute x = omega arith
vdu_depth d Port x = omega arith

-- what holds others nests one deeper than they do
deeper : (a k : ℕ) → a ≤ k → suc a ≤ suc k
deeper a k within = omega (arith, within)

entry_depth : (d : Vnfd) (h : Holding) (x : ℕ × Change) → depth (entry d h x) ≤ 2
entry_depth d h x =
    let flat : 0 ≤ 1 = omega arith in
    let last : Members = member_where (codes "vduId") (vdu_for d x.1.def.kind x.1.def) no_members in
    let rest : Members = member (codes "resourceTemplateId") (string (template_name d x.1.def.kind x.1.def))
    (member (codes "type") (string (type_word x.1.def.kind)) last) in
    let of_rest : members_depth rest ≤ 1 =
    max-le flat (max-le flat (where_depth 1 (codes "vduId") (vdu_for d x.1.def.kind x.1.def) no_members
    (vdu_depth d x.1.def.kind x.1.def) flat)) in
    deeper _ 1
    (max-le flat
    (where_depth 1 (codes "resource") (resource_for x.1.verb (item_of x.1.def h.items)) rest
    (resource_depth x.1.verb (item_of x.1.def h.items)) of_rest))

entries_depth : (d : Vnfd) (h : Holding) (p : Part) (xs : List Change) → depth (entries d h p xs) ≤ 3
unfolding entries
entries_depth d h p xs = deeper _ 2 (array_depth (entry d h) 2 (entry_depth d h) (filter (λ x. asks p x.1.verb) (enumerate_from 0 xs)))

links_depth : (a b : List ℕ) → depth (links a b) ≤ 3
links_depth a b = omega arith

-- a grant request nests no deeper than is read
pub request_shallow : (d : Vnfd) (h : Holding) (who : GrantAsker) (ask : Ask) (xs : List Change)
    → depth (request d h who ask xs) ≤ max_depth
request_shallow d h who ask xs =
    let flat : 0 ≤ 3 = omega arith in
    let four : depth (request d h who ask xs) ≤ 4 =
    deeper _ 3
    (max-le (links_depth (instance_id who.manager who.instance) (occurrence_id who.manager who.occ))
    (max-le (entries_depth d h part.Add xs)
    (max-le flat (max-le flat (max-le flat
    (max-le (entries_depth d h part.Remove xs)
    (max-le (entries_depth d h part.Update xs)
    (max-le flat (max-le flat (max-le flat flat)))))))))) in
    omega (arith, four)
