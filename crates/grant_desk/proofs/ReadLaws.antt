-- A grant request is read back from its text.
use Rattle.std.proofs.Common.{◌≡◌, ◌≤◌, ◌∙◌, List, [], ◌∷◌, Option, Some, None, ap, append-nil, arith, codes}
use Rattle.std.proofs.Common.{false, map, refl, suc, sym, ℕ}
use Rattle.std.specs.List.{enumerate_from}
use Rattle.std.specs.Prelude.{filter, option_and_then, option_map, ⊤}
use Rattle.json.specs.Json.{if_last, value}
use Rattle.json.specs.Lex.{tokens}
use Rattle.json.specs.Tree.{HasNumbers, ItemsHaveNumbers}
use Rattle.json.specs.Tree as tree
use Rattle.json.proofs.Printed.Tokens.{tokens-print}
use Rattle.json.proofs.Printed.Trees.{ArePrintable-json_tokens, value-json_tokens}
use Rattle.serde_json.specs.Data.{Data, Items, Members, array, boolean, depth, item, items_depth, member}
use Rattle.serde_json.specs.Data.{members_depth, no_items, no_members, null, number, object, string}
use Rattle.serde_json.specs.Read.{max_depth, of_items, of_json, read}
use Rattle.serde_json.specs.View.{items_of}
use Rattle.serde_json.specs.Written.{compact_text, items_outline, members_outline, outline}
use Rattle.serde_json.proofs.Texts.{print-outline}
use Rattle.change_planner.specs.Acts.{template_name}
use Rattle.held_items.specs.Items.{item_of}
use Rattle.lcm_events.specs.declared.asks.Ask.{Ask}
use Rattle.lcm_events.specs.declared.changes.Change.{Change}
use Rattle.lcm_events.specs.declared.changes.Def.{Def}
use Rattle.lcm_events.specs.declared.changes.DefKind.{DefKind}
use Rattle.lcm_events.specs.declared.changes.DefKind.TheVariants.{Compute, Link, Port, Storage}
use Rattle.lcm_events.specs.declared.changes.Verb.{Verb}
use Rattle.lcm_events.specs.declared.changes.Verb.TheVariants.{Create, Remove, Start, Stop}
use Rattle.lcm_events.specs.declared.descriptor.Vnfd.{Vnfd}
use Rattle.lcm_events.specs.declared.held.Held.{Held}
use Rattle.lcm_events.specs.declared.held.Holding.{Holding}
use Rattle.grant_desk.specs.Parts.{asks}
use Rattle.grant_desk.specs.Requests.{entries, entry, handle, instance_id, links, member_where, occurrence_id}
use Rattle.grant_desk.specs.Requests.{request, resource_for, type_word, vdu_for}
use Rattle.grant_desk.specs.declared.parts.Part.{Part}
use Rattle.grant_desk.specs.declared.parts.Part.TheVariants as part
use Rattle.grant_desk.specs.declared.requests.GrantAsker.{GrantAsker}
use Rattle.grant_desk.proofs.RequestLaws.{request_shallow}

-- an outline nests as deep as its value
mutual
  outline_depth : (d : Data) → tree.depth (outline d) ≡ depth d
  outline_depth null = refl
  outline_depth (boolean b) = refl
  outline_depth (number n) = refl
  outline_depth (string s) = refl
  outline_depth (array ds) = ap suc (items_outline_depth ds)
  outline_depth (object ms) = ap suc (members_outline_depth ms)

  items_outline_depth : (ds : Items) → tree.items_depth (items_outline ds) ≡ items_depth ds
  items_outline_depth no_items = refl
  items_outline_depth (item d ds) = rw (outline_depth d, items_outline_depth ds) refl

  members_outline_depth : (ms : Members) → tree.members_depth (members_outline ms) ≡ members_depth ms
  members_outline_depth no_members = refl
  members_outline_depth (member k d ms) = rw (outline_depth d, members_outline_depth ms) refl

-- a value whose outline is read as it, and in which each number has a number's text
record IsReadable (d : Data) : Type 0 where
  numbers : HasNumbers (outline d)
  reads : of_json (outline d) ≡ Some d

-- the text of such a value is read back
read_back : (d : Data) → IsReadable d → depth d ≤ max_depth → read (compact_text d) ≡ Some d
read_back d readable shallow =
    let ts = tree.json_tokens (outline d) in
    let same : tokens (compact_text d) ≡ ts =
    ap tokens (sym (print-outline d)) ∙ tokens-print ts (ArePrintable-json_tokens (outline d) readable.numbers) in
    let found =
    ap (value max_depth) (same ∙ sym (append-nil ts))
    ∙ value-json_tokens (outline d) max_depth [] (omega (arith, outline_depth d, shallow)) in
    ap (option_and_then of_json) (ap (option_and_then (λ p. if_last p.0 p.1)) found) ∙ readable.reads

-- an array is readable where each of its values is
items_numbers : {A : Type 0} (shown : A → Data) → ((x : A) → IsReadable (shown x)) → (xs : List A)
    → ItemsHaveNumbers (items_outline (items_of (map shown xs)))
items_numbers shown each [] = tt
items_numbers shown each (x ∷ xs) = ((each x).numbers, items_numbers shown each xs)

items_read : {A : Type 0} (shown : A → Data) → ((x : A) → IsReadable (shown x)) → (xs : List A)
    → of_items (items_outline (items_of (map shown xs))) ≡ Some (items_of (map shown xs))
items_read shown each [] = refl
items_read shown each (x ∷ xs) = rw ((each x).reads, items_read shown each xs) refl

array_readable : {A : Type 0} (shown : A → Data) → ((x : A) → IsReadable (shown x)) → (xs : List A)
    → IsReadable (array (items_of (map shown xs)))
array_readable shown each xs = record {
  numbers = items_numbers shown each xs;
  reads = ap (option_map array) (items_read shown each xs);
}

-- a value that may be absent is readable
abbrev MayBeRead : Option Data → Type 0
MayBeRead None = ⊤
MayBeRead (Some d) = IsReadable d

handle_readable : (o : Option Held) → MayBeRead (option_map handle o)
handle_readable None = tt
handle_readable (Some y) = record { numbers = (tt, (tt, tt)); reads = refl }

resource_readable : (v : Verb) (o : Option Held) → MayBeRead (resource_for v o)
resource_readable Create o = tt
resource_readable Remove o = handle_readable o
resource_readable Start o = handle_readable o
resource_readable Stop o = handle_readable o

text_readable : (s : List ℕ) → IsReadable (string s)
text_readable s = record { numbers = tt; reads = refl }

vdu_readable : (d : Vnfd) (k : DefKind) (x : Def) → MayBeRead (vdu_for d k x)
vdu_readable d Link x = tt
vdu_readable d Storage x = text_readable _
vdu_readable d Compute x = text_readable _
vdu_readable d Port x = text_readable _

-- the members of an entry, of which two may be absent
abbrev entry_of : List ℕ → Option Data → List ℕ → List ℕ → Option Data → Data
entry_of id resource template word vdu =
    object
    (member (codes "id") (string id)
    (member_where (codes "resource") resource
    (member (codes "resourceTemplateId") (string template)
    (member (codes "type") (string word)
    (member_where (codes "vduId") vdu
    no_members)))))

members_readable : (id template word : List ℕ) (resource vdu : Option Data) → MayBeRead resource → MayBeRead vdu
    → IsReadable (entry_of id resource template word vdu)
members_readable id template word None None r v = record { numbers = (tt, (tt, (tt, tt))); reads = refl }
members_readable id template word None (Some y) r v =
    record { numbers = (tt, (tt, (tt, (v.numbers, tt)))); reads = rw v.reads refl }
members_readable id template word (Some x) None r v =
    record { numbers = (tt, (r.numbers, (tt, (tt, tt)))); reads = rw r.reads refl }
members_readable id template word (Some x) (Some y) r v =
    record { numbers = (tt, (r.numbers, (tt, (tt, (v.numbers, tt))))); reads = rw (r.reads, v.reads) refl }

entry_readable : (d : Vnfd) (h : Holding) (x : ℕ × Change) → IsReadable (entry d h x)
entry_readable d h x =
    members_readable _ (template_name d x.1.def.kind x.1.def) (type_word x.1.def.kind)
    (resource_for x.1.verb (item_of x.1.def h.items)) (vdu_for d x.1.def.kind x.1.def)
    (resource_readable x.1.verb (item_of x.1.def h.items)) (vdu_readable d x.1.def.kind x.1.def)

entries_readable : (d : Vnfd) (h : Holding) (p : Part) (xs : List Change) → IsReadable (entries d h p xs)
unfolding entries
entries_readable d h p xs =
    array_readable (entry d h) (entry_readable d h) (filter (λ x. asks p x.1.verb) (enumerate_from 0 xs))

-- the members of a request
abbrev request_of : Data → Data → List ℕ → List ℕ → Data → Data → List ℕ → List ℕ → List ℕ → Data
request_of at add flavour operation remove update instance occ vnfd =
    object
    (member (codes "_links") at
    (member (codes "addResources") add
    (member (codes "flavourId") (string flavour)
    (member (codes "isAutomaticInvocation") (boolean false)
    (member (codes "operation") (string operation)
    (member (codes "removeResources") remove
    (member (codes "updateResources") update
    (member (codes "vnfInstanceId") (string instance)
    (member (codes "vnfLcmOpOccId") (string occ)
    (member (codes "vnfdId") (string vnfd)
    no_members))))))))))

parts_readable : (at add remove update : Data) (flavour operation instance occ vnfd : List ℕ) → IsReadable at
    → IsReadable add → IsReadable remove → IsReadable update
    → IsReadable (request_of at add flavour operation remove update instance occ vnfd)
parts_readable at add remove update flavour operation instance occ vnfd l a r u = record {
  numbers = (l.numbers, (a.numbers, (tt, (tt, (tt, (r.numbers, (u.numbers, (tt, (tt, (tt, tt))))))))));
  reads = rw (l.reads, a.reads, r.reads, u.reads) refl;
}

links_readable : (instance occ : List ℕ) → IsReadable (links instance occ)
links_readable instance occ = record { numbers = ((tt, tt), ((tt, tt), tt)); reads = refl }

-- a grant request is read back from its text
pub request_read : (d : Vnfd) (h : Holding) (who : GrantAsker) (ask : Ask) (xs : List Change)
    → read (compact_text (request d h who ask xs)) ≡ Some (request d h who ask xs)
request_read d h who ask xs =
    read_back (request d h who ask xs)
    (parts_readable _ _ _ _ _ _ _ _ _
    (links_readable (instance_id who.manager who.instance) (occurrence_id who.manager who.occ))
    (entries_readable d h part.Add xs) (entries_readable d h part.Remove xs) (entries_readable d h part.Update xs))
    (request_shallow d h who ask xs)
