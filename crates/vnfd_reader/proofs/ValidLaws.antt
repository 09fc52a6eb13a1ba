-- What passes the checks is a valid descriptor.
use Rattle.std.proofs.Common.{◌≡◌, ◌≤◌, ◌<◌, ◌&&◌, ℕ, List, [], ◌∷◌, length, map, Bool, true, false, cond, Option, Some, None, Result, Ok}
use Rattle.std.proofs.Common.{Err, nat_le, nat_lt, codes, refl, sym, ap, ◌∙◌, subst, arith, suc, IfSome, IfOk, find, option_map, Bor, Vec}
use Rattle.std.proofs.lemmas.List.{length-map}
use Rattle.std.proofs.lemmas.Bool.{and_from, and_parts, leb-true, lt-ltb}
use Rattle.std.specs.List.{list_all}
use Rattle.std.specs.Option.{option_copied, option_or}
use Rattle.std.specs.Str.{bytes_eq}
use Rattle.serde_json.specs.Data.{Data}
use Rattle.lcm_events.specs.declared.descriptor.Level.{Level}
use Rattle.lcm_events.specs.declared.descriptor.Vnfd.{Vnfd}
use Rattle.lcm_model.specs.Descriptors.{IsValid, are_levels_of, are_sorted, is_given, is_valid_level, is_valid_port, is_valid_storage}
use Rattle.lcm_model.specs.Descriptors.{is_valid_vdu}
use Rattle.vnfd_document.specs.declared.fault.VnfdFault.{VnfdFault}
use Rattle.vnfd_document.specs.Checks.{Gives, first_failing}
use Rattle.vnfd_document.specs.Document.{document}
use Rattle.vnfd_document.specs.Json.{Named}
use Rattle.vnfd_document.specs.Names.{is_given_name, name_or_empty}
use Rattle.vnfd_document.specs.Order.{AllInOrder, InOrder, Rises}
use Rattle.vnfd_document.specs.Places.{node_templates, policies}
use Rattle.vnfd_document.proofs.CheckLaws.{none_parts, not_if, read_if}
use Rattle.vnfd_document.proofs.NameOrder.{in_order-document, in_order-policies, rises-node_templates, rises-of_type, sorted-names}
use Rattle.vnfd_nodes.specs.Built.{port_of, storage_of, vdu_of}
use Rattle.vnfd_nodes.specs.Nodes.{Nodes, compute_refusal, computes_refusal, count_refusal, counts_refusal, empties_refusal, empty_refusal}
use Rattle.vnfd_nodes.specs.Nodes.{have_all_names, have_names, maxima_refusal, missing_refusal, nodes_in, port_refusal, ports_refusal}
use Rattle.vnfd_nodes.specs.Nodes.{product_refusal, properties_refusal, property_of, sizes_refusal, storages_refusal, templates_refusal}
use Rattle.vnfd_nodes.proofs.ValidLaws.{all_built, all_given, link_valid, port_valid, storage_valid, vdu_valid}
use Rattle.vnfd_policies.specs.Initial.{initial_of}
use Rattle.vnfd_policies.specs.Levels.{default_of, levels_of}
use Rattle.vnfd_policies.specs.Refusal.{level_policies, policies_refusal, policy_names}
use Rattle.vnfd_policies.specs.Rows.{aspects_of}
use Rattle.vnfd_policies.proofs.ValidPolicies.{aspects_sorted, aspects_valid, default_exists, few_aspects, few_levels, initial_small}
use Rattle.vnfd_policies.proofs.ValidPolicies.{levels_sorted, levels_valid}
use Rattle.vnfd_reader.specs.Answer.{document_answer, names_refusal, parts_answer, parts_refusal, product_of, templates_answer, unless}
use Rattle.vnfd_reader.specs.Answer.{vdus_of, vnfd_of}
use Rattle.vnfd_reader.specs.Steps.{steps_refusal}
use Rattle.vnfd_nodes.specs.declared.templates.Templates.{Templates}
use Rattle.vnfd_nodes.specs.Seen.{nodes_seen}
use Rattle.vnfd_document.specs.Seen.{seen}
use Rattle.lcm_model.specs.Levels.{level_of}
use Rattle.vnfd_reader.specs.Ordered.{ComeInOrder}

-- ---- what each check says where it passes

-- the checks of the parts, each passed
record Pass (n : Nodes) (ps : List Named) : Type 0 where
  properties : properties_refusal (product_of n.products) ≡ None
  names : names_refusal n ps ≡ None
  counts : counts_refusal n ≡ None
  templates : templates_refusal n ≡ None
  policies : policies_refusal n.vdus ps ≡ None

passed : (n : Nodes) (ps : List Named) → parts_refusal n ps ≡ None → Pass n ps
passed n ps h =
    let a = none_parts (properties_refusal (product_of n.products)) _ h in
    let b = none_parts (names_refusal n ps) _ a.1 in
    let c = none_parts (counts_refusal n) _ b.1 in
    let d = none_parts (templates_refusal n) _ c.1 in
    let e = none_parts (policies_refusal n.vdus ps) _ d.1 in
    record { properties = a.0; names = b.0; counts = c.0; templates = d.0; policies = e.0 }

-- all names are given
record Named_all (n : Nodes) (ps : List Named) : Type 0 where
  vdus : have_names n.vdus ≡ true
  storages : have_names n.storages ≡ true
  links : have_names n.links ≡ true
  ports : have_names n.ports ≡ true
  policies : list_all is_given_name (policy_names ps) ≡ true

named : (n : Nodes) (ps : List Named) → names_refusal n ps ≡ None → Named_all n ps
unfolding names_refusal have_all_names
named n ps h =
    let both = and_parts (have_all_names n) (list_all is_given_name (policy_names ps)) (read_if _ _ h) in
    let three = and_parts (have_names n.vdus && have_names n.storages && have_names n.links) (have_names n.ports) both.0 in
    let two = and_parts (have_names n.vdus && have_names n.storages) (have_names n.links) three.0 in
    let one = and_parts (have_names n.vdus) (have_names n.storages) two.0 in
    record { vdus = one.0; storages = one.1; links = two.1; ports = three.1; policies = both.1 }

-- there are few of each
pub record Few (n : Nodes) : Type 0 where
  pub vdus : nat_le (length n.vdus) 64 ≡ true
  pub storages : nat_le (length n.storages) 128 ≡ true
  pub links : nat_le (length n.links) 64 ≡ true
  pub ports : nat_le (length n.ports) 256 ≡ true

few : (n : Nodes) → counts_refusal n ≡ None → Few n
unfolding counts_refusal
few n h =
    let a = none_parts (count_refusal (codes "vdus") 64 n.vdus) _ h in
    let b = none_parts (count_refusal (codes "storages") 128 n.storages) _ a.1 in
    let c = none_parts (count_refusal (codes "links") 64 n.links) _ b.1 in
    let d = none_parts (count_refusal (codes "ports") 256 n.ports) _ c.1 in
    record { vdus = read_if _ _ a.0; storages = read_if _ _ b.0; links = read_if _ _ c.0; ports = read_if _ _ d.0 }

computes_pass : (n : Nodes) → templates_refusal n ≡ None → first_failing compute_refusal n.vdus ≡ None
unfolding computes_refusal
computes_pass n h = (none_parts (computes_refusal n) _ h).0

ports_pass : (n : Nodes) → templates_refusal n ≡ None → first_failing (port_refusal n.vdus n.links) n.ports ≡ None
unfolding ports_refusal
ports_pass n h =
    let a = none_parts (computes_refusal n) _ h in
    let b = none_parts (maxima_refusal n) _ a.1 in
    let c = none_parts (storages_refusal n) _ b.1 in
    let d = none_parts (sizes_refusal n) _ c.1 in
    (none_parts (ports_refusal n) _ d.1).0

some_bytes : (k : List ℕ) → bytes_eq k [] ≡ false → is_given k ≡ true
some_bytes [] h = let no : ⊥ = cc in absurd no
some_bytes (x ∷ xs) h = lt-ltb 0 (length (x ∷ xs)) (omega arith)

identified : (d : Data) → properties_refusal d ≡ None → (is_given (property_of d (codes "descriptor_id"))
    && is_given (property_of d (codes "flavour_id"))) ≡ true
unfolding empties_refusal
identified d h =
    let empties = (none_parts (missing_refusal d) (empties_refusal d) h).1 in
    let a = none_parts (empty_refusal d (codes "descriptor_id")) _ empties in
    let b = none_parts (empty_refusal d (codes "flavour_id")) _ a.1 in
    and_from _ _ (some_bytes _ (not_if _ _ a.0)) (some_bytes _ (not_if _ _ b.0))

-- ---- the names of what is built

names_built : {A : Type 0} (f : Named → A) (g : A → List ℕ) → ((x : Named) → g (f x) ≡ name_or_empty x.0) → (xs : List Named)
    → map g (map f xs) ≡ map (λ x. name_or_empty x.0) xs
names_built f g same [] = refl
names_built f g same (x ∷ xs) = rw (same x, names_built f g same xs) refl

sorted_built : {A : Type 0} (f : Named → A) (g : A → List ℕ) → ((x : Named) → g (f x) ≡ name_or_empty x.0) → (xs : List Named) → Rises xs
    → have_names xs ≡ true → are_sorted (map g (map f xs)) ≡ true
sorted_built f g same xs up given = rw (names_built f g same xs) (sorted-names xs up given)

vdu_name : (storages ps : List Named) (x : Named) → (vdu_of storages (initial_of ps x.0) x).name ≡ name_or_empty x.0
unfolding vdu_of
vdu_name storages ps x = refl

storage_name : (x : Named) → (storage_of x).name ≡ name_or_empty x.0
unfolding storage_of
storage_name x = refl

port_name : (vdus links : List Named) (x : Named) → (port_of vdus links x).name ≡ name_or_empty x.0
unfolding port_of
port_name vdus links x = refl

link_names : (xs : List Named) → Rises xs → have_names xs ≡ true → are_sorted (map (λ x. name_or_empty x.0) xs) ≡ true
link_names xs up given = sorted-names xs up given

-- ---- the descriptor

pub vnfd_valid : (n : Nodes) (ps : List Named) → ComeInOrder n → AllInOrder ps → parts_refusal n ps ≡ None → IsValid (vnfd_of n ps)
unfolding vnfd_of vdus_of
vnfd_valid n ps up in_order h =
    let d = vnfd_of n ps in
    let pass = passed n ps h in
    let given = named n ps pass.names in
    let fewer = few n pass.counts in
    let vdu_count : length d.vdus ≡ length n.vdus = length-map n.vdus (λ x. vdu_of n.storages (initial_of ps x.0) x) in
    let storage_count : length d.storages ≡ length n.storages = length-map n.storages storage_of in
    let link_count : length d.links ≡ length n.links = length-map n.links (λ x. name_or_empty x.0) in
    let port_count : length d.ports ≡ length n.ports = length-map n.ports (port_of n.vdus n.links) in
    let few_vdus_built : nat_le (length d.vdus) 64 ≡ true = rw vdu_count fewer.vdus in
    let few_storages_built : nat_le (length d.storages) 128 ≡ true = rw storage_count fewer.storages in
    let few_links_built : nat_le (length d.links) 64 ≡ true = rw link_count fewer.links in
    let few_ports_built : nat_le (length d.ports) 256 ≡ true = rw port_count fewer.ports in
    record {
      named = identified (product_of n.products) pass.properties;
      counts =
          and_from _ _ (and_from _ _ (and_from _ _ (and_from _ _ (and_from _ _ (and_from _ _
          few_vdus_built few_storages_built) few_links_built) few_ports_built)
          (few_aspects n.vdus ps pass.policies)) (few_levels n.vdus ps pass.policies)) (default_exists n.vdus ps pass.policies);
      sorted =
          and_from _ _ (and_from _ _ (and_from _ _ (and_from _ _ (and_from _ _
          (sorted_built (λ x. vdu_of n.storages (initial_of ps x.0) x) (λ u. u.name) (vdu_name n.storages ps) n.vdus up.vdus given.vdus)
          (sorted_built storage_of (λ x. x.name) storage_name n.storages up.storages given.storages))
          (link_names n.links up.links given.links))
          (sorted_built (port_of n.vdus n.links) (λ x. x.name) (port_name n.vdus n.links) n.ports up.ports given.ports))
          (aspects_sorted n.vdus ps in_order given.policies pass.policies))
          (levels_sorted n.vdus ps in_order given.policies pass.policies);
      vdus = all_built (is_valid_vdu d) (λ x. vdu_of n.storages (initial_of ps x.0) x) compute_refusal n.vdus
          (computes_pass n pass.templates) given.vdus
          (λ x p g. vdu_valid d n.storages (initial_of ps x.0) x storage_count (initial_small ps x.0) p g);
      storages = all_given is_valid_storage storage_of n.storages given.storages storage_valid;
      links = all_given is_given (λ x. name_or_empty x.0) n.links given.links link_valid;
      ports = all_built (is_valid_port d) (port_of n.vdus n.links) (port_refusal n.vdus n.links) n.ports
          (ports_pass n pass.templates) given.ports
          (λ x p g. port_valid d n.vdus n.links x vdu_count link_count p g);
      aspects = aspects_valid d n.vdus ps vdu_count in_order given.policies pass.policies;
      levels = levels_valid d n.vdus ps refl in_order given.policies pass.policies;
    }

-- there are few of each where the parts pass
pub parts_few : (nodes : Templates) (ps : List Named) → parts_refusal (nodes_seen nodes) ps ≡ None → Few (nodes_seen nodes)
parts_few nodes ps h = few (nodes_seen nodes) (passed (nodes_seen nodes) ps h).counts

pub few_vdus : (nodes : Templates) (ps : List Named) → parts_refusal (nodes_seen nodes) ps ≡ None → length nodes.vdus.items ≤ 64
few_vdus nodes ps h = let most = leb-true _ _ (parts_few nodes ps h).vdus in omega (arith, most, length-map nodes.vdus.items seen)

pub few_storages : (nodes : Templates) (ps : List Named) → parts_refusal (nodes_seen nodes) ps ≡ None → length nodes.storages.items ≤ 128
few_storages nodes ps h = let most = leb-true _ _ (parts_few nodes ps h).storages in
    omega (arith, most, length-map nodes.storages.items seen)

pub few_links : (nodes : Templates) (ps : List Named) → parts_refusal (nodes_seen nodes) ps ≡ None → length nodes.links.items ≤ 64
few_links nodes ps h = let most = leb-true _ _ (parts_few nodes ps h).links in omega (arith, most, length-map nodes.links.items seen)

-- ---- the document

pub come_in_order : (d : Data) (templates : List Named) → InOrder d → Some templates ≡ node_templates d → ComeInOrder (nodes_in templates)
come_in_order d templates h e =
    let up : Rises templates = subst (λ o. IfSome o Rises) (sym e) (rises-node_templates d h) in
    record {
      vdus = rises-of_type (codes "tosca.nodes.nfv.Vdu.Compute") templates up;
      storages = rises-of_type (codes "tosca.nodes.nfv.Vdu.VirtualBlockStorage") templates up;
      links = rises-of_type (codes "tosca.nodes.nfv.VnfVirtualLink") templates up;
      ports = rises-of_type (codes "tosca.nodes.nfv.VduCp") templates up;
    }

passes_unless : (o : Option VnfdFault) (w v : Vnfd) → unless o w ≡ Ok v → (o ≡ None) × (w ≡ v)
passes_unless None w v h = let same : w ≡ v = cc in (refl, same)
passes_unless (Some fault) w v h = let no : ⊥ = cc in absurd no

parts_valid : (n : Nodes) (ps : List Named) (v : Vnfd) → ComeInOrder n → AllInOrder ps → parts_answer n ps ≡ Ok v → IsValid v
unfolding parts_answer
parts_valid n ps v up in_order h =
    let steps = steps_refusal (vnfd_of n ps) n.vdus (level_policies ps) in
    let passes = passes_unless (option_or (product_refusal n.products) (option_or (parts_refusal n ps) steps)) (vnfd_of n ps) v h in
    let behind = (none_parts (product_refusal n.products) (option_or (parts_refusal n ps) steps) passes.0).1 in
    subst IsValid passes.1 (vnfd_valid n ps up in_order (none_parts (parts_refusal n ps) steps behind).0)

templates_valid : (d : Data) (o : Option (List Named)) (ps : List Named) (v : Vnfd) → InOrder d → o ≡ node_templates d → AllInOrder ps
    → templates_answer o ps ≡ Ok v → IsValid v
templates_valid d None ps v h e in_order k = let no : ⊥ = cc in absurd no
templates_valid d (Some templates) ps v h e in_order k = parts_valid (nodes_in templates) ps v (come_in_order d templates h e) in_order k

pub document_valid : (d : Data) (v : Vnfd) → InOrder d → document_answer d ≡ Ok v → IsValid v
unfolding document_answer
document_valid d v h k = templates_valid d (node_templates d) (policies d) v h refl (in_order-policies d h) k

-- what is read is valid
pub given_valid : (r : Result Vnfd VnfdFault) (d : Data) → InOrder d → Gives r (document_answer d) → IfOk r IsValid
given_valid (Ok v) d h k = document_valid d v h k
given_valid (Err fault) d h k = tt

-- ---- the levels of a valid descriptor

found_if : (b : Bool) (d : Vnfd) (l : Level) (rest : Option Level) → is_valid_level d l ≡ true
    → IfSome rest (λ x. is_valid_level d x ≡ true) → IfSome (cond b (Some l) rest) (λ x. is_valid_level d x ≡ true)
found_if true d l rest h k = h
found_if false d l rest h k = k

found_valid : (d : Vnfd) (t : Level → Bool) (xs : List Level) → list_all (is_valid_level d) xs ≡ true
    → IfSome (find t xs) (λ x. is_valid_level d x ≡ true)
found_valid d t [] h = tt
found_valid d t (x ∷ xs) h = let parts = and_parts (is_valid_level d x) _ h in found_if (t x) d x _ parts.0 (found_valid d t xs parts.1)

numbers_valid : (d : Vnfd) (o : Option Level) → IfSome o (λ x. is_valid_level d x ≡ true)
    → IfSome (option_map (λ l. l.numbers) o) (λ numbers. are_levels_of d numbers ≡ true)
numbers_valid d None h = tt
numbers_valid d (Some l) h = (and_parts (is_given l.name) _ h).1

pub levels_are_of : (d : Vnfd) (name : List ℕ) (o : Option (Bor (List ℕ))) → IsValid d → option_copied o ≡ level_of d name
    → IfSome o (λ numbers. are_levels_of d numbers.now ≡ true)
levels_are_of d name None valid e = tt
levels_are_of d name (Some x) valid e =
    subst (λ o. IfSome o (λ numbers. are_levels_of d numbers ≡ true)) (sym e) (numbers_valid d _ (found_valid d _ d.levels valid.levels))
