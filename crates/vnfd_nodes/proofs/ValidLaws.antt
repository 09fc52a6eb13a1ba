-- What passes the checks is valid: the VDUs, storages, links and ports of a descriptor that is built of it.
use Rattle.std.proofs.Common.{◌≡◌, ◌+◌, ◌*◌, codes, ◌&&◌, ◌||◌, ℕ, List, [], ◌∷◌, length, map, Bool, true, false, cond, Option, Some, None}
use Rattle.std.proofs.Common.{unwrap_or, option_and_then, is_some, nat_le, nat_lt, refl, sym, arith, IfSome, true≢false}
use Rattle.std.proofs.lemmas.Bool.{and_from, and_parts, le-leb, lt-ltb, leb-true}
use Rattle.std.specs.Char.{is_ascii_digit}
use Rattle.std.specs.List.{list_all, take_while}
use Rattle.std.specs.Option.{option_map_or, option_or}
use Rattle.std.specs.Str.{bytes_eq}
use Rattle.std.specs.Str.Parse.{digits_value}
use Rattle.serde_json.specs.Data.{Data}
use Rattle.serde_json.specs.Find.{as_str}
use Rattle.lcm_events.specs.declared.descriptor.Vnfd.{Vnfd}
use Rattle.lcm_model.specs.Descriptors.{is_given, is_valid_maximum, is_valid_port, is_valid_storage, is_valid_vdu}
use Rattle.lcm_events.specs.Descriptors.{is_rising}
use Rattle.vnfd_document.specs.declared.fault.VnfdFault.{VnfdFault}
use Rattle.vnfd_document.specs.Checks.{first_failing}
use Rattle.vnfd_document.specs.Json.{Named, whole, within}
use Rattle.vnfd_document.specs.Members.{needed}
use Rattle.vnfd_document.specs.Names.{is_given_name, is_name, name_or_empty}
use Rattle.vnfd_document.specs.Places.{node_named, required}
use Rattle.vnfd_document.proofs.NameOrder.{name_or_empty-given}
use Rattle.vnfd_document.proofs.CheckLaws.{above_less, given_kept, none_parts, or_zero, read_if, rising_cons, some_then, whole_at_most}
use Rattle.vnfd_document.proofs.CheckLaws.{within_if}
use Rattle.vnfd_nodes.specs.Built.{aimed_at, is_named, place_of, places_named, port_of, storage_of, vdu_of}
use Rattle.vnfd_nodes.specs.Nodes.{aim_refusal, aims_refusal, binding_refusal, compute_refusal, cpus_at, is_known, maximum_at, memory_at}
use Rattle.vnfd_nodes.specs.Nodes.{port_refusal, size, size_at}
use Rattle.vnfd_nodes.specs.Sizes.{behind, bytes_of, bytes_of_unit, is_space, size_of}

-- ---- small laws

-- where a value is there, it is as each would be
of_some : (t : ℕ → Bool) (d : ℕ) (o : Option ℕ) → is_some o ≡ true → IfSome o (λ n. t n ≡ true) → t (unwrap_or o d) ≡ true
of_some t d None there h = absurd (true≢false (sym there))
of_some t d (Some n) there h = h

some_and : (P Q : ℕ → Type 0) (o : Option ℕ) → IfSome o P → ((n : ℕ) → P n → Q n) → IfSome o Q
some_and P Q None h next = tt
some_and P Q (Some n) h next = next n h

needed_read : (name : List ℕ) (form : Data → Option ℕ) (v : Option Data) → needed name form v ≡ None
    → is_some (option_and_then form v) ≡ true
needed_read name form None h = let no : ⊥ = cc in absurd no
needed_read name form (Some d) h = read_if (is_some (form d)) _ h

whole_at_least : (low high : ℕ) (d : Data) → IfSome (whole low high d) (λ n. nat_le low n ≡ true)
whole_at_least low high d = some_then (within low high) _ _ (λ n. within_if _ n _ (λ h. (and_parts (nat_le low n) (nat_le n high) h).0))

-- ---- sizes

bytes_of_small : (digits : List ℕ) (unit : Option ℕ) → IfSome (bytes_of digits unit) (λ n. nat_le n 1152921504606846976 ≡ true)
bytes_of_small digits None = tt
bytes_of_small digits (Some u) =
    let size = digits_value 10 digits * u in
    let small = nat_le size 1152921504606846976 in
    within_if (nat_lt 0 (length digits) && small) size (λ n. nat_le n 1152921504606846976 ≡ true)
    (λ h. (and_parts (nat_lt 0 (length digits)) small h).1)

size_small : (d : Data) → IfSome (size d) (λ n. nat_le n 1152921504606846976 ≡ true)
size_small d =
    some_then size_of (λ n. nat_le n 1152921504606846976 ≡ true) (as_str d)
    (λ text. bytes_of_small (take_while is_ascii_digit text) (bytes_of_unit (behind is_space (behind is_ascii_digit text))))

-- ---- names

-- ---- places

places_above_if : (b : Bool) (n : ℕ) (rest : List ℕ) → list_all (nat_le (n + 1)) rest ≡ true
    → list_all (nat_le n) (cond b (n ∷ rest) rest) ≡ true
places_above_if true n rest h = and_from (nat_le n n) _ (le-leb n n (omega arith)) (above_less n rest h)
places_above_if false n rest h = above_less n rest h

places_above : (n : ℕ) (xs : List Named) (aims : List Data) → list_all (nat_le n) (places_named n xs aims) ≡ true
places_above n [] aims = refl
places_above n (x ∷ xs) aims = places_above_if (is_named x.0 aims) n _ (places_above (n + 1) xs aims)

places_rise_if : (b : Bool) (n : ℕ) (rest : List ℕ) → list_all (nat_le (n + 1)) rest ≡ true → is_rising nat_lt rest ≡ true
    → is_rising nat_lt (cond b (n ∷ rest) rest) ≡ true
places_rise_if true n rest above up = rising_cons n rest above up
places_rise_if false n rest above up = up

places_rise : (n : ℕ) (xs : List Named) (aims : List Data) → is_rising nat_lt (places_named n xs aims) ≡ true
places_rise n [] aims = refl
places_rise n (x ∷ xs) aims = places_rise_if (is_named x.0 aims) n _ (places_above (n + 1) xs aims) (places_rise (n + 1) xs aims)

places_below_if : (b : Bool) (n m : ℕ) (rest : List ℕ) → nat_lt n m ≡ true → list_all (λ k. nat_lt k m) rest ≡ true
    → list_all (λ k. nat_lt k m) (cond b (n ∷ rest) rest) ≡ true
places_below_if true n m rest h all = and_from (nat_lt n m) _ h all
places_below_if false n m rest h all = all

places_below : (n m : ℕ) (xs : List Named) (aims : List Data) → n + length xs ≡ m
    → list_all (λ k. nat_lt k m) (places_named n xs aims) ≡ true
places_below n m [] aims e = refl
places_below n m (x ∷ xs) aims e =
    places_below_if (is_named x.0 aims) n m _ (lt-ltb n m (omega (arith, e))) (places_below (n + 1) m xs aims (omega (arith, e)))

place_below_if : (b : Bool) (n m : ℕ) (rest : Option ℕ) → nat_lt n m ≡ true → IfSome rest (λ k. nat_lt k m ≡ true)
    → IfSome (cond b (Some n) rest) (λ k. nat_lt k m ≡ true)
place_below_if true n m rest h k = h
place_below_if false n m rest h k = k

place_below : (n m : ℕ) (xs : List Named) (target : List ℕ) → n + length xs ≡ m → IfSome (place_of n xs target) (λ k. nat_lt k m ≡ true)
place_below n m [] target e = tt
place_below n m (x ∷ xs) target e =
    place_below_if (bytes_eq target x.0) n m _ (lt-ltb n m (omega (arith, e))) (place_below (n + 1) m xs target (omega (arith, e)))

known_placed_if : (b : Bool) (n : ℕ) (rest : Option ℕ) (others : Bool) → b || others ≡ true → (others ≡ true → is_some rest ≡ true)
    → is_some (cond b (Some n) rest) ≡ true
known_placed_if true n rest others h next = refl
known_placed_if false n rest others h next = next h

known_placed : (n : ℕ) (xs : List Named) (target : List ℕ) → is_known xs target ≡ true → is_some (place_of n xs target) ≡ true
known_placed n [] target h = absurd (true≢false (sym h))
known_placed n (x ∷ xs) target h = known_placed_if (bytes_eq target x.0) n _ _ h (known_placed (n + 1) xs target)

-- what aims at something known has a place
aim_placed : (known : List Named) (aim : Option (List ℕ)) → aim_refusal known aim ≡ None
    → is_some (option_and_then (place_of 0 known) aim) ≡ true
aim_placed known None h = let no : ⊥ = cc in absurd no
aim_placed known (Some target) h = known_placed 0 known target (read_if (is_known known target) _ h)

binding_placed : (vdus : List Named) (aims : List Data) → binding_refusal vdus aims ≡ None → is_some (aimed_at vdus aims) ≡ true
unfolding binding_refusal aims_refusal
binding_placed vdus [] h = let no : ⊥ = cc in absurd no
binding_placed vdus (d ∷ ds) h = aim_placed vdus (node_named d) (none_parts (aim_refusal vdus (node_named d)) _ h).0

aimed_below : (known : List Named) (aims : List Data) → IfSome (aimed_at known aims) (λ k. nat_lt k (length known) ≡ true)
aimed_below known [] = tt
aimed_below known (d ∷ ds) = some_then (place_of 0 known) _ (node_named d)
    (λ target. place_below 0 (length known) known target (omega arith))

-- ---- what is built is valid

maximum_or : (o : Option ℕ) → IfSome o (λ n. nat_le n 65535 ≡ true) → is_valid_maximum (unwrap_or o 4294967295) ≡ true
maximum_or None h = refl
maximum_or (Some n) h = rw h refl

pub vdu_valid : (d : Vnfd) (storages : List Named) (initial : ℕ) (x : Named) → length d.storages ≡ length storages
    → nat_le initial 65535 ≡ true
    → compute_refusal x ≡ None → is_given_name x.0 ≡ true → is_valid_vdu d (vdu_of storages initial x) ≡ true
unfolding vdu_of compute_refusal
vdu_valid d storages initial x same small passes given =
    let memory_passes = needed (codes "virtual_mem_size") size (memory_at x.1) in
    let cpus_passes = needed (codes "num_virtual_cpu") (whole 1 65535) (cpus_at x.1) in
    let cpus_read = needed_read (codes "num_virtual_cpu") (whole 1 65535) (cpus_at x.1)
    (none_parts cpus_passes None (none_parts memory_passes (option_or cpus_passes None) passes).1).0 in
    let memory = option_and_then size (memory_at x.1) in
    let cpus = option_and_then (whole 1 65535) (cpus_at x.1) in
    let maximum = option_and_then (whole 0 65535) (maximum_at x.1) in
    let aims = required (codes "virtual_storage") x.1 in
    let has_name = given_kept x.0 given in
    let has_memory : nat_le (unwrap_or memory 0) 1152921504606846976 ≡ true =
    or_zero 1152921504606846976 memory (some_then size (λ n. nat_le n 1152921504606846976 ≡ true) (memory_at x.1) size_small) in
    let has_cpu : nat_le 1 (unwrap_or cpus 0) ≡ true =
    of_some (nat_le 1) 0 cpus cpus_read (some_then (whole 1 65535) (λ n. nat_le 1 n ≡ true) (cpus_at x.1) (whole_at_least 1 65535)) in
    let has_few_cpus : nat_le (unwrap_or cpus 0) 65535 ≡ true =
    of_some (λ n. nat_le n 65535) 0 cpus cpus_read (some_then (whole 1 65535) (λ n. nat_le n 65535 ≡ true) (cpus_at x.1)
    (whole_at_most 1 65535)) in
    let has_maximum : is_valid_maximum (unwrap_or maximum 4294967295) ≡ true =
    maximum_or maximum (some_then (whole 0 65535) (λ n. nat_le n 65535 ≡ true) (maximum_at x.1) (whole_at_most 0 65535)) in
    let rise = places_rise 0 storages aims in
    let exist = places_below 0 (length d.storages) storages aims (omega (arith, same)) in
    and_from _ _ (and_from _ _ (and_from _ _ (and_from _ _ (and_from _ _
    (and_from _ _ (and_from _ _ has_name has_memory) has_cpu) has_few_cpus) has_maximum) small) rise) exist

pub storage_valid : (x : Named) → is_given_name x.0 ≡ true → is_valid_storage (storage_of x) ≡ true
unfolding storage_of
storage_valid x given =
    let bytes = option_and_then size (size_at x.1) in
    let is_small : nat_le (unwrap_or bytes 0) 1152921504606846976 ≡ true =
    or_zero 1152921504606846976 bytes (some_then size (λ n. nat_le n 1152921504606846976 ≡ true) (size_at x.1) size_small) in
    and_from _ _ (given_kept x.0 given) is_small

pub link_valid : (x : Named) → is_given_name x.0 ≡ true → is_given (name_or_empty x.0) ≡ true
link_valid x given = given_kept x.0 given

link_or : (m : ℕ) (o : Option ℕ) → IfSome o (λ k. nat_lt k m ≡ true) → option_map_or (λ k. nat_lt k m) o true ≡ true
link_or m None h = refl
link_or m (Some k) h = h

pub port_valid : (d : Vnfd) (vdus links : List Named) (x : Named) → length d.vdus ≡ length vdus → length d.links ≡ length links
    → port_refusal vdus links x ≡ None → is_given_name x.0 ≡ true → is_valid_port d (port_of vdus links x) ≡ true
unfolding port_of port_refusal
port_valid d vdus links x same_vdus same_links passes given =
    let bindings = required (codes "virtual_binding") x.1 in
    let linked = required (codes "virtual_link") x.1 in
    let bound = binding_placed vdus bindings (none_parts (binding_refusal vdus bindings) (aims_refusal links linked) passes).0 in
    let has_name = given_kept x.0 given in
    let has_vdu : nat_lt (unwrap_or (aimed_at vdus bindings) 0) (length d.vdus) ≡ true =
    rw same_vdus (of_some (λ k. nat_lt k (length vdus)) 0 (aimed_at vdus bindings) bound (aimed_below vdus bindings)) in
    let has_link : option_map_or (λ k. nat_lt k (length d.links)) (aimed_at links linked) true ≡ true =
    rw same_links (link_or (length links) (aimed_at links linked) (aimed_below links linked)) in
    and_from _ _ (and_from _ _ has_name has_vdu) has_link

-- where each of these that passes gives something that passes, all that they give does
pub all_built : {A : Type 0} (t : A → Bool) (f : Named → A) (check : Named → Option VnfdFault) (xs : List Named)
    → first_failing check xs ≡ None → list_all (λ x. is_given_name x.0) xs ≡ true
    → ((x : Named) → check x ≡ None → is_given_name x.0 ≡ true → t (f x) ≡ true) → list_all t (map f xs) ≡ true
all_built t f check [] passes given each = refl
all_built t f check (x ∷ xs) passes given each =
    let parts = none_parts (check x) _ passes in
    let names = and_parts (is_given_name x.0) _ given in
    and_from (t (f x)) _ (each x parts.0 names.0) (all_built t f check xs parts.1 names.1 each)

-- the same without a check
pub all_given : {A : Type 0} (t : A → Bool) (f : Named → A) (xs : List Named) → list_all (λ x. is_given_name x.0) xs ≡ true
    → ((x : Named) → is_given_name x.0 ≡ true → t (f x) ≡ true) → list_all t (map f xs) ≡ true
all_given t f [] given each = refl
all_given t f (x ∷ xs) given each =
    let names = and_parts (is_given_name x.0) _ given in
    and_from (t (f x)) _ (each x names.0) (all_given t f xs names.1 each)
