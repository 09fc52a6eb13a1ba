-- A valid descriptor has a spelling.
use Rattle.std.proofs.Common.{◌≡◌, ◌≤◌, ◌+◌, ℕ, List, [], ◌∷◌, length, map, Bool, true, Option, Some, None, refl, arith}
use Rattle.std.specs.Prelude.{nat_lt, ◌&&◌}
use Rattle.std.specs.List.{AllByRecursion, list_all}
use Rattle.std.proofs.lemmas.Bool.{and_from as and_both, and_parts as both, eqb-true, leb-true, ltb-true}
use Rattle.std.specs.Option.{option_map_or}
use Rattle.event_codec.specs.Typed.{TypedAspect, TypedEvent, TypedLevel, TypedPort, TypedRow, TypedVdu, TypedVnfd}
use Rattle.event_codec.specs.Valid.{IsAspect, IsEvent, IsLevel, IsLink, IsPort, IsRow, IsVdu, IsVnfd, in_order, names_entries}
use Rattle.event_codec.specs.Valid.{optionally_below}
use Rattle.lcm_events.specs.Descriptors.{is_name_before, is_rising, is_valid_steps}
use Rattle.lcm_events.specs.declared.descriptor.Aspect.{Aspect}
use Rattle.lcm_events.specs.declared.descriptor.Level.{Level}
use Rattle.lcm_events.specs.declared.descriptor.Port.{Port}
use Rattle.lcm_events.specs.declared.descriptor.Row.{Row}
use Rattle.lcm_events.specs.declared.descriptor.Storage.{Storage}
use Rattle.lcm_events.specs.declared.descriptor.Vdu.{Vdu}
use Rattle.lcm_events.specs.declared.descriptor.Vnfd.{Vnfd}
use Rattle.lcm_model.specs.Descriptors.{IsValid, has_sorted_names, has_valid_counts, is_valid_aspect, is_valid_level, is_valid_port}
use Rattle.lcm_model.specs.Descriptors.{is_valid_row, is_valid_vdu}
use Rattle.lcm_sessions.specs.Verdict.{onboarding}

and_front : (a b : Bool) → (a && b) ≡ true → a ≡ true
and_front a b is = (both a b is).0

and_back : (a b : Bool) → (a && b) ≡ true → b ≡ true
and_back a b is = (both a b is).1

-- what passes a test passes one that asks less
list_all_weaker : {A : Type 0} (p q : A → Bool) (xs : List A) → ((x : A) → p x ≡ true → q x ≡ true) → list_all p xs ≡ true
    → list_all q xs ≡ true
list_all_weaker p q [] less all = refl
list_all_weaker p q (x ∷ xs) less all = let h = both (p x) (list_all p xs) all in
    and_both (q x) (list_all q xs) (less x h.0) (list_all_weaker p q xs less h.1)

-- a fact that a test and another fact imply
all_with : {A : Type 0} (T Q : A → Type 0) (p : A → Bool) → ((x : A) → T x → p x ≡ true → Q x) → (xs : List A) → AllByRecursion T xs
    → list_all p xs ≡ true → AllByRecursion Q xs
all_with T Q p so [] all is = tt
all_with T Q p so (x ∷ xs) all is = let h = both (p x) (list_all p xs) is in (so x all.0 h.0, all_with T Q p so xs all.1 h.1)

-- a list rises by what its entries have where these rise
rises_by : {A B : Type 0} (f : A → B) (before : B → B → Bool) (xs : List A) → is_rising before (map f xs) ≡ true
    → is_rising (λ x y. before (f x) (f y)) xs ≡ true
rises_by f before [] is = refl
rises_by f before (x ∷ []) is = refl
rises_by f before (x ∷ y ∷ xs) is =
    let h = both (before (f x) (f y)) (is_rising before (f y ∷ map f xs)) is in
    and_both (before (f x) (f y)) (is_rising (λ x y. before (f x) (f y)) (y ∷ xs)) h.0 (rises_by f before (y ∷ xs) h.1)

-- numbers that rise from one on, below another, are few
few_from : (x n : ℕ) (xs : List ℕ) → is_rising nat_lt (x ∷ xs) ≡ true → list_all (λ k. nat_lt k n) (x ∷ xs) ≡ true → x + length (x ∷ xs) ≤ n
few_from x n [] rise below =
    let b = both (nat_lt x n) true below in let h = ltb-true x n b.0 in omega (arith, h)
few_from x n (y ∷ xs) rise below =
    let r = both (nat_lt x y) (is_rising nat_lt (y ∷ xs)) rise in
    let b = both (nat_lt x n) (list_all (λ k. nat_lt k n) (y ∷ xs)) below in
    let h = ltb-true x y r.0 in
    let more = few_from y n xs r.1 b.1 in
    omega (arith, h, more)

few : (n : ℕ) (xs : List ℕ) → is_rising nat_lt xs ≡ true → list_all (λ k. nat_lt k n) xs ≡ true → length xs ≤ n
few n [] rise below = omega arith
few n (x ∷ xs) rise below = let h = few_from x n xs rise below in omega (arith, h)

list_all_map : {A B : Type 0} (f : A → B) (p : B → Bool) (xs : List A) → list_all (λ x. p (f x)) xs ≡ true → list_all p (map f xs) ≡ true
list_all_map f p [] is = refl
list_all_map f p (x ∷ xs) is = let h = both (p (f x)) (list_all (λ x. p (f x)) xs) is in
    and_both (p (f x)) (list_all p (map f xs)) h.0 (list_all_map f p xs h.1)

length_map : {A B : Type 0} (f : A → B) (xs : List A) → length (map f xs) ≡ length xs
length_map f [] = refl
length_map f (x ∷ xs) = let h = length_map f xs in rw h refl

-- the parts of a test of a VDU
record VduParts (d : Vnfd) (u : Vdu) : Type 0 where
  rise : is_rising nat_lt u.storages ≡ true
  exist : list_all (λ n. nat_lt n (length d.storages)) u.storages ≡ true

vdu_parts : (d : Vnfd) (u : Vdu) → is_valid_vdu d u ≡ true → VduParts d u
vdu_parts d u is =
    record { rise = and_back _ _ (and_front _ _ is); exist = and_back _ _ is }

valid_vdu : (d : Vnfd) → length d.storages ≤ 128 → (u : Vdu) → TypedVdu u → is_valid_vdu d u ≡ true → IsVdu u
valid_vdu d most u typed is =
    let parts = vdu_parts d u is in
    let short = few (length d.storages) u.storages parts.rise parts.exist in
    (typed.0, typed.1, typed.2, typed.3, typed.4, (omega (arith, short, most), typed.5), parts.rise)

-- where a link is named it exists, and its number fits
link_fits : (n : ℕ) → n ≤ 64 → (link : Option ℕ) → option_map_or (λ k. nat_lt k n) link true ≡ true → IsLink link
link_fits n most None is = tt
link_fits n most (Some k) is = let h = ltb-true k n is in omega (arith, h, most)

link_below : (n : ℕ) (link : Option ℕ) → option_map_or (λ k. nat_lt k n) link true ≡ true → optionally_below n link ≡ true
link_below n None is = refl
link_below n (Some k) is = is

-- the parts of a test of a port
record PortParts (d : Vnfd) (p : Port) : Type 0 where
  vdu : nat_lt p.vdu (length d.vdus) ≡ true
  link : option_map_or (λ n. nat_lt n (length d.links)) p.link true ≡ true

port_parts : (d : Vnfd) (p : Port) → is_valid_port d p ≡ true → PortParts d p
port_parts d p is =
    record { vdu = and_back _ _ (and_front _ _ is); link = and_back _ _ is }

valid_port : (d : Vnfd) → length d.links ≤ 64 → (p : Port) → TypedPort p → is_valid_port d p ≡ true → IsPort p
valid_port d most p typed is = (typed.0, typed.1, link_fits (length d.links) most p.link (port_parts d p is).link)

-- the parts of a test of a row
record RowParts (d : Vnfd) (steps : ℕ) (row : Row) : Type 0 where
  vdu : nat_lt row.vdu (length d.vdus) ≡ true
  deltas : length row.deltas ≡ steps

row_parts : (d : Vnfd) (steps : ℕ) (row : Row) → is_valid_row d steps row ≡ true → RowParts d steps row
row_parts d steps row is =
    record { vdu = and_front _ _ (and_front _ _ is); deltas = eqb-true (length row.deltas) steps (and_back _ _ (and_front _ _ is)) }

valid_row : (d : Vnfd) (steps : ℕ) (row : Row) → TypedRow row → is_valid_row d steps row ≡ true → IsRow steps row
valid_row d steps row typed is = (typed.0, ((row_parts d steps row is).deltas, typed.1))

-- the parts of a test of an aspect
record AspectParts (d : Vnfd) (a : Aspect) : Type 0 where
  steps : is_valid_steps a.maximum a.steps ≡ true
  rise : is_rising nat_lt (map (λ r. r.vdu) a.rows) ≡ true
  rows : list_all (is_valid_row d a.steps) a.rows ≡ true

aspect_parts : (d : Vnfd) (a : Aspect) → is_valid_aspect d a ≡ true → AspectParts d a
aspect_parts d a is =
    record { steps = and_back _ _ (and_front _ _ (and_front _ _ is)); rise = and_back _ _ (and_front _ _ is); rows = and_back _ _ is }

-- each row's VDU exists
rows_exist : (d : Vnfd) (a : Aspect) → is_valid_aspect d a ≡ true → list_all (λ r. nat_lt r.vdu (length d.vdus)) a.rows ≡ true
rows_exist d a is =
    list_all_weaker (is_valid_row d a.steps) (λ r. nat_lt r.vdu (length d.vdus)) a.rows (λ r h. (row_parts d a.steps r h).vdu)
    (aspect_parts d a is).rows

valid_aspect : (d : Vnfd) → length d.vdus ≤ 64 → (a : Aspect) → TypedAspect a → is_valid_aspect d a ≡ true → IsAspect a
valid_aspect d most a typed is =
    let parts = aspect_parts d a is in
    let exist = list_all_map (λ (r : Row). r.vdu) (λ n. nat_lt n (length d.vdus)) a.rows (rows_exist d a is) in
    let short = few (length d.vdus) (map (λ r. r.vdu) a.rows) parts.rise exist in
    let count = length_map (λ (r : Row). r.vdu) a.rows in (
      typed.0,
      typed.1,
      typed.2,
      (
        omega (arith, short, count, most),
        all_with TypedRow (IsRow a.steps) (is_valid_row d a.steps)
            (valid_row d a.steps) a.rows typed.3 parts.rows,
      ),
      parts.steps,
      rises_by (λ (r : Row). r.vdu) nat_lt a.rows parts.rise,
    )

valid_level : (d : Vnfd) (l : Level) → TypedLevel l → is_valid_level d l ≡ true → IsLevel (length d.aspects) l
valid_level d l typed is =
    (typed.0, (eqb-true (length l.numbers) (length d.aspects) (and_front _ _ (and_back _ _ is)), typed.1))

-- the counts of a valid descriptor
record Counts (d : Vnfd) : Type 0 where
  vdus : length d.vdus ≤ 64
  storages : length d.storages ≤ 128
  links : length d.links ≤ 64
  ports : length d.ports ≤ 256
  aspects : length d.aspects ≤ 16
  levels : length d.levels ≤ 64
  default : nat_lt d.default_level (length d.levels) ≡ true

counts_of : (d : Vnfd) → has_valid_counts d ≡ true → Counts d
counts_of d is =
    let levels = and_front _ _ is in
    let aspects = and_front _ _ levels in
    let ports = and_front _ _ aspects in
    let links = and_front _ _ ports in
    let storages = and_front _ _ links in
    record {
      vdus = leb-true (length d.vdus) 64 (and_front _ _ storages);
      storages = leb-true (length d.storages) 128 (and_back _ _ storages);
      links = leb-true (length d.links) 64 (and_back _ _ links);
      ports = leb-true (length d.ports) 256 (and_back _ _ ports);
      aspects = leb-true (length d.aspects) 16 (and_back _ _ aspects);
      levels = leb-true (length d.levels) 64 (and_back _ _ levels);
      default = and_back _ _ is;
    }

-- its named things stand in order
ordered : (d : Vnfd) → has_sorted_names d ≡ true → in_order d ≡ true
ordered d is =
    let aspects = and_front _ _ is in
    let ports = and_front _ _ aspects in
    let links = and_front _ _ ports in
    let storages = and_front _ _ links in
    and_both _ _ (rises_by (λ (x : Vdu). x.name) is_name_before d.vdus (and_front _ _ storages))
    (and_both _ _ (rises_by (λ (x : Storage). x.name) is_name_before d.storages (and_back _ _ storages))
    (and_both _ _ (and_back _ _ links)
    (and_both _ _ (rises_by (λ (x : Port). x.name) is_name_before d.ports (and_back _ _ ports))
    (and_both _ _ (rises_by (λ (x : Aspect). x.name) is_name_before d.aspects (and_back _ _ aspects))
    (rises_by (λ (x : Level). x.name) is_name_before d.levels (and_back _ _ is))))))

-- each number names an entry
entries_named : (d : Vnfd) → IsValid d → Counts d → names_entries d ≡ true
entries_named d valid counts =
    and_both _ _ (list_all_weaker (is_valid_vdu d) (λ m. list_all (λ s. nat_lt s (length d.storages)) m.storages) d.vdus
    (λ u h. (vdu_parts d u h).exist) valid.vdus)
    (and_both _ _ (list_all_weaker (is_valid_port d) (λ p. nat_lt p.vdu (length d.vdus) && optionally_below (length d.links) p.link) d.ports
    (λ p h. and_both _ _ (port_parts d p h).vdu (link_below (length d.links) p.link (port_parts d p h).link)) valid.ports)
    (and_both _ _ (list_all_weaker (is_valid_aspect d) (λ a. list_all (λ r. nat_lt r.vdu (length d.vdus)) a.rows) d.aspects
    (rows_exist d) valid.aspects) counts.default))

-- a valid descriptor, each of whose numbers and names is one of its type, has a spelling
valid_vnfd : (d : Vnfd) → IsValid d → TypedVnfd d → IsVnfd d
valid_vnfd d valid typed =
    let counts = counts_of d valid.counts in
    let lists = typed.6 in (
      typed.0,
      typed.1,
      typed.2,
      typed.3,
      typed.4,
      typed.5,
      (
        let h = counts.vdus in omega (arith, h),
        all_with TypedVdu IsVdu (is_valid_vdu d)
            (valid_vdu d counts.storages) d.vdus lists.0 valid.vdus,
      ),
      (let h = counts.storages in omega (arith, h), lists.1),
      (let h = counts.links in omega (arith, h), lists.2),
      (
        let h = counts.ports in omega (arith, h),
        all_with TypedPort IsPort (is_valid_port d)
            (valid_port d counts.links) d.ports lists.3 valid.ports,
      ),
      (
        let h = counts.aspects in omega (arith, h),
        all_with TypedAspect IsAspect (is_valid_aspect d)
            (valid_aspect d counts.vdus) d.aspects lists.4 valid.aspects,
      ),
      (
        let h = counts.levels in omega (arith, h),
        all_with TypedLevel (IsLevel (length d.aspects)) (is_valid_level d)
            (valid_level d) d.levels lists.5 valid.levels,
      ),
      lists.6,
      ordered d valid.sorted,
      entries_named d valid counts,
    )

-- the event that a valid descriptor was onboarded has a spelling
pub valid_event : (now : ℕ) (d : Vnfd) → IsValid d → TypedEvent (onboarding now d) → IsEvent (onboarding now d)
valid_event now d valid typed = (typed.0, valid_vnfd d valid typed.1)
