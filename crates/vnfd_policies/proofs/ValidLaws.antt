-- What passes the checks of policies is valid: the aspects, levels and initial deltas of a descriptor that are built of it.
use Rattle.std.proofs.Common.{◌≡◌, ◌+◌, ◌<◌, ◌≤◌, codes, ◌&&◌, ◌||◌, ◌==◌, ◌++◌, ℕ, List, [], ◌∷◌, length, map, Bool, true, false, cond}
use Rattle.std.proofs.Common.{Option, Some, None, unwrap_or, option_and_then, is_some, nat_le, nat_lt, nat_eq, zero, suc, refl, ap, sym}
use Rattle.std.proofs.Common.{◌∙◌, subst, arith, IfSome, true≢false, append-nil}
use Rattle.std.proofs.lemmas.Bool.{and_from, and_parts, or_right, le-leb, lt-ltb, leb-true, ltb-false, eqb-true, eq-eqb}
use Rattle.std.specs.List.{enumerate_from, filter_map, cons_option, flat_map, list_all}
use Rattle.std.specs.Option.{option_map_or, option_or, option_map}
use Rattle.std.specs.Prelude.{find, zip}
use Rattle.serde_json.specs.Data.{Data, Items}
use Rattle.serde_json.specs.Find.{get, as_array, as_str}
use Rattle.lcm_events.specs.declared.descriptor.Aspect.{Aspect}
use Rattle.lcm_events.specs.declared.descriptor.Row.{Row}
use Rattle.lcm_events.specs.declared.descriptor.Vnfd.{Vnfd}
use Rattle.lcm_model.specs.Descriptors.{are_levels_of, are_sorted, is_given, is_valid_aspect, is_valid_level, is_valid_row}
use Rattle.lcm_events.specs.Descriptors.{is_rising, is_valid_steps}
use Rattle.vnfd_document.specs.declared.fault.VnfdFault.{VnfdFault}
use Rattle.vnfd_document.specs.Checks.{first_failing}
use Rattle.vnfd_document.specs.Json.{Named, at, entries_of, items_in, whole, within}
use Rattle.vnfd_document.specs.Members.{needed}
use Rattle.vnfd_document.specs.Names.{is_given_name, is_name, name_or_empty}
use Rattle.vnfd_document.specs.Places.{of_type, property}
use Rattle.vnfd_document.proofs.NameOrder.{name_or_empty-given}
use Rattle.vnfd_document.proofs.CheckLaws.{above_less, given_kept, none_parts, not_if, or_zero, read_if, rising_cons, some_then}
use Rattle.vnfd_document.proofs.CheckLaws.{whole_at_most}
use Rattle.vnfd_policies.specs.Policies.{aspect_deltas, initial_delta, vdu_levels, scaling_aspects, too_many, aims_at}
use Rattle.vnfd_policies.specs.Aspects.{are_steps, aspects, aspects_refusal, form_refusal, maximum, maximum_refusal, step_list, steps}
use Rattle.vnfd_policies.specs.Aspects.{steps_refusal}
use Rattle.vnfd_policies.specs.Deltas.{step_delta}
use Rattle.vnfd_policies.specs.Initial.{delta_of, first_given, given_at, initial_of, instances}
use Rattle.vnfd_policies.specs.Levels.{default_name, level_of, number_at}
use Rattle.vnfd_policies.specs.Refusal.{policies_refusal}
use Rattle.vnfd_policies.specs.Rows.{aspect_of, aspects_of, deltas_by, policies_for, row_of, rows_of, step_count}

-- ---- small laws

pub at_most : (most : ℕ) (name : List ℕ) (xs : List Named) → too_many most name xs ≡ None → nat_le (length xs) most ≡ true
at_most most name xs h = le-leb (length xs) most (ltb-false most (length xs) (not_if _ _ h))

-- ---- an aspect

maximum_small : (a : Data) → nat_le (maximum a) 1000 ≡ true
maximum_small a = or_zero 1000 _ (some_then (whole 0 1000) _ (get (codes "max_scale_level") a) (whole_at_most 0 1000))

one_or_each : (b : Bool) (m : ℕ) → (nat_eq (cond b 1 m) 1 || nat_eq (cond b 1 m) m) ≡ true
one_or_each true m = refl
one_or_each false m = or_right (nat_eq m 1) _ (eq-eqb m m refl)

steps_valid_by : (z : Bool) (m : ℕ) (ds : List Data) → nat_eq m 0 ≡ z
    → cond z (nat_eq (cond (nat_eq (length (cond z [] ds)) 1) 1 m) 0)
    (nat_eq (cond (nat_eq (length (cond z [] ds)) 1) 1 m) 1 || nat_eq (cond (nat_eq (length (cond z [] ds)) 1) 1 m) m) ≡ true
steps_valid_by true m ds is = is
steps_valid_by false m ds is = one_or_each (nat_eq (length ds) 1) m

steps_valid : (m : ℕ) (ds : List Data) → is_valid_steps m (cond (nat_eq (length (cond (nat_eq m 0) [] ds)) 1) 1 m) ≡ true
steps_valid m ds = steps_valid_by (nat_eq m 0) m ds refl

one_or_all_if : (b : Bool) (n m : ℕ) → nat_eq n 1 ≡ b → (b || nat_eq n m) ≡ true → n ≡ cond b 1 m
one_or_all_if true n m is h = eqb-true n 1 is
one_or_all_if false n m is h = eqb-true n m h

counted : (m : ℕ) (arr : Option Items) → is_some (option_and_then (λ items. cond (are_steps m (items_in items)) (Some items) None) arr)
    ≡ true
    → length (option_map_or items_in arr []) ≡ cond (nat_eq (length (option_map_or items_in arr [])) 1) 1 m
counted m None h = absurd (true≢false (sym h))
counted m (Some items) h = one_or_all_if _ (length (items_in items)) m refl
    (and_parts _ _ (there (are_steps m (items_in items)) items h)).1 where
      there : (b : Bool) (items : Items) → is_some (cond b (Some items) None) ≡ true → b ≡ true
      there true items h = refl
      there false items h = absurd (true≢false (sym h))

counted_by : (z : Bool) (m : ℕ) (o : Option Data) → nat_eq m 0 ≡ z → cond z None (needed (codes "step_deltas") (step_list m) o) ≡ None
    → length (cond z [] (option_map_or entries_of o [])) ≡ cond (nat_eq (length (cond z [] (option_map_or entries_of o []))) 1) 1 m
counted_by true m o is h = sym (eqb-true m 0 is)
counted_by false m None is h = let no : ⊥ = cc in absurd no
counted_by false m (Some d) is h = counted m (as_array d) (read_if _ _ h)

-- the steps of an aspect that passes are as many as its rows have deltas
step_count_is : (a : Named) → steps_refusal a ≡ None → length (steps a.1) ≡ step_count a.1
step_count_is a h = counted_by (nat_eq (maximum a.1) 0) (maximum a.1) (get (codes "step_deltas") a.1) refl h

-- ---- rows

map_then : {A B : Type 0} (f : A → B) (P : B → Type 0) (o : Option A) → ((x : A) → P (f x)) → IfSome (option_map f o) P
map_then f P None h = tt
map_then f P (Some x) h = h x

row_vdu : (aspect : Data) (policies : List Named) (n : ℕ) (name : List ℕ) → IfSome (row_of aspect policies n name) (λ r. r.vdu ≡ n)
row_vdu aspect policies n name = map_then _ (λ (r : Row). r.vdu ≡ n) (find (λ p. aims_at name p.1) policies) (λ p. refl)

above_if : (o : Option Row) (n : ℕ) (rest : List Row) → IfSome o (λ r. r.vdu ≡ n) → list_all (nat_le (n + 1)) (map (λ r. r.vdu) rest) ≡ true
    → list_all (nat_le n) (map (λ r. r.vdu) (cons_option o rest)) ≡ true
above_if None n rest is h = above_less n (map (λ r. r.vdu) rest) h
above_if (Some r) n rest is h = and_from (nat_le n r.vdu) _ (le-leb n r.vdu (omega (arith, is))) (above_less n (map (λ r. r.vdu) rest) h)

rows_above : (aspect : Data) (policies : List Named) (n : ℕ) (xs : List Named)
    → list_all (nat_le n) (map (λ r. r.vdu) (filter_map (λ v. row_of aspect policies v.0 v.1.0) (enumerate_from n xs))) ≡ true
rows_above aspect policies n [] = refl
rows_above aspect policies n (x ∷ xs) =
    above_if (row_of aspect policies n x.0) n _ (row_vdu aspect policies n x.0) (rows_above aspect policies (n + 1) xs)

rise_if : (o : Option Row) (n : ℕ) (rest : List Row) → IfSome o (λ r. r.vdu ≡ n) → list_all (nat_le (n + 1)) (map (λ r. r.vdu) rest) ≡ true
    → is_rising nat_lt (map (λ r. r.vdu) rest) ≡ true → is_rising nat_lt (map (λ r. r.vdu) (cons_option o rest)) ≡ true
rise_if None n rest is above up = up
rise_if (Some r) n rest is above up =
    subst (λ (k : ℕ). is_rising nat_lt (k ∷ map (λ r. r.vdu) rest) ≡ true) (sym is) (rising_cons n (map (λ r. r.vdu) rest) above up)

rows_rise : (aspect : Data) (policies : List Named) (n : ℕ) (xs : List Named)
    → is_rising nat_lt (map (λ r. r.vdu) (filter_map (λ v. row_of aspect policies v.0 v.1.0) (enumerate_from n xs))) ≡ true
rows_rise aspect policies n [] = refl
rows_rise aspect policies n (x ∷ xs) =
    rise_if (row_of aspect policies n x.0) n _ (row_vdu aspect policies n x.0) (rows_above aspect policies (n + 1) xs)
    (rows_rise aspect policies (n + 1) xs)

delta_small : (d : Data) (s : Data) → IfSome (step_delta d s) (λ n. nat_le n 65535 ≡ true)
delta_small d s =
    some_then _ _ (as_str s) (λ name. some_then (whole 0 65535) (λ n. nat_le n 65535 ≡ true)
    (at (name ∷ codes "number_of_instances" ∷ []) d) (whole_at_most 0 65535))

deltas_small : (policy : Data) (names : List Data) → list_all (λ n. nat_le n 65535) (deltas_by policy names) ≡ true
deltas_small policy [] = refl
deltas_small policy (s ∷ names) =
    and_from (nat_le (unwrap_or (option_and_then (λ d. step_delta d s) (property (codes "deltas") policy)) 0) 65535) _
    (or_zero 65535 _ (some_then (λ d. step_delta d s) (λ n. nat_le n 65535 ≡ true) (property (codes "deltas") policy)
    (λ d. delta_small d s)))
    (deltas_small policy names)

deltas_many : (policy : Data) (names : List Data) → length (deltas_by policy names) ≡ length names
deltas_many policy [] = refl
deltas_many policy (s ∷ names) = ap suc (deltas_many policy names)

row_valid : (d : Vnfd) (aspect : Data) (policies : List Named) (n k : ℕ) (name : List ℕ) → nat_lt n (length d.vdus) ≡ true
    → length (steps aspect) ≡ k
    → IfSome (row_of aspect policies n name) (λ r. is_valid_row d k r ≡ true)
row_valid d aspect policies n k name below many =
    map_then _ (λ (r : Row). is_valid_row d k r ≡ true) (find (λ p. aims_at name p.1) policies)
    (λ p. and_from _ _ (and_from _ _ below (eq-eqb _ _ (deltas_many p.1 (steps aspect) ∙ many))) (deltas_small p.1 (steps aspect)))

all_if : (t : Row → Bool) (o : Option Row) (rest : List Row) → IfSome o (λ r. t r ≡ true) → list_all t rest ≡ true
    → list_all t (cons_option o rest) ≡ true
all_if t None rest h all = all
all_if t (Some r) rest h all = and_from (t r) _ h all

rows_valid : (d : Vnfd) (aspect : Data) (policies : List Named) (n k : ℕ) (xs : List Named) → n + length xs ≡ length d.vdus
    → length (steps aspect) ≡ k
    → list_all (is_valid_row d k) (filter_map (λ v. row_of aspect policies v.0 v.1.0) (enumerate_from n xs)) ≡ true
rows_valid d aspect policies n k [] e many = refl
rows_valid d aspect policies n k (x ∷ xs) e many =
    all_if (is_valid_row d k) (row_of aspect policies n x.0) _ (row_valid d aspect policies n k x.0
    (lt-ltb n (length d.vdus) (omega (arith, e))) many)
    (rows_valid d aspect policies (n + 1) k xs (omega (arith, e)) many)

-- an aspect that passes is valid, in a descriptor with so many VDUs
pub aspect_valid : (d : Vnfd) (vdus policies : List Named) (a : Named) → length d.vdus ≡ length vdus → steps_refusal a ≡ None
    → is_given_name a.0 ≡ true
    → is_valid_aspect d (aspect_of vdus policies a) ≡ true
aspect_valid d vdus policies a same passes given =
    let mine = policies_for a.0 policies in
    and_from _ _ (and_from _ _ (and_from _ _ (and_from _ _ (given_kept a.0 given) (maximum_small a.1))
    (steps_valid (maximum a.1) (option_map_or entries_of (get (codes "step_deltas") a.1) [])))
    (rows_rise a.1 mine 0 vdus)) (rows_valid d a.1 mine 0 (step_count a.1) vdus (omega (arith, same)) (step_count_is a passes))

aspects_valid_from : (d : Vnfd) (vdus policies : List Named) (xs : List Named) → length d.vdus ≡ length vdus
    → first_failing steps_refusal xs ≡ None
    → list_all (λ a. is_given_name a.0) xs ≡ true → list_all (is_valid_aspect d) (map (aspect_of vdus policies) xs) ≡ true
aspects_valid_from d vdus policies [] same passes given = refl
aspects_valid_from d vdus policies (x ∷ xs) same passes given =
    let parts = none_parts (steps_refusal x) _ passes in
    let names = and_parts (is_given_name x.0) _ given in
    and_from (is_valid_aspect d (aspect_of vdus policies x)) _ (aspect_valid d vdus policies x same parts.0 names.0)
    (aspects_valid_from d vdus policies xs same parts.1 names.1)

-- ---- all aspects

pub aspects_pass : (vdus policies : List Named) → policies_refusal vdus policies ≡ None → aspects_refusal policies ≡ None
unfolding policies_refusal
aspects_pass vdus policies passes = (none_parts (aspects_refusal policies) _ passes).0

few : (vdus policies : List Named) → policies_refusal vdus policies ≡ None → nat_le (length (aspects policies)) 16 ≡ true
few vdus policies passes =
    let behind_form = (none_parts (form_refusal (of_type scaling_aspects policies)) _ (aspects_pass vdus policies passes)).1 in
    at_most 16 (codes "aspects") (aspects policies) (none_parts (too_many 16 (codes "aspects") (aspects policies)) _ behind_form).0

length_of : {A : Type 0} (f : Named → A) (xs : List Named) → length (map f xs) ≡ length xs
length_of f [] = refl
length_of f (x ∷ xs) = ap suc (length_of f xs)

-- what passes has at most 16 aspects
pub aspects_few : (vdus policies : List Named) → policies_refusal vdus policies ≡ None
    → nat_le (length (aspects_of vdus policies)) 16 ≡ true
unfolding aspects_of
aspects_few vdus policies passes =
    subst (λ (n : ℕ). nat_le n 16 ≡ true) (sym (length_of (aspect_of vdus (of_type aspect_deltas policies)) (aspects policies)))
    (few vdus policies passes)

-- its aspects are valid, in a descriptor with so many VDUs
pub aspects_valid : (d : Vnfd) (vdus policies : List Named) → length d.vdus ≡ length vdus → policies_refusal vdus policies ≡ None
    → list_all (λ a. is_given_name a.0) (aspects policies) ≡ true → list_all (is_valid_aspect d) (aspects_of vdus policies) ≡ true
unfolding aspects_of
aspects_valid d vdus policies same passes given =
    let behind_form = (none_parts (form_refusal (of_type scaling_aspects policies)) _ (aspects_pass vdus policies passes)).1 in
    let behind_count = (none_parts (too_many 16 (codes "aspects") (aspects policies)) _ behind_form).1 in
    let behind_maxima = (none_parts (first_failing maximum_refusal (aspects policies)) _ behind_count).1 in
    aspects_valid_from d vdus (of_type aspect_deltas policies) (aspects policies) same
    (none_parts (first_failing steps_refusal (aspects policies)) None behind_maxima).0 given

-- ---- initial deltas

or_else : (m : ℕ) (a b : Option ℕ) → IfSome a (λ n. nat_le n m ≡ true) → IfSome b (λ n. nat_le n m ≡ true)
    → IfSome (option_or a b) (λ n. nat_le n m ≡ true)
or_else m None b h k = k
or_else m (Some x) b h k = h

or_one : (o : Option ℕ) → IfSome o (λ n. nat_le n 65535 ≡ true) → nat_le (unwrap_or o 1) 65535 ≡ true
or_one None h = refl
or_one (Some n) h = h

instances_small : (d : Data) → IfSome (instances d) (λ n. nat_le n 65535 ≡ true)
instances_small d = some_then (whole 0 65535) _ (get (codes "number_of_instances") d) (whole_at_most 0 65535)

given_if : (b : Bool) (o : Option ℕ) → IfSome o (λ n. nat_le n 65535 ≡ true) → IfSome (cond b o None) (λ n. nat_le n 65535 ≡ true)
given_if true o h = h
given_if false o h = tt

given_small : (level vdu : List ℕ) (policies : List Named) → IfSome (first_given level vdu policies) (λ n. nat_le n 65535 ≡ true)
given_small level vdu [] = tt
given_small level vdu (p ∷ policies) =
    or_else 65535 (given_at level vdu p.1) _ (given_if (aims_at vdu p.1) _
    (some_then instances _ (at (codes "properties" ∷ codes "levels" ∷ level ∷ []) p.1) instances_small))
    (given_small level vdu policies)

initial_small : (vdu : List ℕ) (policies : List Named) → IfSome (delta_of vdu policies) (λ n. nat_le n 65535 ≡ true)
initial_small vdu policies =
    map_then _ (λ n. nat_le n 65535 ≡ true) (find (λ p. aims_at vdu p.1) policies)
    (λ p. or_zero 65535 _ (some_then instances _ (property (codes "initial_delta") p.1) instances_small))

-- an initial delta is within its limit
pub initial_valid : (policies : List Named) (vdu : List ℕ) → nat_le (initial_of policies vdu) 65535 ≡ true
unfolding initial_of
initial_valid policies vdu =
    let own = delta_of vdu (of_type initial_delta policies) in
    let given = first_given (default_name policies) vdu (of_type vdu_levels policies) in
    or_one (option_or own given)
    (or_else 65535 own given (initial_small vdu (of_type initial_delta policies))
    (given_small (default_name policies) vdu (of_type vdu_levels policies)))

-- ---- levels

numbers_within : (d : Data) (all : List Named) (vdus policies : List Named)
    → list_all (λ x. nat_le x.1 x.0.maximum) (zip (map (aspect_of vdus policies) all) (map (number_at d) all)) ≡ true
numbers_within d [] vdus policies = refl
numbers_within d (a ∷ all) vdus policies =
    and_from (nat_le (number_at d a) (maximum a.1)) _
    (or_zero (maximum a.1) _ (some_then (whole 0 (maximum a.1)) _ (at (codes "scale_info" ∷ a.0 ∷ codes "scale_level" ∷ []) d)
    (whole_at_most 0 (maximum a.1))))
    (numbers_within d all vdus policies)

same_many : {A B : Type 0} (f : Named → A) (g : Named → B) (xs : List Named) → length (map f xs) ≡ length (map g xs)
same_many f g [] = refl
same_many f g (x ∷ xs) = ap suc (same_many f g xs)

-- a level whose name is given is valid, in a descriptor with these aspects
pub level_valid : (d : Vnfd) (vdus deltas all : List Named) (l : Named) → d.aspects ≡ map (aspect_of vdus deltas) all
    → is_given_name l.0 ≡ true
    → is_valid_level d (level_of all l) ≡ true
level_valid d vdus deltas all l is given =
    and_from _ _ (given_kept l.0 given)
    (subst (λ (xs : List Aspect). ((length (map (number_at l.1) all) == length xs)
    && list_all (λ x. nat_le x.1 x.0.maximum) (zip xs (map (number_at l.1) all))) ≡ true) (sym is)
    (and_from _ _ (eq-eqb _ _ (same_many (number_at l.1) (aspect_of vdus deltas) all)) (numbers_within l.1 all vdus deltas)))
