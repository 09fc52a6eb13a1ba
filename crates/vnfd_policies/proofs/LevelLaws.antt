-- What passes the checks of policies has valid levels.
use Rattle.std.proofs.Common.{◌≡◌, ◌+◌, ◌<◌, ◌≤◌, codes, ◌&&◌, ◌==◌, ◌++◌, ℕ, List, [], ◌∷◌, length, map, Bool, true, false, cond, Option}
use Rattle.std.proofs.Common.{Some, None, unwrap_or, option_and_then, nat_le, nat_lt, nat_eq, suc, refl, ap, sym, ◌∙◌, subst, arith, IfSome}
use Rattle.std.proofs.lemmas.List.{length-map}
use Rattle.std.proofs.lemmas.Bool.{and_from, and_parts, le-leb, lt-ltb, leb-true, ltb-true, eq-eqb}
use Rattle.std.specs.List.{flat_map, list_all, position_from}
use Rattle.std.specs.Option.{option_or}
use Rattle.std.specs.Prelude.{zip}
use Rattle.std.specs.Str.{bytes_eq}
use Rattle.lcm_events.specs.declared.descriptor.Aspect.{Aspect}
use Rattle.lcm_events.specs.declared.descriptor.Level.{Level}
use Rattle.lcm_events.specs.declared.descriptor.Vnfd.{Vnfd}
use Rattle.lcm_model.specs.Descriptors.{is_valid_level}
use Rattle.vnfd_document.specs.Checks.{first_failing}
use Rattle.vnfd_document.specs.Json.{Named, within}
use Rattle.vnfd_document.specs.Names.{is_given_name}
use Rattle.vnfd_document.specs.Places.{of_type, property}
use Rattle.vnfd_policies.specs.Policies.{aspect_deltas, instantiation_levels, too_many}
use Rattle.vnfd_policies.specs.Aspects.{aspects, aspects_refusal}
use Rattle.vnfd_policies.specs.Deltas.{all_deltas_refusal}
use Rattle.vnfd_policies.specs.Initial.{initials_refusal}
use Rattle.vnfd_policies.specs.Levels.{default_by, default_name_in, default_of, default_refusal, level_of, level_refusal, levels_by}
use Rattle.vnfd_policies.specs.Levels.{levels_in, levels_of, levels_refusal, none_refusal, policies_with_levels_refusal}
use Rattle.vnfd_policies.specs.Refusal.{policies_refusal, policy_names}
use Rattle.vnfd_policies.specs.Rows.{aspect_of, aspects_of}
use Rattle.vnfd_policies.proofs.ListLaws.{names_given}
use Rattle.vnfd_document.proofs.CheckLaws.{none_parts, within_if}
use Rattle.vnfd_policies.proofs.ValidLaws.{at_most, level_valid}

pub levels_pass : (vdus policies : List Named) → policies_refusal vdus policies ≡ None → levels_refusal policies ≡ None
unfolding policies_refusal
levels_pass vdus policies passes =
    let behind_aspects = (none_parts (aspects_refusal policies) _ passes).1 in
    let behind_deltas = (none_parts (all_deltas_refusal vdus policies) _ behind_aspects).1 in
    let behind_initials = (none_parts (initials_refusal vdus policies) _ behind_deltas).1 in
    (none_parts (levels_refusal policies) None behind_initials).0

-- ---- how many levels

some_level : (levels : List Named) → none_refusal levels ≡ None → nat_lt 0 (length levels) ≡ true
some_level [] h = let no : ⊥ = cc in absurd no
some_level (l ∷ levels) h = lt-ltb 0 (length (l ∷ levels)) (omega arith)

few_by : (all with_levels : List Named) → policies_with_levels_refusal all with_levels ≡ None
    → nat_le (length (levels_by all with_levels)) 64 ≡ true
few_by all [] h = refl
few_by all (p ∷ []) h =
    let behind_none = (none_parts (none_refusal (levels_in p.1)) _ h).1 in
    subst (λ (n : ℕ). nat_le n 64 ≡ true) (sym (length-map (levels_in p.1) (level_of all)))
    (at_most 64 (codes "levels") (levels_in p.1) (none_parts (too_many 64 (codes "levels") (levels_in p.1)) _ behind_none).0)
few_by all (p ∷ q ∷ more) h = let no : ⊥ = cc in absurd no

-- what passes has at most 64 levels
pub levels_few : (vdus policies : List Named) → policies_refusal vdus policies ≡ None → nat_le (length (levels_of policies)) 64 ≡ true
unfolding levels_of
levels_few vdus policies passes = few_by (aspects policies) (of_type instantiation_levels policies) (levels_pass vdus policies passes)

-- ---- the default level

position_if : (b : Bool) (i m : ℕ) (rest : Option ℕ) → nat_lt i m ≡ true → IfSome rest (λ n. nat_lt n m ≡ true)
    → IfSome (cond b (Some i) rest) (λ n. nat_lt n m ≡ true)
position_if true i m rest h k = h
position_if false i m rest h k = k

position_below : (t : Named → Bool) (i m : ℕ) (xs : List Named) → i + length xs ≡ m → IfSome (position_from t i xs) (λ n. nat_lt n m ≡ true)
position_below t i m [] e = tt
position_below t i m (x ∷ xs) e = position_if (t x) i m _ (lt-ltb i m (omega (arith, e))) (position_below t (i + 1) m xs (omega (arith, e)))

within_below : (m : ℕ) (o : Option ℕ) → nat_lt 0 m ≡ true → IfSome o (λ n. nat_lt n m ≡ true)
    → nat_lt (unwrap_or (option_and_then (within 0 65535) o) 0) m ≡ true
within_below m None some h = some
within_below m (Some n) some h = if_below (nat_le 0 n && nat_le n 65535) n m some h where
  if_below : (b : Bool) (n m : ℕ) → nat_lt 0 m ≡ true → nat_lt n m ≡ true → nat_lt (unwrap_or (cond b (Some n) None) 0) m ≡ true
  if_below true n m some h = h
  if_below false n m some h = some

default_below_by : (all with_levels : List Named) → policies_with_levels_refusal all with_levels ≡ None
    → nat_lt (default_by with_levels) (length (levels_by all with_levels)) ≡ true
default_below_by all [] h = refl
default_below_by all (p ∷ []) h =
    let named = λ (l : Named). bytes_eq l.0 (default_name_in p.1) in
    subst (λ (n : ℕ). nat_lt (default_by (p ∷ [])) n ≡ true) (sym (length-map (levels_in p.1) (level_of all)))
    (within_below (length (levels_in p.1)) (position_from named 0 (levels_in p.1))
    (some_level (levels_in p.1) (none_parts (none_refusal (levels_in p.1)) _ h).0)
    (position_below named 0 (length (levels_in p.1)) (levels_in p.1) (omega arith)))
default_below_by all (p ∷ q ∷ more) h = let no : ⊥ = cc in absurd no

-- its default level is one of its levels
pub default_below : (vdus policies : List Named) → policies_refusal vdus policies ≡ None
    → nat_lt (default_of policies) (length (levels_of policies)) ≡ true
unfolding levels_of default_of
default_below vdus policies passes = default_below_by (aspects policies) (of_type instantiation_levels policies)
    (levels_pass vdus policies passes)

-- ---- each level

zeros_within : (vdus deltas all : List Named) → list_all (λ x. nat_le x.1 x.0.maximum)
    (zip (map (aspect_of vdus deltas) all) (map (λ a. 0) all)) ≡ true
zeros_within vdus deltas [] = refl
zeros_within vdus deltas (a ∷ all) = and_from _ _ (le-leb 0 _ (omega arith)) (zeros_within vdus deltas all)

zero_level_valid : (d : Vnfd) (vdus deltas all : List Named) → d.aspects ≡ map (aspect_of vdus deltas) all
    → is_valid_level d (record { name = codes "default"; numbers = map (λ a. 0) all }) ≡ true
zero_level_valid d vdus deltas all is =
    subst (λ (xs : List Aspect). ((length (map {B = ℕ} (λ a. 0) all) == length xs)
    && list_all (λ x. nat_le x.1 x.0.maximum) (zip xs (map {B = ℕ} (λ a. 0) all))) ≡ true) (sym is)
    (and_from _ _ (eq-eqb _ _ (length-map all (λ a. 0) ∙ sym (length-map all (aspect_of vdus deltas)))) (zeros_within vdus deltas all))

each_level_valid : (d : Vnfd) (vdus deltas all : List Named) (xs : List Named) → d.aspects ≡ map (aspect_of vdus deltas) all
    → list_all (λ l. is_given_name l.0) xs ≡ true
    → list_all (is_valid_level d) (map (level_of all) xs) ≡ true
each_level_valid d vdus deltas all [] is given = refl
each_level_valid d vdus deltas all (l ∷ xs) is given =
    let names = and_parts (is_given_name l.0) _ given in
    and_from _ _ (level_valid d vdus deltas all l is names.0) (each_level_valid d vdus deltas all xs is names.1)

pub all_front : (t : Named → Bool) (xs ys : List Named) → list_all t (xs ++ ys) ≡ true → list_all t xs ≡ true
all_front t [] ys h = refl
all_front t (x ∷ xs) ys h = let parts = and_parts (t x) _ h in and_from (t x) _ parts.0 (all_front t xs ys parts.1)

levels_valid_by : (d : Vnfd) (vdus deltas all with_levels : List Named) → d.aspects ≡ map (aspect_of vdus deltas) all
    → list_all (λ l. is_given_name l.0) (flat_map (λ p. levels_in p.1) with_levels) ≡ true
    → list_all (is_valid_level d) (levels_by all with_levels) ≡ true
levels_valid_by d vdus deltas all [] is given = and_from _ true (zero_level_valid d vdus deltas all is) refl
levels_valid_by d vdus deltas all (p ∷ more) is given =
    each_level_valid d vdus deltas all (levels_in p.1) is (all_front (λ l. is_given_name l.0) (levels_in p.1) _ given)

-- its levels are valid, in a descriptor with its aspects
pub levels_valid : (d : Vnfd) (vdus policies : List Named) → d.aspects ≡ aspects_of vdus policies
    → list_all is_given_name (policy_names policies) ≡ true
    → list_all (is_valid_level d) (levels_of policies) ≡ true
unfolding levels_of aspects_of policy_names
levels_valid d vdus policies is given =
    let of_levels = flat_map (λ p. levels_in p.1) (of_type instantiation_levels policies) in
    levels_valid_by d vdus (of_type aspect_deltas policies) (aspects policies) (of_type instantiation_levels policies) is
    (and_parts (list_all (λ a. is_given_name a.0) (aspects policies)) _ (sym (names_given (aspects policies) of_levels) ∙ given)).1
