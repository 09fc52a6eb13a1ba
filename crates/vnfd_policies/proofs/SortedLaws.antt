-- What passes the checks of policies has its aspects and its levels in byte order of their names, each once.
use Rattle.std.proofs.Common.{◌≡◌, codes, ◌++◌, ℕ, List, [], ◌∷◌, map, Bool, true, Option, Some, None, refl, ap, sym, ◌∙◌, subst, IfSome}
use Rattle.std.proofs.Common.{append-nil}
use Rattle.std.proofs.lemmas.Bool.{and_parts}
use Rattle.std.specs.List.{flat_map, list_all}
use Rattle.serde_json.specs.Data.{Data}
use Rattle.lcm_model.specs.Descriptors.{are_sorted}
use Rattle.vnfd_document.specs.Json.{Named, members_of}
use Rattle.vnfd_document.specs.Names.{is_given_name, name_or_empty}
use Rattle.vnfd_document.specs.Order.{AllInOrder, InOrder}
use Rattle.vnfd_document.specs.Places.{of_type, property}
use Rattle.vnfd_document.proofs.NameOrder.{in_order-at, in_order-of_type, rises-members, sorted-names}
use Rattle.vnfd_policies.specs.Policies.{aspect_deltas, instantiation_levels, members_at, scaling_aspects}
use Rattle.vnfd_policies.specs.Aspects.{aspects, aspects_refusal, form_refusal}
use Rattle.vnfd_policies.specs.Levels.{level_of, levels_by, levels_in, levels_of, policies_with_levels_refusal}
use Rattle.vnfd_policies.specs.Refusal.{policies_refusal, policy_names}
use Rattle.vnfd_policies.specs.Rows.{aspect_of, aspects_of}
use Rattle.vnfd_policies.proofs.LevelLaws.{all_front, levels_pass}
use Rattle.vnfd_policies.proofs.ListLaws.{names_given}
use Rattle.vnfd_document.proofs.CheckLaws.{none_parts}
use Rattle.vnfd_policies.proofs.ValidLaws.{aspects_pass}

names_of : {A : Type 0} (f : Named → A) (name : A → List ℕ) (xs : List Named) → map name (map f xs) ≡ map (λ x. name (f x)) xs
names_of f name [] = refl
names_of f name (x ∷ xs) = ap (λ (ns : List (List ℕ)). name (f x) ∷ ns) (names_of f name xs)

members_sorted : (o : Option Data) → IfSome o InOrder → list_all (λ x. is_given_name x.0) (members_at o) ≡ true
    → are_sorted (map (λ x. name_or_empty x.0) (members_at o)) ≡ true
members_sorted None h given = refl
members_sorted (Some d) h given = sorted-names (members_of d) (rises-members d h) given

-- members of one policy whose names are given are sorted
one_sorted : (name : List ℕ) (p : Data) → InOrder p → list_all (λ x. is_given_name x.0) (members_at (property name p)) ≡ true
    → are_sorted (map (λ x. name_or_empty x.0) (members_at (property name p))) ≡ true
one_sorted name p h given = members_sorted (property name p) (in_order-at (codes "properties" ∷ name ∷ []) p h) given

aspects_sorted_by : (with_aspects : List Named) → AllInOrder with_aspects → form_refusal with_aspects ≡ None
    → list_all (λ x. is_given_name x.0) (flat_map (λ p. members_at (property (codes "aspects") p.1)) with_aspects) ≡ true
    → are_sorted (map (λ x. name_or_empty x.0) (flat_map (λ p. members_at (property (codes "aspects") p.1)) with_aspects)) ≡ true
aspects_sorted_by [] h passes given = refl
aspects_sorted_by (p ∷ []) h passes given =
    let mine = members_at (property (codes "aspects") p.1) in
    subst (λ (xs : List Named). are_sorted (map (λ x. name_or_empty x.0) xs) ≡ true) (sym (append-nil mine))
    (one_sorted (codes "aspects") p.1 h.0 (all_front (λ x. is_given_name x.0) mine [] given))
aspects_sorted_by (p ∷ q ∷ more) h passes given = let no : ⊥ = cc in absurd no

-- the aspects are in byte order of their names, each once
pub aspects_sorted : (vdus policies : List Named) → AllInOrder policies → policies_refusal vdus policies ≡ None
    → list_all (λ a. is_given_name a.0) (aspects policies) ≡ true → are_sorted (map (λ a. a.name) (aspects_of vdus policies)) ≡ true
unfolding aspects_of
aspects_sorted vdus policies h passes given =
    let form = (none_parts (form_refusal (of_type scaling_aspects policies)) _ (aspects_pass vdus policies passes)).0 in
    subst (λ (names : List (List ℕ)). are_sorted names ≡ true)
    (sym (names_of (aspect_of vdus (of_type aspect_deltas policies)) (λ a. a.name) (aspects policies)))
    (aspects_sorted_by (of_type scaling_aspects policies) (in_order-of_type scaling_aspects policies h) form given)

levels_sorted_by : (all with_levels : List Named) → AllInOrder with_levels → policies_with_levels_refusal all with_levels ≡ None
    → list_all (λ x. is_given_name x.0) (flat_map (λ p. levels_in p.1) with_levels) ≡ true
    → are_sorted (map (λ l. l.name) (levels_by all with_levels)) ≡ true
levels_sorted_by all [] h passes given = refl
levels_sorted_by all (p ∷ []) h passes given =
    subst (λ (names : List (List ℕ)). are_sorted names ≡ true) (sym (names_of (level_of all) (λ l. l.name) (levels_in p.1)))
    (one_sorted (codes "levels") p.1 h.0 (all_front (λ x. is_given_name x.0) (levels_in p.1) [] given))
levels_sorted_by all (p ∷ q ∷ more) h passes given = let no : ⊥ = cc in absurd no

-- the levels are in byte order of their names, each once
pub levels_sorted : (vdus policies : List Named) → AllInOrder policies → policies_refusal vdus policies ≡ None
    → list_all is_given_name (policy_names policies) ≡ true → are_sorted (map (λ l. l.name) (levels_of policies)) ≡ true
unfolding levels_of policy_names
levels_sorted vdus policies h passes given =
    let of_levels = flat_map (λ p. levels_in p.1) (of_type instantiation_levels policies) in
    levels_sorted_by (aspects policies) (of_type instantiation_levels policies) (in_order-of_type instantiation_levels policies h)
    (levels_pass vdus policies passes)
    (and_parts (list_all (λ a. is_given_name a.0) (aspects policies)) _ (sym (names_given (aspects policies) of_levels) ∙ given)).1
