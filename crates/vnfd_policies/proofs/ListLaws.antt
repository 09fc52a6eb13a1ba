-- Laws on the lists that definitions look at.
use Rattle.std.proofs.Common.{◌≡◌, ℕ, List, [], ◌∷◌, ◌++◌, length, map, take, drop, refl, ap, suc, sym, ◌∙◌, codes}
use Rattle.serde_json.specs.Data.{Data}
use Rattle.serde_json.specs.View.{items_view, items_of}
use Rattle.serde_json.specs.declared.value.Value.{Value}
use Rattle.std.specs.List.{flat_map, list_all}
use Rattle.std.specs.Prelude.{Bool, true, false, ◌&&◌, replicate}
use Rattle.vnfd_document.specs.declared.entries.Entry.{Entry}
use Rattle.vnfd_document.specs.Json.{Named, items_in}
use Rattle.vnfd_document.specs.Names.{is_given_name}
use Rattle.vnfd_document.specs.Places.{of_type, property}
use Rattle.vnfd_document.specs.Seen.{seen}
use Rattle.vnfd_policies.specs.Policies.{instantiation_levels, members_at, scaling_aspects}
use Rattle.vnfd_policies.specs.Refusal.{policy_names}

-- a list of values has an entry for each
pub count_items : (values : List Value) → length (items_in (items_view values)) ≡ length values
count_items [] = refl
count_items (value ∷ values) = ap suc (count_items values)

-- the names of some things and of others are given where those of both are
pub names_given : (xs ys : List Named)
    → list_all is_given_name (map (λ x. x.0) xs ++ map (λ y. y.0) ys)
    ≡ (list_all (λ x. is_given_name x.0) xs && list_all (λ y. is_given_name y.0) ys)
names_given [] [] = refl
names_given [] (y ∷ ys) = ap (λ (b : Bool). is_given_name y.0 && b) (names_given [] ys)
names_given (x ∷ xs) ys = ap (λ (b : Bool). is_given_name x.0 && b) (names_given xs ys) ∙ sym (and_assoc (is_given_name x.0) _ _)
  where
    and_assoc : (a b c : Bool) → ((a && b) && c) ≡ (a && (b && c))
    and_assoc true b c = refl
    and_assoc false b c = refl

-- the names of all aspects and levels are given where those of the policies with aspects and of those with levels are
pub names_given_by : (policies with_aspects with_levels : List Named) → with_aspects ≡ of_type scaling_aspects policies
    → with_levels ≡ of_type instantiation_levels policies
    → (list_all (λ m. is_given_name m.0) (flat_map (λ p. members_at (property (codes "aspects") p.1)) with_aspects)
    && list_all (λ m. is_given_name m.0) (flat_map (λ p. members_at (property (codes "levels") p.1)) with_levels))
    ≡ list_all is_given_name (policy_names policies)
unfolding policy_names
names_given_by policies with_aspects with_levels aspects_are levels_are =
    ap (λ (xs : List Named). list_all (λ m. is_given_name m.0) (flat_map (λ p. members_at (property (codes "aspects") p.1)) xs)
    && list_all (λ m. is_given_name m.0) (flat_map (λ p. members_at (property (codes "levels") p.1)) with_levels)) aspects_are
    ∙ ap (λ (xs : List Named). list_all (λ m. is_given_name m.0) (flat_map (λ p. members_at (property (codes "aspects") p.1))
    (of_type scaling_aspects policies))
    && list_all (λ m. is_given_name m.0) (flat_map (λ p. members_at (property (codes "levels") p.1)) xs)) levels_are
    ∙ sym (names_given (flat_map (λ p. members_at (property (codes "aspects") p.1)) (of_type scaling_aspects policies))
    (flat_map (λ p. members_at (property (codes "levels") p.1)) (of_type instantiation_levels policies)))
