-- Lists of which every entry is shown, and pairs of which none is left.
use Rattle.std.proofs.Common.{◌≡◌, ◌++◌, ◌∙◌, List, [], ◌∷◌, ◌⊎◌, inl, inr, length, map, true, ap, append-nil, refl, sym}
use Rattle.std.specs.Prelude.{filter, zip}

-- a test that every entry passes leaves the list
pub filter-all : {A : Type 0} (xs : List A) → filter (λ x. true) xs ≡ xs
filter-all [] = refl
filter-all (x ∷ xs) = ap (λ rest. x ∷ rest) (filter-all xs)

-- there is no pair, where there is nothing to pair
zip-first_none : {A B : Type 0} (xs : List A) (ys : List B) → length xs ≡ 0 → zip xs ys ≡ []
zip-first_none [] ys none = refl
zip-first_none (x ∷ xs) ys none = cc

zip-second_none : {A B : Type 0} (xs : List A) (ys : List B) → length ys ≡ 0 → zip xs ys ≡ []
zip-second_none [] ys none = refl
zip-second_none (x ∷ xs) [] none = refl
zip-second_none (x ∷ xs) (y ∷ ys) none = cc

none_left : {C : Type 0} (all taken left : List C) → all ≡ taken ++ left → left ≡ [] → taken ≡ all
none_left all taken left are none = sym (are ∙ ap (λ l. taken ++ l) none ∙ append-nil taken)

-- what was made of the pairs, where one of the two lists has come to its end, was made of all
pub all_paired : {A B C X Y : Type 0} {P : X → Type 0} {Q : Y → Type 0} (f : A × B → C) (xs : List A) (ys : List B) (all taken : List C)
    → all ≡ taken ++ map f (zip xs ys)
    → (((x : X) × ((length xs ≡ 0) × P x)) ⊎ ((y : Y) × ((length ys ≡ 0) × Q y))) → taken ≡ all
all_paired f xs ys all taken are (inl end) = none_left all taken (map f (zip xs ys)) are (ap (map f) (zip-first_none xs ys end.1.0))
all_paired f xs ys all taken are (inr end) = none_left all taken (map f (zip xs ys)) are (ap (map f) (zip-second_none xs ys end.1.0))
