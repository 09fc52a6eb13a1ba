-- The descriptors of instances, told by places in a list of names.
use Rattle.std.proofs.Common.{◌≡◌, ◌-◌, ◌++◌, ◌==◌, ◌∙◌, ℕ, List, [], ◌∷◌, Bool, true, false, cond, Some, None, Option, option_map, ap, sym}
use Rattle.std.proofs.Common.{refl, length, slice_get, arith}
use Rattle.std.specs.Prelude.{unwrap_or}
use Rattle.std.proofs.lemmas.List.{map-append}
use Rattle.std.proofs.lemmas.Option.{slice_get-map}
use Rattle.occ_table.specs.Descriptors.{NamesEach, name_at, named_by, numbered, vnfd_in}
use Rattle.occ_table.proofs.Updates.{get-front, get-last}

-- a name that comes last leaves what the others tell
named_front : (names : List (List ℕ)) (v : List ℕ) (ns : List ℕ) → NamesEach names ns → named_by (names ++ v ∷ []) ns ≡ named_by names ns
named_front names v [] each = refl
named_front names v (n ∷ ns) each =
    ap (λ (x : Option (List ℕ)). unwrap_or x [] ∷ named_by (names ++ v ∷ []) ns) (get-front n names v (λ is. omega (arith, is, each.0)))
    ∙ ap (λ (xs : List (List ℕ)). name_at names n ∷ xs) (named_front names v ns each.1)

-- one number more, of a name that is there
pub named_again : (names : List (List ℕ)) (v : List ℕ) (ns : List ℕ) (n : ℕ) → slice_get names n ≡ Some v
    → named_by names (ns ++ n ∷ []) ≡ named_by names ns ++ v ∷ []
named_again names v ns n is =
    map-append (name_at names) ns (n ∷ []) ∙ ap (λ (x : Option (List ℕ)). named_by names ns ++ unwrap_or x [] ∷ []) is

-- one number more, of a name that comes last
pub named_anew : (names : List (List ℕ)) (v : List ℕ) (ns : List ℕ) (n : ℕ) → n ≡ length names → NamesEach names ns
    → named_by (names ++ v ∷ []) (ns ++ n ∷ []) ≡ named_by names ns ++ v ∷ []
named_anew names v ns n is each =
    named_again (names ++ v ∷ []) v ns n (get-last n names v is) ∙ ap (λ (xs : List (List ℕ)). xs ++ v ∷ []) (named_front names v ns each)

-- the name of the instance of a number, by its place
pub named_at : (names : List (List ℕ)) (ns : List ℕ) (i : ℕ) → unwrap_or (option_map (name_at names) (numbered i ns)) []
    ≡ vnfd_in i (named_by names ns)
named_at names ns i = by_zero (i == 0) where
  by_zero : (b : Bool) → unwrap_or (option_map (name_at names) (cond b None (slice_get ns (i - 1)))) []
      ≡ unwrap_or (cond b None (slice_get (named_by names ns) (i - 1))) []
  by_zero true = refl
  by_zero false = ap (λ (y : Option (List ℕ)). unwrap_or y []) (sym (slice_get-map (name_at names) ns (i - 1)))
