-- What an ask aims at are levels of its descriptor.
use Rattle.std.proofs.Common.{◌≡◌, ℕ, ◌<◌, List, [], ◌∷◌, refl, arith, Bool, true, false, length, map, Some, None, Option, min, nat_le, zip}
use Rattle.std.proofs.Common.{find, ◌∙◌, sym, subst, get_or, nat_lt, Bor, option_copied}
use Rattle.std.specs.List.{list_all}
use Rattle.std.specs.Prelude.{IfSome, slice_get, option_map, if◌then◌else◌, ◌==◌}
use Rattle.std.specs.Option.{option_map_or}
use Rattle.lcm_events.specs.Same.{same_name}
use Rattle.lcm_events.specs.declared.descriptor.Aspect.{Aspect}
use Rattle.lcm_events.specs.declared.descriptor.Level.{Level}
use Rattle.lcm_events.specs.declared.descriptor.Vnfd.{Vnfd}
use Rattle.lcm_model.specs.Levels.{at_aspect, default_level, level_of, no_levels}
use Rattle.lcm_model.specs.Descriptors.{IsValid, are_levels_of, is_valid_level}
use Rattle.std.proofs.lemmas.Option.{get_or_from_slice_get, slice_get-get_or, slice_get_within}
use Rattle.std.proofs.lemmas.List.Folds.{list_all_at}
use Rattle.std.proofs.lemmas.Bool.Decides.{nat_tests}
use Rattle.lcm_model.proofs.ListLaws.{and_front, and_back, and_both}

-- one of two holds what both hold
pub choose : {A : Type 0} → (P : A → Type 0) (b : Bool) (x y : A) → P x → P y → P (if b then x else y)
choose P true x y hx hy = hx
choose P false x y hx hy = hy

found_level : (d : Vnfd) (name : List ℕ) (ls : List Level) → list_all (is_valid_level d) ls ≡ true
    → IfSome (option_map (λ l. l.numbers) (find (λ l. same_name l.name name) ls)) (λ numbers. are_levels_of d numbers ≡ true)
found_level d name [] h = tt
found_level d name (l ∷ ls) h =
    choose (λ (o : Option Level). IfSome (option_map (λ l. l.numbers) o) (λ numbers. are_levels_of d numbers ≡ true))
    (same_name l.name name) (Some l) (find (λ l. same_name l.name name) ls)
    (and_back _ _ (and_front _ _ h)) (found_level d name ls (and_back _ _ h))

-- the levels of a name are levels of the descriptor
pub named_levels : (d : Vnfd) (name : List ℕ) → IsValid d → IfSome (level_of d name) (λ numbers. are_levels_of d numbers ≡ true)
named_levels d name v = found_level d name d.levels v.levels

-- the same of a borrowed list of them
pub named_in_levels : (d : Vnfd) (name : List ℕ) (found : Option (Bor (List ℕ))) → IsValid d → option_copied found ≡ level_of d name
    → IfSome found (λ numbers. are_levels_of d numbers.now ≡ true)
named_in_levels d name None v e = tt
named_in_levels d name (Some numbers) v e = subst (λ (o : Option (List ℕ)). IfSome o (λ ns. are_levels_of d ns ≡ true)) (sym e)
    (named_levels d name v)

-- a level is within its aspect's maximum
abbrev within : Aspect × ℕ → Bool
within x = nat_le x.1 x.0.maximum

-- where one aspect's level is changed, there is still one for each aspect
pub at_length : (aspects : List Aspect) (name : List ℕ) (f : ℕ → ℕ) (levels : List ℕ) → length levels ≡ length aspects
    → length (at_aspect aspects name f levels) ≡ length aspects
at_length [] name f levels h = h
at_length (a ∷ aspects) name f [] h = absurd (omega (arith, h))
at_length (a ∷ aspects) name f (n ∷ levels) h = omega (arith, at_length aspects name f levels (omega (arith, h)))

at_within : (aspects : List Aspect) (name : List ℕ) (f : ℕ → ℕ) (levels : List ℕ) → list_all within (zip aspects levels) ≡ true
    → list_all within (zip aspects (at_aspect aspects name f levels)) ≡ true
at_within [] name f levels h = refl
at_within (a ∷ aspects) name f [] h = refl
at_within (a ∷ aspects) name f (n ∷ levels) h =
    let least : nat_le (min (f n) a.maximum) a.maximum ≡ true = grind (arith, nat_tests) in
    and_both _ _ (choose (λ k. nat_le k a.maximum ≡ true) (same_name a.name name) (min (f n) a.maximum) n least (and_front _ _ h))
    (at_within aspects name f levels (and_back _ _ h))

-- levels of a descriptor are as many as its aspects
pub levels_length : (d : Vnfd) (levels : List ℕ) → are_levels_of d levels ≡ true → length levels ≡ length d.aspects
levels_length d levels h =
    let e : (length levels == length d.aspects) ≡ true = and_front (length levels == length d.aspects)
    (list_all within (zip d.aspects levels)) h in
    grind (arith, nat_tests)

-- where one aspect's level is changed, they are levels of the descriptor as before
pub at_levels : (d : Vnfd) (name : List ℕ) (f : ℕ → ℕ) (levels : List ℕ) → are_levels_of d levels ≡ true
    → are_levels_of d (at_aspect d.aspects name f levels) ≡ true
at_levels d name f levels h =
    let e : length (at_aspect d.aspects name f levels) ≡ length d.aspects = at_length d.aspects name f levels (levels_length d levels h) in
    let same : (length (at_aspect d.aspects name f levels) == length d.aspects) ≡ true = grind (arith, nat_tests) in
    and_both _ _ same (at_within d.aspects name f levels (and_back (length levels == length d.aspects)
    (list_all within (zip d.aspects levels)) h))

zero_within : (aspects : List Aspect) → list_all within (zip aspects (map (λ a. 0) aspects)) ≡ true
zero_within [] = refl
zero_within (a ∷ aspects) = and_both _ _ (grind (arith, nat_tests)) (zero_within aspects)

zero_length : (aspects : List Aspect) → length {A = ℕ} (map (λ a. 0) aspects) ≡ length aspects
zero_length [] = refl
zero_length (a ∷ aspects) = omega (arith, zero_length aspects)

-- level 0 of every aspect are levels of the descriptor
pub zero_levels : (d : Vnfd) → are_levels_of d (no_levels d) ≡ true
zero_levels d =
    let e : length (no_levels d) ≡ length d.aspects = zero_length d.aspects in
    let same : (length (no_levels d) == length d.aspects) ≡ true = grind (arith, nat_tests) in
    and_both _ _ same (zero_within d.aspects)

true_not_false : true ≡ false → ⊥
true_not_false e = cc

all_at : {A : Type 0} → (p : A → Bool) (xs : List A) (n : ℕ) (x : A) (b : Bool) → p (get_or xs n x) ≡ b → n < length xs
    → list_all p xs ≡ true → p (get_or xs n x) ≡ true
all_at p xs n x true e h all = e
all_at p xs n x false e h all = absurd (true_not_false (sym all ∙ list_all_at p xs n x h e))

-- what is found by its number passes what all pass
pub found_passes : {A : Type 0} → (p : A → Bool) (xs : List A) (n : ℕ) (x : A) → slice_get xs n ≡ Some x → list_all p xs ≡ true → p x ≡ true
found_passes p xs n x e all =
    let same : get_or xs n x ≡ x = get_or_from_slice_get xs n x x e in
    let here : p (get_or xs n x) ≡ true = all_at p xs n x _ refl (slice_get_within xs n x e) all in
    subst (λ y. p y ≡ true) same here

no_entry : {A : Type 0} → (xs : List A) (n : ℕ) → n < length xs → slice_get xs n ≡ None → ⊥
no_entry [] n h e = absurd (omega (arith, h))
no_entry (x ∷ xs) n h e = let f : slice_get (x ∷ xs) n ≡ Some (get_or (x ∷ xs) n x) = slice_get-get_or (x ∷ xs) n x h in cc

default_found : (d : Vnfd) (o : Option Level) → slice_get d.levels d.default_level ≡ o → d.default_level < length d.levels
    → list_all (is_valid_level d) d.levels ≡ true → are_levels_of d (option_map_or (λ l. l.numbers) o []) ≡ true
default_found d None e h all = absurd (no_entry d.levels d.default_level h e)
default_found d (Some l) e h all = and_back _ _ (found_passes (is_valid_level d) d.levels d.default_level l e all)

-- the default levels are levels of the descriptor
pub default_levels : (d : Vnfd) → IsValid d → are_levels_of d (default_level d) ≡ true
default_levels d v =
    let last : nat_lt d.default_level (length d.levels) ≡ true = and_back _ _ v.counts in
    let known : d.default_level < length d.levels = grind (arith, nat_tests) in
    default_found d _ refl known v.levels
