-- A list with one entry changed.
use Rattle.std.proofs.Common.{◌+◌, ◌∙◌, Bool, cond, map, take, drop, true, false, Some, slice_get, ◌≡◌, ◌≢◌, ◌≤◌, ◌<◌, ◌++◌, ℕ, List, []}
use Rattle.std.proofs.Common.{◌∷◌, zero, suc, refl, ap, length, get_or, set, arith}
use Rattle.occ_table.specs.Steps.{update}

-- nothing changes beyond the end
pub update-past : {A : Type 0} → (f : A → A) (n : ℕ) (xs : List A) → length xs ≤ n → update f n xs ≡ xs
update-past f n [] h = refl
update-past f zero (x ∷ xs) h = absurd (omega (arith, h))
update-past f (suc n) (x ∷ xs) h = ap (λ ys. x ∷ ys) (update-past f n xs (omega (arith, h)))

-- what is written at a place is what the change makes of the entry there
pub update-set : {A : Type 0} → (f : A → A) (n : ℕ) (xs : List A) (x : A) → n < length xs → x ≡ get_or xs n x
    → set xs n (f x) ≡ update f n xs
update-set f n [] x h e = absurd (omega (arith, h))
update-set f zero (y ∷ ys) x h e = ap (λ z. f z ∷ ys) e
update-set f (suc n) (y ∷ ys) x h e = ap (λ zs. y ∷ zs) (update-set f n ys x (omega (arith, h)) e)

-- the last entry changes
pub update-last : {A : Type 0} → (f : A → A) (n : ℕ) (xs : List A) (x : A) → n ≡ length xs → update f n (xs ++ x ∷ []) ≡ xs ++ f x ∷ []
update-last f zero [] x e = refl
update-last f (suc n) [] x e = absurd (omega (arith, e))
update-last f zero (y ∷ ys) x e = absurd (omega (arith, e))
update-last f (suc n) (y ∷ ys) x e = ap (λ zs. y ∷ zs) (update-last f n ys x (omega (arith, e)))

-- another entry than the last changes
pub update-front : {A : Type 0} → (f : A → A) (n : ℕ) (xs : List A) (x : A) → n ≢ length xs
    → update f n (xs ++ x ∷ []) ≡ update f n xs ++ x ∷ []
update-front f zero [] x e = absurd (e refl)
update-front f (suc n) [] x e = refl
update-front f zero (y ∷ ys) x e = refl
update-front f (suc n) (y ∷ ys) x e = ap (λ zs. y ∷ zs) (update-front f n ys x (λ same. e (ap suc same)))

-- two changes, one after the other
pub update-both : {A : Type 0} → (f g : A → A) (n : ℕ) (xs : List A) → update f n (update g n xs) ≡ update (λ x. f (g x)) n xs
update-both f g n [] = refl
update-both f g zero (x ∷ xs) = refl
update-both f g (suc n) (x ∷ xs) = ap (λ ys. x ∷ ys) (update-both f g n xs)

-- a change that leaves each entry
pub update-none : {A : Type 0} → (f : A → A) (n : ℕ) (xs : List A) → ((x : A) → f x ≡ x) → update f n xs ≡ xs
update-none f n [] e = refl
update-none f zero (x ∷ xs) e = ap (λ y. y ∷ xs) (e x)
update-none f (suc n) (x ∷ xs) e = ap (λ ys. x ∷ ys) (update-none f n xs e)

-- as many entries
pub update-length : {A : Type 0} → (f : A → A) (n : ℕ) (xs : List A) → length (update f n xs) ≡ length xs
update-length f n [] = refl
update-length f zero (x ∷ xs) = refl
update-length f (suc n) (x ∷ xs) = ap suc (update-length f n xs)

-- a place that isn't within is beyond the end
pub not_within : (n k : ℕ) → (n < k → false ≡ true) → k ≤ n
not_within n zero f = omega arith
not_within zero (suc k) f = let e : false ≡ true = f (omega arith) in cc
not_within (suc n) (suc k) f = let less : k ≤ n = not_within n k (λ h. f (omega (arith, h))) in omega (arith, less)

-- the last entry is found
pub get-last : {A : Type 0} → (n : ℕ) (xs : List A) (x : A) → n ≡ length xs → slice_get (xs ++ x ∷ []) n ≡ Some x
get-last zero [] x e = refl
get-last (suc n) [] x e = absurd (omega (arith, e))
get-last zero (y ∷ ys) x e = absurd (omega (arith, e))
get-last (suc n) (y ∷ ys) x e = get-last n ys x (omega (arith, e))

-- what is found at another place than the last
pub get-front : {A : Type 0} → (n : ℕ) (xs : List A) (x : A) → n ≢ length xs → slice_get (xs ++ x ∷ []) n ≡ slice_get xs n
get-front zero [] x e = absurd (e refl)
get-front (suc n) [] x e = refl
get-front zero (y ∷ ys) x e = refl
get-front (suc n) (y ∷ ys) x e = get-front n ys x (λ same. e (ap suc same))

mapped_more : {A : Type 0} → (f : A → A) (n : ℕ) (xs : List A) (d : A) → n < length xs
    → take (suc n) (set xs n (f (get_or xs n d))) ++ map f (drop (suc n) (set xs n (f (get_or xs n d)))) ≡ take n xs ++ map f (drop n xs)
mapped_more f n [] d h = absurd (omega (arith, h))
mapped_more f zero (x ∷ xs) d h = refl
mapped_more f (suc n) (x ∷ xs) d h = ap (λ ys. x ∷ ys) (mapped_more f n xs d (omega (arith, h)))

-- the front changed and the rest to be changed, before and after one entry is
pub mapped_step : {A : Type 0} → (f : A → A) (n : ℕ) (xs : List A) (d : A) → n < length xs
    → take (n + 1) (set xs n (f (get_or xs n d))) ++ map f (drop (n + 1) (set xs n (f (get_or xs n d)))) ≡ take n xs ++ map f (drop n xs)
mapped_step f n xs d h =
    let more : n + 1 ≡ suc n = omega arith in
    ap (λ (k : ℕ). take k (set xs n (f (get_or xs n d))) ++ map f (drop k (set xs n (f (get_or xs n d))))) more ∙ mapped_more f n xs d h

-- at the end all is changed
pub mapped_end : {A : Type 0} → (f : A → A) (n : ℕ) (xs : List A) → length xs ≤ n → take n xs ++ map f (drop n xs) ≡ xs
mapped_end f zero [] h = refl
mapped_end f (suc n) [] h = refl
mapped_end f zero (x ∷ xs) h = absurd (omega (arith, h))
mapped_end f (suc n) (x ∷ xs) h = ap (λ ys. x ∷ ys) (mapped_end f n xs (omega (arith, h)))

-- what a test chooses
pub chosen : {A : Type 0} → (b : Bool) (x y : A) → b ≡ true → x ≡ cond b x y
chosen true x y e = refl
chosen false x y e = cc

pub passed_over : {A : Type 0} → (b : Bool) (x y : A) → b ≡ false → y ≡ cond b x y
passed_over true x y e = cc
passed_over false x y e = refl
