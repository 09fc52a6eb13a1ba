-- Parts of lists of bytes, and what a read puts into an array.
use Rattle.std.proofs.Common.{◌≡◌, ◌∙◌, min, sym, ap, subst, ℕ, zero, suc, ◌+◌, ◌≤◌, ◌<◌, List, [], ◌∷◌, ◌++◌, length, take, drop, get_or}
use Rattle.std.proofs.Common.{arith}
use Rattle.std.proofs.lemmas.List.{take_at, take_min, length-take, get_or-drop, drop_more}

-- bytes of a part of a list are bytes
pub below_take : (n : ℕ) (xs : List ℕ) → ((i : ℕ) → get_or xs i 0 < 256) → (i : ℕ) → get_or (take n xs) i 0 < 256
below_take zero xs small i = omega arith
below_take (suc n) [] small i = omega arith
below_take (suc n) (x ∷ xs) small zero = small 0
below_take (suc n) (x ∷ xs) small (suc i) = below_take n xs (λ k. small (suc k)) i

pub below_drop : (n : ℕ) (xs : List ℕ) → ((i : ℕ) → get_or xs i 0 < 256) → (i : ℕ) → get_or (drop n xs) i 0 < 256
below_drop n xs small i = let P : ℕ → Type 0 = λ v. v < 256 in subst P (sym (get_or-drop n xs i 0)) (small (n + i))

-- four bytes in a row
pub four_at : (k : ℕ) (xs : List ℕ) → k + 4 ≤ length xs → take 4 (drop k xs)
    ≡ get_or xs k 0 ∷ get_or xs (k + 1) 0 ∷ get_or xs (k + 2) 0 ∷ get_or xs (k + 3) 0 ∷ []
four_at k xs room =
    let one : drop (k + 1) xs ≡ get_or xs (k + 1) 0 ∷ drop (k + 2) xs =
    drop_more xs (k + 1) 0 (omega arith) ∙ ap (λ v. get_or xs (k + 1) 0 ∷ drop v xs) (let e : k + 1 + 1 ≡ k + 2 = omega arith in e) in
    let two : drop (k + 2) xs ≡ get_or xs (k + 2) 0 ∷ drop (k + 3) xs =
    drop_more xs (k + 2) 0 (omega arith) ∙ ap (λ v. get_or xs (k + 2) 0 ∷ drop v xs) (let e : k + 2 + 1 ≡ k + 3 = omega arith in e) in
    ap (take 4) (drop_more xs k 0 (omega arith)
    ∙ ap (λ v. get_or xs k 0 ∷ v) (one ∙ ap (λ v. get_or xs (k + 1) 0 ∷ v)
    (two ∙ ap (λ v. get_or xs (k + 2) 0 ∷ v) (drop_more xs (k + 3) 0 (omega arith)))))

-- what a read to the front of an array gives: the first bytes from a place on, as many as the array holds or as there are
pub read_front : (held most : ℕ) (put zeros rest : List ℕ) → put ≡ take (length (take held zeros)) rest → held ≤ length zeros
    → held ≡ min most (length rest)
    → take held (put ++ drop held zeros) ≡ take most rest
read_front held most put zeros rest is room many =
    let e : length (take held zeros) ≡ held = (let t = length-take held zeros in omega arith) in
    let put_is : put ≡ take held rest = is ∙ ap (λ v. take v rest) e in
    let long : length put ≡ held = ap length put_is ∙ (let t = length-take held rest in omega arith) in
    take_at put (drop held zeros) held long ∙ put_is ∙ ap (λ v. take v rest) many ∙ take_min most rest
