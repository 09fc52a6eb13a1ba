-- Laws of ranges that loops cite.
use Rattle.std.proofs.Common.{◌≡◌, ℕ, ◌+◌, ◌-◌, ◌<◌, ◌≤◌, ◌*◌, suc, List, [], ◌∷◌, ◌++◌, ap, arith, append_assoc, map, flat_map, refl, sym}
use Rattle.std.proofs.Common.{◌∙◌}
use Rattle.std.proofs.lemmas.Nat.{mul-le}
use Rattle.std.specs.List.{range_with_len}

shifted : (first at count : ℕ) → at < count → range_with_len (first + at) (count - at)
    ≡ (first + at) ∷ range_with_len (first + (at + 1)) (count - (at + 1))
shifted first at count h =
    let e : count - at ≡ suc (count - (at + 1)) = omega arith in
    let s : first + at + 1 ≡ first + (at + 1) = omega arith in
    ap (range_with_len (first + at)) e ∙ ap (λ n. (first + at) ∷ range_with_len n (count - (at + 1))) s

pub map_both : {A B : Type 0} → (f : A → B) (xs ys : List A) → map f (xs ++ ys) ≡ map f xs ++ map f ys
map_both f [] ys = refl
map_both f (x ∷ xs) ys = ap (λ zs. f x ∷ zs) (map_both f xs ys)

-- what the numbers so far give, and then the next one, is what the numbers give
pub made_on : {A B : Type 0} → (f : A → B) (g : ℕ → List A) (made now whole : List B) (first at count : ℕ) → at < count
    → now ≡ made ++ map f (g (first + at))
    → made ++ map f (flat_map g (range_with_len (first + at) (count - at))) ≡ whole
    → now ++ map f (flat_map g (range_with_len (first + (at + 1)) (count - (at + 1)))) ≡ whole
made_on f g made now whole first at count h is e =
    let rest = range_with_len (first + (at + 1)) (count - (at + 1)) in
    ap (λ ys. ys ++ map f (flat_map g rest)) is
    ∙ (append_assoc made (map f (g (first + at))) (map f (flat_map g rest))
    ∙ (ap (λ ys. made ++ ys) (sym (map_both f (g (first + at)) (flat_map g rest)))
    ∙ (ap (λ ns. made ++ map f (flat_map g ns)) (sym (shifted first at count h)) ∙ e)))

one_more : (at count : ℕ) → at < count → range_with_len at (count - at) ≡ at ∷ range_with_len (at + 1) (count - (at + 1))
one_more at count h = let e : count - at ≡ suc (count - (at + 1)) = omega arith in ap (range_with_len at) e

-- numbers up to one, and then the next ones, are all the numbers
pub range_on : (numbers whole : List ℕ) (at count : ℕ) → at < count → numbers ++ range_with_len at (count - at) ≡ whole
    → (numbers ++ at ∷ []) ++ range_with_len (at + 1) (count - (at + 1)) ≡ whole
range_on numbers whole at count h e =
    append_assoc numbers (at ∷ []) (range_with_len (at + 1) (count - (at + 1)))
    ∙ ap (λ (ns : List ℕ). numbers ++ ns) (sym (one_more at count h)) ∙ e

-- the definitions of a VDU's new machines are no more than this
pub parts_bound : (machines parts : ℕ) → machines ≤ 1048625535 → parts ≤ 385 → machines * parts ≤ 403720830975
parts_bound machines parts h k = mul-le machines parts 1048625535 385 h k

-- what the machines of a holding would have, were they whole, is no more than this
pub whole_bound : (machines parts : ℕ) → machines ≤ 2500 → parts ≤ 385 → machines * parts ≤ 962500
whole_bound machines parts h k = mul-le machines parts 2500 385 h k
