-- What is wrong first, word by word.
use Rattle.std.proofs.Common.{◌≡◌, ◌≤◌, ◌+◌, ◌-◌, ℕ, List, [], ◌∷◌, ◌++◌, true, ap, ap₂, refl, subst, sym, ◌∙◌, length, drop, take, zero}
use Rattle.std.proofs.Common.{suc, arith}
use Rattle.std.specs.List.{slice_index_or}
use Rattle.std.proofs.lemmas.List.{length-drop, take_all}
use Rattle.command_line.specs.Words.{Word as Bytes, takes}
use Rattle.command_line.specs.declared.options.Command.{Command}
use Rattle.program_words.specs.Wrong.{is_new, wrong_behind}

-- two words more
two_more : (ws : List Bytes) (at : ℕ) (o v : Bytes) (rest : List Bytes) → drop at ws ≡ o ∷ v ∷ rest
    → (take (at + 2) ws ≡ take at ws ++ o ∷ v ∷ []) × (drop (at + 2) ws ≡ rest)
two_more [] zero o v rest is = cc
two_more [] (suc n) o v rest is = cc
two_more (x ∷ xs) zero o v rest is = first xs (tail_is is) where
  tail_is : x ∷ xs ≡ o ∷ v ∷ rest → (x ≡ o) × (xs ≡ v ∷ rest)
  tail_is same = (cc, cc)

  first : (ys : List Bytes) → (x ≡ o) × (ys ≡ v ∷ rest) → (take 2 (x ∷ ys) ≡ o ∷ v ∷ []) × (drop 2 (x ∷ ys) ≡ rest)
  first [] same = let no = same.1 in cc
  first (y ∷ ys) same = let head : y ≡ v = cc in let tail : ys ≡ rest = cc in (rw (same.0, head) refl, tail)
two_more (x ∷ xs) (suc n) o v rest is =
    let it = two_more xs n o v rest is in
    let more : suc n + 2 ≡ suc (n + 2) = omega arith in
    (ap (λ k. take k (x ∷ xs)) more ∙ ap (λ ys. x ∷ ys) it.0, ap (λ k. drop k (x ∷ xs)) more ∙ it.1)

-- words of which two or more are left begin with a pair
front : (ws : List Bytes) (o v : Bytes) → 2 ≤ length ws → o ≡ slice_index_or ws 0 o → v ≡ slice_index_or ws 1 v → ws ≡ o ∷ v ∷ drop 2 ws
front [] o v two first second = absurd (omega (arith, two))
front (x ∷ []) o v two first second = absurd (omega (arith, two))
front (x ∷ y ∷ ws) o v two first second = rw (first, second) refl

-- so many words are left
left : (ws : List Bytes) (at : ℕ) → at ≤ length ws → length (drop at ws) + at ≡ length ws
left ws zero most = omega arith
left [] (suc n) most = absurd (omega (arith, most))
left (x ∷ xs) (suc n) most = let later = left xs n (omega (arith, most)) in omega (arith, later)

-- a pair in which nothing is wrong leaves the question to the words behind it
pair_right : (c : Command) (before : List Bytes) (o v : Bytes) (rest : List Bytes) → is_new c before o ≡ true → takes c (o, v) ≡ true
    → wrong_behind c before (o ∷ v ∷ rest) ≡ wrong_behind c (before ++ o ∷ v ∷ []) rest
pair_right c before o v rest new taken = rw (new, taken) refl

-- the words behind a place, as the slice from there
rest_is : (ws : List Bytes) (at : ℕ) → take (length ws - at) (drop at ws) ≡ drop at ws
rest_is ws at = take_all (length ws - at) (drop at ws) (subst (λ n. n ≤ length ws - at) (sym (length-drop at ws)) (omega arith))

pub one_more : (c : Command) (ws : List Bytes) (at : ℕ) (o v : Bytes) → at ≤ length ws → 2 ≤ length (take (length ws - at) (drop at ws))
    → o ≡ slice_index_or (take (length ws - at) (drop at ws)) 0 o
    → v ≡ slice_index_or (take (length ws - at) (drop at ws)) 1 v → is_new c (take at ws) o ≡ true → takes c (o, v) ≡ true
    → (1 ≤ at + 2) × (at + 2 ≤ length ws) × (wrong_behind c (take at ws) (drop at ws)
    ≡ wrong_behind c (take (at + 2) ws) (drop (at + 2) ws))
one_more c ws at o v most two first second new taken =
    let same = rest_is ws at in
    let some : 2 ≤ length (drop at ws) = subst (λ ys. 2 ≤ length ys) same two in
    let is : drop at ws ≡ o ∷ v ∷ drop 2 (drop at ws) =
    front (drop at ws) o v some (subst (λ ys. o ≡ slice_index_or ys 0 o) same first)
    (subst (λ ys. v ≡ slice_index_or ys 1 v) same second) in
    let more = two_more ws at o v (drop 2 (drop at ws)) is in
    let count = left ws at most in (
      omega arith,
      omega (arith, some, count),
      ap (λ rest. wrong_behind c (take at ws) rest) is ∙ pair_right c (take at ws) o v (drop 2 (drop at ws)) new taken
          ∙ ap₂ (λ before rest. wrong_behind c before rest) (sym more.0) (sym more.1),
    )
