-- Pieces that are taken one behind the other.
use Rattle.std.proofs.Common.{◌≡◌, ℕ, ◌+◌, List, ◌++◌, take, drop, sym, ap, ◌∙◌, arith}
use Rattle.std.proofs.lemmas.List.{take-append-drop, take-take, drop-take}

-- a front, and the front of what is behind it
pub take_on : (n m : ℕ) (xs : List ℕ) → take n xs ++ take m (drop n xs) ≡ take (n + m) xs
take_on n m xs =
    ap (λ x. x ++ take m (drop n xs)) (sym (front n m xs)) ∙ ap (λ x. take n (take (n + m) xs) ++ x) (sym (drop-take n m xs))
    ∙ take-append-drop n (take (n + m) xs)
  where
    front : (n m : ℕ) (xs : List ℕ) → take n (take (n + m) xs) ≡ take n xs
    front n m xs = take-take n (n + m) xs (omega arith)
