-- What digits mean, and how far a front of a text reaches.
use Rattle.std.proofs.Common.{◌≡◌, ◌≤◌, ◌<◌, ◌+◌, ◌*◌, ℕ, List, [], ◌∷◌, length, take, drop, Bool, true, false, cond, refl, ap, ◌∙◌, arith}
use Rattle.std.proofs.Common.{add_comm, add-one, zero, suc, get_or, nat_le}
use Rattle.std.proofs.Math.Nat.{le-mul_of_pos_right}
use Rattle.std.proofs.lemmas.Bool.{leb-false, lt-leb}
use Rattle.std.specs.Char.{digit_value, is_ascii_digit}
use Rattle.std.specs.List.{prefix_len}
use Rattle.std.specs.Str.{all_ascii_digits}
use Rattle.std.specs.Str.Parse.{digits_value_after}

-- further digits make no number less
pub digits_value_after-ge : (n : ℕ) (ds : List ℕ) → n ≤ digits_value_after 10 n ds
digits_value_after-ge n [] = omega arith
digits_value_after-ge n (d ∷ ds) = omega (arith, digits_value_after-ge (n * 10 + digit_value d) ds)

-- a number past the limit so far is past it in the end
past_from : (n m d : ℕ) (ds : List ℕ) → m < n * 10 + digit_value d → m < digits_value_after 10 n (d ∷ ds)
past_from n m d ds over = omega (arith, over, digits_value_after-ge (n * 10 + digit_value d) ds)

pub past_limit : (n i m : ℕ) (ds : List ℕ) → i < length ds → m < n * 10 + digit_value (get_or ds i 0)
    → m < digits_value_after 10 n (drop i ds)
past_limit n zero m [] h over = absurd (omega arith)
past_limit n zero m (d ∷ ds) h over = past_from n m d ds over
past_limit n (suc i) m [] h over = absurd (omega arith)
past_limit n (suc i) m (d ∷ ds) h over = past_limit n i m ds (omega arith) over

prefix-if : (b : Bool) (n m : ℕ) → n ≤ m → cond b (1 + n) 0 ≤ m + 1
prefix-if true n m h = omega (arith, h)
prefix-if false n m h = omega arith

pub prefix_len-le : (p : ℕ → Bool) (xs : List ℕ) → prefix_len p xs ≤ length xs
prefix_len-le p [] = omega arith
prefix_len-le p (x ∷ xs) = let e = prefix-if (p x) (prefix_len p xs) (length xs) (prefix_len-le p xs) in omega (arith, e)

digits-if : (b : Bool) (c : ℕ) (cs : List ℕ) → is_ascii_digit c ≡ b → all_ascii_digits (take (prefix_len is_ascii_digit cs) cs) ≡ true
    → all_ascii_digits (take (cond b (1 + prefix_len is_ascii_digit cs) 0) (c ∷ cs)) ≡ true
digits-if true c cs e h = rw (ap (λ n. take n (c ∷ cs)) (add_comm 1 (prefix_len is_ascii_digit cs)
    ∙ add-one (prefix_len is_ascii_digit cs))) (rw e h)
digits-if false c cs e h = refl

-- the front is digits
pub front-digits : (xs : List ℕ) → all_ascii_digits (take (prefix_len is_ascii_digit xs) xs) ≡ true
front-digits [] = refl
front-digits (c ∷ cs) = digits-if (is_ascii_digit c) c cs refl (front-digits cs)

-- what is past the limit without a unit is past it with one
pub over_product : (v u m : ℕ) → 1 ≤ u → nat_le v m ≡ false → nat_le (v * u) m ≡ false
over_product v u m some h = lt-leb (v * u) m (omega (arith, leb-false v m h, le-mul_of_pos_right {m = u} v some))

-- the lemmas on sizes
pub ruleset size_steps = (digits_value_after-ge, prefix_len-le, front-digits)
