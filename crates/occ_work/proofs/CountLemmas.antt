-- One act more is counted.
use Rattle.std.proofs.Common.{◌≡◌, ◌≤◌, ◌<◌, ◌+◌, ℕ, List, [], ◌∷◌, Bool, suc, length, filter, arith, min}
use Rattle.lcm_laws.proofs.Lists.{by_test}
use Rattle.occ_work.specs.Counting.{same_end}
use Rattle.occ_work.specs.declared.ends.Acted.{Acted}

pub filter_few : {A : Type 0} → (p : A → Bool) (xs : List A) → length (filter p xs) ≤ length xs
filter_few p [] = omega arith
filter_few p (x ∷ xs) =
    let rest = filter_few p xs in
    by_test (p x) (λ holds. rw holds (omega (arith, rest))) (λ fails. rw fails (omega (arith, rest)))

-- a count that isn't at its greatest is one more
pub one_counted : (end : Acted) (ends : List Acted) (a n : ℕ) → n ≡ min (a + 1) 4294967295 → length ends < 4294967295
    → a ≡ length (filter (same_end end) ends)
    → n ≡ suc (length (filter (same_end end) ends))
one_counted end ends a n is less now = let few = filter_few (same_end end) ends in omega (arith, is, few, less, now)
