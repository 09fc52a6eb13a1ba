-- The values that a set clock gave.
use Rattle.std.proofs.Common.{◌≡◌, ◌∙◌, sym, ap, ℕ, zero, suc, ◌+◌, ◌<◌, min, List, [], ◌∷◌, ◌++◌, length, refl, arith}
use Rattle.std.proofs.lemmas.List.{length_push}
use Rattle.site_traits.specs.SetClock.{value_at, given}

given_length : (values : List ℕ) (k : ℕ) → length (given values k) ≡ k
given_length values zero = refl
given_length values (suc k) = length_push (given values k) (value_at values k) ∙ (let h = given_length values k in omega arith)

-- one value more, where the count of calls has room
pub given_more : (values : List ℕ) (calls next value : ℕ) → next ≡ min (calls + 1) 18446744073709551615 → value ≡ value_at values calls
    → length (given values calls) < 18446744073709551615 → given values next ≡ given values calls ++ value ∷ []
given_more values calls next value next_is value_is room =
    let e : next ≡ suc calls = (let h = given_length values calls in omega arith) in
    ap (given values) e ∙ ap (λ v. given values calls ++ v ∷ []) (sym value_is)
