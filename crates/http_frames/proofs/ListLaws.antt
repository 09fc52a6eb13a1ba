-- Laws on lists.
use Rattle.std.proofs.Common.{min, ◌≡◌, ℕ, ◌+◌, ◌-◌, ◌≤◌, List, [], ◌∷◌, ◌++◌, length, take, drop, refl, sym, ap, ◌∙◌, arith, append-nil}
use Rattle.std.proofs.lemmas.Bool.{cases_lt}
use Rattle.std.proofs.Common.{inl, inr}
use Rattle.std.proofs.Math.Seq.{take-append-add}
use Rattle.std.proofs.lemmas.List.{append_cancel_left, take_at, drop_at, drop_min, take_all, take-append-le, take-append-drop}

-- fronts of one length of the same bytes are equal, and so is what follows
pub same_front : (a b r q : List ℕ) → length a ≡ length b → a ++ r ≡ b ++ q → (a ≡ b) × (r ≡ q)
same_front a b r q same e =
    let front : a ≡ b = sym (take_at a r (length b) same) ∙ ap (take (length b)) e ∙ take_at b q (length b) refl in
    (front, sym (drop_at a r (length b) same) ∙ ap (drop (length b)) e ∙ drop_at b q (length b) refl)

-- nothing follows bytes that follow their own front
pub nothing_follows : (a r : List ℕ) → a ≡ a ++ r → r ≡ []
nothing_follows a r e = sym (append_cancel_left a [] r (append-nil a ∙ e))

-- of two fronts of the same bytes one is a front of the other
pub front_of_front : (a b r q : List ℕ) → length a ≤ length b → a ++ r ≡ b ++ q → (m : List ℕ) × (b ≡ a ++ m) × (r ≡ m ++ q)
front_of_front [] b r q le e = (b, refl, e)
front_of_front (x ∷ a) [] r q le e = absurd (omega arith)
front_of_front (x ∷ a) (y ∷ b) r q le e =
    let deeper = front_of_front a b r q (omega arith) (cc) in
    (deeper.0, cc (deeper.1), deeper.2)

-- the first n of some bytes with more behind them are the first n of these and then the more that fits
pub take_grows : (n : ℕ) (a b : List ℕ) → (more : List ℕ) × (take n (a ++ b) ≡ take n a ++ more)
take_grows n a b = elim (cases_lt (length a) n) [
  | inl below ↦
      let split : n ≡ length a + (n - length a) = omega arith in (
        take (n - length a) b,
        ap (λ k. take k (a ++ b)) split ∙ take-append-add a b (n - length a)
            ∙ ap (λ x. x ++ take (n - length a) b) (sym (take_all n a (omega arith))),
      )
  | inr within ↦ ([], take-append-le n a b within ∙ sym (append-nil (take n a)))
]

-- what follows the first n of the bytes, if they go on
pub take_rest_of : (n : ℕ) (a : List ℕ) → a ≡ take n a ++ drop n a
take_rest_of n a = sym (take-append-drop n a)

-- no more can be dropped than there is
pub drop_within : (n : ℕ) (xs : List ℕ) → drop (min n (length xs)) xs ≡ drop n xs
drop_within n xs = drop_min n xs
