-- Pieces of a connection, one behind the other.
use Rattle.std.proofs.Common.{◌≡◌, ◌≤◌, ◌∙◌, ap, sym, ℕ, zero, suc, ◌+◌, ◌-◌, ◌<◌, min, List, [], ◌∷◌, ◌++◌, length, take, get_or}
use Rattle.std.proofs.Common.{below_more, inl, inr, length-append, arith}
use Rattle.std.specs.List.{concat}
use Rattle.std.proofs.lemmas.List.{take_more, take_all, append-nil, get_or_push, get_or_append_left, get_or_default}
use Rattle.std.proofs.lemmas.Bool.{cases_lt}
use Rattle.site_traits.specs.Pieces.{IsRising, IsLastEnd, ArePassed, IsOfOnePiece}
use Rattle.std.proofs.lemmas.List.Folds.{concat-append}
use Rattle.std.proofs.Math.Seq.{take-nil}

-- the bytes with one piece more
pub concat-more : (pieces : List (List ℕ)) (i : ℕ) (piece bytes more : List ℕ) → i < length pieces → get_or pieces i piece ≡ piece
    → bytes ≡ concat (take i pieces)
    → more ≡ bytes ++ piece → more ≡ concat (take (i + 1) pieces)
concat-more pieces i piece bytes more lt is so_far more_is =
    let one : concat (get_or pieces i piece ∷ []) ≡ piece = append-nil (get_or pieces i piece) ∙ is in
    more_is ∙ ap (λ v. v ++ piece) so_far
    ∙ sym (ap concat (take_more pieces i piece lt) ∙ concat-append (take i pieces) (get_or pieces i piece ∷ [])
    ∙ ap (λ v. concat (take i pieces) ++ v) one)

-- where the pieces end, with one piece more
pub ends-more : (pieces : List (List ℕ)) (i : ℕ) (ends new more : List ℕ) → length ends ≡ i → more ≡ concat (take (i + 1) pieces)
    → new ≡ ends ++ length more ∷ []
    → ((k : ℕ) → k < i → get_or ends k 0 ≡ length (concat (take (k + 1) pieces))) → (k : ℕ) → k < i + 1
    → get_or new k 0 ≡ length (concat (take (k + 1) pieces))
ends-more pieces i ends new more count more_is new_is each =
    below_more (λ k. get_or new k 0 ≡ length (concat (take (k + 1) pieces))) i
    (λ k lt. ap (λ v. get_or v k 0) new_is ∙ get_or_append_left ends (length more ∷ []) 0 k (omega (arith, count)) ∙ each k lt)
    (ap (λ v. get_or v i 0) new_is ∙ get_or_push ends (length more) 0 i count ∙ ap length more_is)

-- more pieces have no fewer bytes
pub concat-take-le : (pieces : List (List ℕ)) (i j : ℕ) → i ≤ j → length (concat (take i pieces)) ≤ length (concat (take j pieces))
concat-take-le [] i j le = omega (
  arith,
  ap (λ (l : List (List ℕ)). length (concat l)) (take-nil {A = List ℕ} i),
  ap (λ (l : List (List ℕ)). length (concat l)) (take-nil {A = List ℕ} j),
)
concat-take-le (p ∷ pieces) zero j le = omega arith
concat-take-le (p ∷ pieces) (suc i) zero le = omega arith
concat-take-le (p ∷ pieces) (suc i) (suc j) le =
    omega (
      arith,
      length-append p (concat (take i pieces)),
      length-append p (concat (take j pieces)),
      concat-take-le pieces i j (omega arith),
    )

-- where each piece ends
pub HaveEnds : List (List ℕ) → List ℕ → Type 0
HaveEnds pieces ends = (k : ℕ) → k < length ends → get_or ends k 0 ≡ length (concat (take (k + 1) pieces))

-- the same, said of so many pieces
pub have-ends : (pieces : List (List ℕ)) (ends : List ℕ) (count : ℕ) → length ends ≡ count
    → ((k : ℕ) → k < count → get_or ends k 0 ≡ length (concat (take (k + 1) pieces)))
    → HaveEnds pieces ends
unfolding HaveEnds
have-ends pieces ends count is each = λ k lt. each k (omega (arith, is))

-- no piece ends before an earlier one
pub ends-rise : (pieces : List (List ℕ)) (ends : List ℕ) → HaveEnds pieces ends → IsRising ends
unfolding HaveEnds
ends-rise pieces ends each = λ i j le lt.
    omega (arith, each i (omega arith), each j lt, concat-take-le pieces (i + 1) (j + 1) (omega arith))

-- the last piece ends where all of them do
pub ends-last : (pieces : List (List ℕ)) (ends bytes : List ℕ) → length ends ≡ length pieces → bytes ≡ concat pieces → HaveEnds pieces ends
    → IsLastEnd ends (length bytes)
unfolding HaveEnds
ends-last [] [] bytes count is each = sym (ap length is)
ends-last [] (e ∷ ends) bytes count is each = omega arith
ends-last (p ∷ pieces) [] bytes count is each = omega arith
ends-last (p ∷ pieces) (e ∷ ends) bytes count is each =
    let all = p ∷ pieces in
    each (length (e ∷ ends) - 1) (omega arith)
    ∙ ap (λ n. length (concat n)) (take_all (length (e ∷ ends) - 1 + 1) all (omega (arith, count)))
    ∙ sym (ap length is)

-- what is read up to the end of the piece at hand is of one piece
pub one-piece : (ends : List ℕ) (at p n most : ℕ) → IsRising ends → p < length ends → at < get_or ends p 0 → ArePassed ends p at
    → n ≡ min (get_or ends p 0 - at) most
    → IsOfOnePiece ends at n most
one-piece ends at p n most rising lt behind passed is = record {
  within = λ k k_lt. elim (cases_lt k p) [ inl before ↦ inl (passed k before) | inr from ↦ inr (omega (arith, rising p k from k_lt)) ];
  whole = elim (cases_lt most (get_or ends p 0 - at)) [
    | inl less ↦ inl (omega arith)
    | inr fits ↦ inr (p, lt, get_or_default ends p (at + n) 0 lt ∙ (omega arith))
  ];
}
