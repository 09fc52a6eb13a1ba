-- The bytes of the first write of an append, as they are put together in the buffer.
use Rattle.std.proofs.Common.{◌≡◌, ◌∙◌, ap, ap₂, ℕ, ◌+◌, ◌≤◌, List, [], ◌∷◌, ◌++◌, append_assoc, length, take, drop, set, length-append}
use Rattle.std.proofs.Common.{length-take, length-drop, arith}
use Rattle.std.specs.Int.{w32, to_be_bytes}
use Rattle.std.proofs.lemmas.List.{take_at, take_more_set}
use Rattle.std.proofs.lemmas.Slice.{take-put_mid}
use borrow.Rule.Slice.PartMut.{put_mid}
use Rattle.journal_records.specs.File.{held, piece}
use Rattle.journal_records.proofs.ContentLemmas.{held_length}

-- a part of a list that is put there anew leaves its length
put_length : (a k : ℕ) (xs ys : List ℕ) → length ys ≡ k → a + k ≤ length xs → length (put_mid a k xs ys) ≡ length xs
put_length a k xs ys many room =
    let one = length-append (take a xs) (ys ++ drop k (drop a xs)) in
    let two = length-append ys (drop k (drop a xs)) in
    let three = length-drop k (drop a xs) in
    let four = length-drop a xs in
    let five = length-take a xs in
    omega arith

-- two numbers at the front, these bytes behind them and a zero behind all
pub framed_in : (buffer first second ys bytes : List ℕ) (j k : ℕ) → length bytes + 9 ≤ length buffer
    → first ≡ to_be_bytes w32 (length bytes + 4) → second ≡ to_be_bytes w32 (length bytes) → ys ≡ bytes → j ≡ 4 → k ≡ length bytes
    → take (length bytes + 9) (set (put_mid 8 k (put_mid 4 j (first ++ drop 4 buffer) second) ys) (length bytes + 8) 0) ≡ piece bytes
unfolding piece held
framed_in buffer first second ys bytes j k room number other same four many =
    let n = length bytes in
    let b1 = first ++ drop 4 buffer in
    let b2 = put_mid 4 j b1 second in
    let b3 = put_mid 8 k b2 ys in
    let first_length : length first ≡ 4 = ap length number in
    let second_length : length second ≡ 4 = ap length other in
    let ys_length : length ys ≡ n = ap length same in
    let l1 : length b1 ≡ length buffer = (let e = length-append first (drop 4 buffer) in let d = length-drop 4 buffer in omega arith) in
    let l2 : length b2 ≡ length buffer = put_length 4 j b1 second (omega arith) (omega arith) ∙ l1 in
    let l3 : length b3 ≡ length buffer = put_length 8 k b2 ys (omega arith) (omega arith) ∙ l2 in
    let count : n + 4 ≡ length (held bytes) = (let h = held_length bytes in omega arith) in
    ap (λ v. take v (set b3 (n + 8) 0)) (let e : n + 9 ≡ n + 8 + 1 = omega arith in e)
    ∙ take_more_set b3 (n + 8) 0 (omega arith)
    ∙ ap (λ v. v ++ 0 ∷ []) (take-put_mid 8 k b2 ys (n + 8) (omega arith) (omega arith)
    ∙ ap₂ (λ v w. v ++ w) (take-put_mid 4 j b1 second 8 (omega arith) (omega arith)
    ∙ ap₂ (λ v w. v ++ w) (take_at first (drop 4 buffer) 4 first_length ∙ number ∙ ap (to_be_bytes w32) count) other) same
    ∙ append_assoc (to_be_bytes w32 (length (held bytes))) (to_be_bytes w32 n) bytes)
