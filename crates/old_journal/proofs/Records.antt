-- Lists of records and the bytes that they make: the records of a file are those that it begins with.
use Rattle.std.proofs.Common.{◌≡◌, ◌≢◌, ◌∙◌, sym, ap, subst, ℕ, zero, suc, ◌+◌, ◌≤◌, if◌then◌else◌}
use Rattle.std.proofs.Common.{List, [], ◌∷◌, ◌++◌, length, take, drop, All, append_assoc, length-append, refl, arith}
use Rattle.std.specs.Int.{w32, to_be_bytes, from_be_bytes}
use Rattle.std.proofs.lemmas.Nat.{from_be_bytes-to_be_bytes_4}
use Rattle.std.proofs.lemmas.Bool.{ne_eqb}
use Rattle.std.proofs.lemmas.List.{take_at, drop_at, append-nil}
use Rattle.old_journal.specs.File.{header, cut_records, records, framed, blocks, size, HasRecords}
use Rattle.journal_records.specs.File.{IsRecord}

-- one block more
pub blocks_push : (rs : List (List ℕ)) (bytes : List ℕ) → blocks (rs ++ bytes ∷ []) ≡ blocks rs ++ framed bytes
blocks_push [] bytes = append-nil (framed bytes)
blocks_push (r ∷ rs) bytes = ap (λ v. framed r ++ v) (blocks_push rs bytes)
    ∙ sym (append_assoc (framed r) (blocks rs) (framed bytes))

pub framed_length : (bytes : List ℕ) → length (framed bytes) ≡ 5 + length bytes
unfolding framed
framed_length bytes = omega arith

pub header_length : (m : ℕ) → length (header m) ≡ 32
unfolding header
header_length m = refl

-- the place behind one record more
pub size_push : (rs : List (List ℕ)) (bytes : List ℕ) → size (rs ++ bytes ∷ []) ≡ size rs + 5 + length bytes
size_push rs bytes = omega (
  arith,
  ap length (blocks_push rs bytes),
  length-append (blocks rs) (framed bytes),
  framed_length bytes,
)

-- header and blocks reach to the place of the gate
pub front_length : (m : ℕ) (rs : List (List ℕ)) → length (header m ++ blocks rs) ≡ size rs
front_length m rs = omega (arith, length-append (header m) (blocks rs), header_length m)

-- the first of the records is one, and so is each of the rest
pub each_first : (r : List ℕ) (rs : List (List ℕ)) → All IsRecord (r ∷ rs) → IsRecord r
each_first r rs each = each 0 [] (omega arith)

pub each_rest : (r : List ℕ) (rs : List (List ℕ)) → All IsRecord (r ∷ rs) → All IsRecord rs
each_rest r rs each = λ k d lt. each (suc k) d (omega arith)

-- there are no more records than bytes
pub count_le : (rs : List (List ℕ)) → length rs ≤ length (blocks rs)
count_le [] = omega arith
count_le (r ∷ rs) = omega (arith, count_le rs, length-append (framed r) (blocks rs), framed_length r)

-- behind a gate that isn't open nothing is cut
closed_cut : (most gate : ℕ) (tail : List ℕ) → gate ≢ 1 → cut_records most (gate ∷ tail) ≡ []
unfolding cut_records
closed_cut zero gate tail closed = refl
closed_cut (suc most) gate tail closed =
    ap (λ b. if b then take (from_be_bytes w32 (take 4 tail)) (drop 4 tail)
    ∷ cut_records most (drop (from_be_bytes w32 (take 4 tail)) (drop 4 tail)) else [])
    (ne_eqb gate 1 closed)

-- an open record is cut first
pub open_cut : (most : ℕ) (r rest : List ℕ) → IsRecord r
    → cut_records (suc most) (framed r ++ rest) ≡ r ∷ cut_records most rest
unfolding cut_records framed
open_cut most r rest is =
    let fits = is.fits in
    let n : from_be_bytes w32 (to_be_bytes w32 (length r)) ≡ length r =
    from_be_bytes-to_be_bytes_4 (length r) (omega arith) in
    let F : ℕ → List (List ℕ) = λ k. take k (r ++ rest) ∷ cut_records most (drop k (r ++ rest)) in
    ap F n ∙ ap (λ v. v ∷ cut_records most (drop (length r) (r ++ rest))) (take_at r rest (length r) refl)
    ∙ ap (λ v. r ∷ cut_records most v) (drop_at r rest (length r) refl)

-- the records that are cut from blocks and a closed gate are theirs
pub cut_blocks : (most : ℕ) (rs : List (List ℕ)) (gate : ℕ) (tail : List ℕ) → length rs ≤ most → All IsRecord rs
    → gate ≢ 1
    → cut_records most (blocks rs ++ gate ∷ tail) ≡ rs
cut_blocks most [] gate tail le each closed = closed_cut most gate tail closed
cut_blocks zero (r ∷ rs) gate tail le each closed = absurd (omega arith)
cut_blocks (suc most) (r ∷ rs) gate tail le each closed =
    ap (cut_records (suc most)) (append_assoc (framed r) (blocks rs) (gate ∷ tail))
    ∙ open_cut most r (blocks rs ++ gate ∷ tail) (each_first r rs each)
    ∙ ap (λ v. r ∷ v) (cut_blocks most rs gate tail (omega arith) (each_rest r rs each) closed)

-- a file has the records that it begins with, and no others
pub records_of : (m : ℕ) (rs : List (List ℕ)) (image : List ℕ) → HasRecords m rs image → records image ≡ rs
unfolding records
records_of m rs image has =
    let behind : drop 32 image ≡ blocks rs ++ has.gate ∷ has.tail =
    ap (drop 32) (has.is ∙ append_assoc (header m) (blocks rs) (has.gate ∷ has.tail))
    ∙ drop_at (header m) (blocks rs ++ has.gate ∷ has.tail) 32 (header_length m) in
    let len : length image ≡ size rs + (1 + length has.tail) =
    ap length has.is ∙ length-append (header m ++ blocks rs) (has.gate ∷ has.tail)
    ∙ (let f = front_length m rs in omega arith) in
    let most : length rs ≤ length image = (let c = count_le rs in omega arith) in
    ap (cut_records (length image)) behind ∙ cut_blocks (length image) rs has.gate has.tail most has.each has.closed

-- so a file of a form has its records
pub has_its_records : (m : ℕ) (rs : List (List ℕ)) (image : List ℕ) → HasRecords m rs image
    → HasRecords m (records image) image
has_its_records m rs image has = let P : List (List ℕ) → Type 0 = λ v. HasRecords m v image in
    subst P (sym (records_of m rs image has)) has
