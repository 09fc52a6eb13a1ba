-- Lists of batches and the bytes that they make: the batches of a file are those that it begins with, and what a write
-- that a stop cuts short leaves of them.
use Rattle.std.proofs.Common.{◌≡◌, ◌≢◌, ◌⊎◌, ◌∙◌, sym, ap, subst, inl, inr, ⊎_elim, ℕ, zero, suc, ◌+◌, ◌≤◌, ◌<◌, true, false}
use Rattle.std.proofs.Common.{List, [], ◌∷◌, ◌++◌, length, take, drop, All, append_assoc, length-append, if◌then◌else◌, refl, arith}
use Rattle.std.specs.Int.{w32, to_be_bytes, from_be_bytes}
use Rattle.std.proofs.lemmas.Nat.{from_be_bytes-to_be_bytes_4}
use Rattle.std.proofs.lemmas.Bool.{ne_eqb}
use Rattle.std.specs.Prelude.{eqb}
use Rattle.std.proofs.lemmas.Bool.Decides.{eqb_tells}
use Rattle.std.proofs.lemmas.List.{take_at, drop_at, append-nil}
use Rattle.std.proofs.lemmas.List.Concat.{flat_map-append}
use Rattle.std.proofs.lemmas.List.Elements.{All-push, All-cons, All-nil}
use Rattle.site_traits.specs.Site.{Torn, Holds}
use Rattle.site_traits.proofs.Writes.{torn_behind, written_behind, torn_gate, written_gate}
use Rattle.journal_records.specs.File.{header, number, cut_records, cut_batches, batches, records, records_of_all, held, content, framed}
use Rattle.journal_records.specs.File.{piece, blocks, gate_place, bytes_alone, size, IsRecord, IsBatch, HasBatches, HasRecords}
use Rattle.journal_records.proofs.ContentLemmas.{held_length, number_held, each_first, each_rest}
use Rattle.journal_records.proofs.HeadLemmas.{framed_length}

-- one batch more
pub blocks_push : (bs : List (List (List ℕ))) (b : List (List ℕ)) → blocks (bs ++ b ∷ []) ≡ blocks bs ++ framed b
blocks_push [] b = append-nil (framed b)
blocks_push (x ∷ bs) b = ap (λ v. framed x ++ v) (blocks_push bs b) ∙ sym (append_assoc (framed x) (blocks bs) (framed b))

-- a batch of one record
pub content_one : (bytes : List ℕ) → content (bytes ∷ []) ≡ held bytes
content_one bytes = append-nil (held bytes)

pub one_length : (bytes : List ℕ) → length (content (bytes ∷ [])) ≡ 4 + length bytes
one_length bytes = ap length (content_one bytes) ∙ held_length bytes

pub one_batch : (bytes : List ℕ) → IsRecord bytes → IsBatch (bytes ∷ [])
one_batch bytes one = record {
  some = omega arith;
  each = All-cons IsRecord bytes [] one (All-nil IsRecord);
  fits = (let l = one_length bytes in let f = one.fits in omega arith);
}

pub piece_length : (bytes : List ℕ) → length (piece bytes) ≡ 9 + length bytes
unfolding piece
piece_length bytes =
    omega (arith, length-append (held bytes) (0 ∷ []), held_length bytes)

pub header_length : (m : ℕ) → length (header m) ≡ 32
unfolding header
header_length m = refl

-- the gate behind one batch more
pub gate_push : (bs : List (List (List ℕ))) (b : List (List ℕ)) → gate_place (bs ++ b ∷ []) ≡ gate_place bs + 5 + length (content b)
gate_push bs b = omega (arith, ap length (blocks_push bs b), length-append (blocks bs) (framed b), framed_length b)

-- the bytes of one record more
alone_push : (rs : List (List ℕ)) (bytes : List ℕ) → bytes_alone (rs ++ bytes ∷ []) ≡ bytes_alone rs + 9 + length bytes
alone_push [] bytes = omega arith
alone_push (r ∷ rs) bytes = omega (arith, alone_push rs bytes)

pub size_push : (rs : List (List ℕ)) (bytes : List ℕ) → size (rs ++ bytes ∷ []) ≡ size rs + 9 + length bytes
size_push rs bytes = omega (arith, alone_push rs bytes)

-- the records of one batch more
pub records_push : (bs : List (List (List ℕ))) (b : List (List ℕ)) → records_of_all (bs ++ b ∷ []) ≡ records_of_all bs ++ b
records_push bs b = flat_map-append (λ batch. batch) bs (b ∷ []) ∙ ap (λ v. records_of_all bs ++ v) (append-nil b)

-- header and blocks reach to the place of the gate
pub front_length : (m : ℕ) (bs : List (List (List ℕ))) → length (header m ++ blocks bs) ≡ gate_place bs
front_length m bs = omega (arith, length-append (header m) (blocks bs), header_length m)

-- the first of the batches is one, and so is each of the rest
pub batch_first : (b : List (List ℕ)) (bs : List (List (List ℕ))) → All IsBatch (b ∷ bs) → IsBatch b
batch_first b bs each = each 0 [] (omega arith)

pub batch_rest : (b : List (List ℕ)) (bs : List (List (List ℕ))) → All IsBatch (b ∷ bs) → All IsBatch bs
batch_rest b bs each = λ k d lt. each (suc k) d (omega arith)

-- there are no more batches than bytes, nor records than bytes of their content
pub count_le : (bs : List (List (List ℕ))) → length bs ≤ length (blocks bs)
count_le [] = omega arith
count_le (b ∷ bs) = omega (arith, count_le bs, length-append (framed b) (blocks bs), framed_length b)

records_le : (rs : List (List ℕ)) → length rs ≤ length (content rs)
records_le [] = omega arith
records_le (r ∷ rs) = omega (arith, records_le rs, length-append (held r) (content rs), held_length r)

-- a record in front is cut first
record_cut : (most : ℕ) (r rest : List ℕ) → IsRecord r → cut_records (suc most) (held r ++ rest) ≡ r ∷ cut_records most rest
unfolding cut_records held
record_cut most r rest is =
    let n : number (held r ++ rest) ≡ length r = number_held r rest is in
    let F : ℕ → List (List ℕ) = λ k. take k (r ++ rest) ∷ cut_records most (drop k (r ++ rest)) in
    ap F n ∙ ap (λ v. v ∷ cut_records most (drop (length r) (r ++ rest))) (take_at r rest (length r) refl)
    ∙ ap (λ v. r ∷ cut_records most v) (drop_at r rest (length r) refl)

-- the records that are cut from a content are its
cut_content : (most : ℕ) (rs : List (List ℕ)) → length rs ≤ most → All IsRecord rs → cut_records most (content rs) ≡ rs
unfolding cut_records
cut_content zero [] le each = refl
cut_content (suc most) [] le each = refl
cut_content zero (r ∷ rs) le each = absurd (omega arith)
cut_content (suc most) (r ∷ rs) le each =
    record_cut most r (content rs) (each_first r rs each)
    ∙ ap (λ v. r ∷ v) (cut_content most rs (omega arith) (each_rest r rs each))

-- behind a gate that isn't open nothing is cut
closed_cut : (most gate : ℕ) (tail : List ℕ) → gate ≢ 1 → cut_batches most (gate ∷ tail) ≡ []
unfolding cut_batches
closed_cut zero gate tail closed = refl
closed_cut (suc most) gate tail closed =
    ap (λ b. if b then cut_records (number tail) (take (number tail) (drop 4 tail)) ∷ cut_batches most (drop (number tail) (drop 4 tail))
    else [])
    (ne_eqb gate 1 closed)

-- an open batch is cut first
pub open_cut : (most : ℕ) (b : List (List ℕ)) (rest : List ℕ) → IsBatch b
    → cut_batches (suc most) (framed b ++ rest) ≡ b ∷ cut_batches most rest
unfolding cut_batches framed number
open_cut most b rest is =
    let fits = is.fits in
    let c = content b in
    let n : from_be_bytes w32 (to_be_bytes w32 (length c)) ≡ length c = from_be_bytes-to_be_bytes_4 (length c) (omega arith) in
    let F : ℕ → List (List (List ℕ)) = λ k. cut_records k (take k (c ++ rest)) ∷ cut_batches most (drop k (c ++ rest)) in
    ap F n ∙ ap (λ v. cut_records (length c) v ∷ cut_batches most (drop (length c) (c ++ rest))) (take_at c rest (length c) refl)
    ∙ ap (λ v. v ∷ cut_batches most (drop (length c) (c ++ rest))) (cut_content (length c) b (records_le b) is.each)
    ∙ ap (λ v. b ∷ cut_batches most v) (drop_at c rest (length c) refl)

-- the first of two open batches is one, whatever stands behind it
pub first_once : (b c : List (List ℕ)) (x y : List ℕ) → IsBatch b → IsBatch c → framed b ++ x ≡ framed c ++ y → (b ≡ c) × (x ≡ y)
unfolding cut_batches
first_once b c x y one other is =
    let cut : b ∷ [] ≡ c ∷ [] = sym (open_cut 0 b x one) ∙ ap (cut_batches 1) is ∙ open_cut 0 c y other in
    let same : b ≡ c = ap (λ v. elim v as (λ _. List (List ℕ)) [ [] ↦ [] | h ∷ t ↦ h ]) cut in
    let len : length (framed b) ≡ length (framed c) = ap (λ v. length (framed v)) same in (
      same,
      sym (drop_at (framed b) x (length (framed b)) refl) ∙ ap (λ v. drop (length (framed b)) v) is
          ∙ drop_at (framed c) y (length (framed b)) (sym len),
    )

-- the batches that are cut from blocks and a closed gate are theirs
pub cut_blocks : (most : ℕ) (bs : List (List (List ℕ))) (gate : ℕ) (tail : List ℕ) → length bs ≤ most → All IsBatch bs → gate ≢ 1
    → cut_batches most (blocks bs ++ gate ∷ tail) ≡ bs
cut_blocks most [] gate tail le each closed = closed_cut most gate tail closed
cut_blocks zero (b ∷ bs) gate tail le each closed = absurd (omega arith)
cut_blocks (suc most) (b ∷ bs) gate tail le each closed =
    ap (cut_batches (suc most)) (append_assoc (framed b) (blocks bs) (gate ∷ tail))
    ∙ open_cut most b (blocks bs ++ gate ∷ tail) (batch_first b bs each)
    ∙ ap (λ v. b ∷ v) (cut_blocks most bs gate tail (omega arith) (batch_rest b bs each) closed)

-- a file has the batches that it begins with, and no others
pub batches_of : (m : ℕ) (bs : List (List (List ℕ))) (image : List ℕ) → HasBatches m bs image → batches image ≡ bs
unfolding batches
batches_of m bs image has =
    let behind : drop 32 image ≡ blocks bs ++ has.gate ∷ has.tail =
    ap (drop 32) (has.is ∙ append_assoc (header m) (blocks bs) (has.gate ∷ has.tail))
    ∙ drop_at (header m) (blocks bs ++ has.gate ∷ has.tail) 32 (header_length m) in
    let len : length image ≡ gate_place bs + (1 + length has.tail) =
    ap length has.is ∙ length-append (header m ++ blocks bs) (has.gate ∷ has.tail) ∙ (let f = front_length m bs in omega arith) in
    let most : length bs ≤ length image = (let c = count_le bs in omega arith) in
    ap (cut_batches (length image)) behind ∙ cut_blocks (length image) bs has.gate has.tail most has.each has.closed

-- and so their records
pub all_records : (m : ℕ) (bs : List (List (List ℕ))) (image : List ℕ) → HasBatches m bs image → records image ≡ records_of_all bs
unfolding records
all_records m bs image has = ap records_of_all (batches_of m bs image has)

pub records_of : (m : ℕ) (rs : List (List ℕ)) (image : List ℕ) → HasRecords m rs image → records image ≡ rs
records_of m rs image has = all_records m has.batches image has.file ∙ has.are

-- so a file of a form has its batches and its records
pub its_batches : (m : ℕ) (rs : List (List ℕ)) (image : List ℕ) → HasRecords m rs image → HasBatches m (batches image) image
its_batches m rs image has =
    let P : List (List (List ℕ)) → Type 0 = λ v. HasBatches m v image in subst P (sym (batches_of m has.batches image has.file)) has.file

pub its_records : (m : ℕ) (bs : List (List (List ℕ))) (image : List ℕ) → HasBatches m bs image → HasRecords m (records image) image
its_records m bs image has = record { batches = bs; file = has; are = sym (all_records m bs image has) }

pub has_its_records : (m : ℕ) (rs : List (List ℕ)) (image : List ℕ) → HasRecords m rs image → HasRecords m (records image) image
has_its_records m rs image has = its_records m has.batches image has.file

-- the records of its batches are its records
pub records_are : (image : List ℕ) → records image ≡ records_of_all (batches image)
unfolding records
records_are image = refl

-- the file in front of the gate, at the place where the gate stands
front_is : (m : ℕ) (bs : List (List (List ℕ))) (end n : ℕ) (i j : List ℕ) → end ≡ gate_place bs → Torn (end + 1) n i j
    → Torn (length (header m ++ blocks bs) + 1) n i j
front_is m bs end n i j is torn = let P : ℕ → Type 0 = λ v. Torn (v + 1) n i j in subst P (is ∙ sym (front_length m bs)) torn

-- the gate stands within the file
pub has_length : (m : ℕ) (bs : List (List (List ℕ))) (image : List ℕ) → HasBatches m bs image → gate_place bs + 1 ≤ length image
has_length m bs image has =
    let len = ap length has.is ∙ length-append (header m ++ blocks bs) (has.gate ∷ has.tail) in
    let front = front_length m bs in
    omega arith

-- a write behind the closed gate that a stop cuts short leaves the batches
pub first_torn : (m : ℕ) (bs : List (List (List ℕ))) (n : ℕ) (i j : List ℕ) → HasBatches m bs i → Torn (gate_place bs + 1) n i j
    → HasBatches m bs j
first_torn m bs n i j has torn =
    let P : List ℕ → Type 0 = λ v. Torn (length (header m ++ blocks bs) + 1) n v j in
    let behind = torn_behind (header m ++ blocks bs) has.tail has.gate n j (subst P has.is (front_is m bs (gate_place bs) n i j refl torn)) in
    record { gate = has.gate; tail = behind.0; is = behind.1; closed = has.closed; each = has.each; small = has.small }

-- The file has these batches, and behind its closed gate stands what makes a batch of one record more of them once the
-- gate is opened.
pub record IsReady (m : ℕ) (bs : List (List (List ℕ))) (bytes : List ℕ) (image : List ℕ) : Type 0 where
  pub gate : ℕ
  pub tail : List ℕ
  pub is : image ≡ header m ++ blocks bs ++ gate ∷ (piece bytes ++ tail)
  pub closed : gate ≢ 1
  pub each : All IsBatch bs
  pub small : gate_place bs < 268435456

pub ready_has : (m : ℕ) (bs : List (List (List ℕ))) (bytes i : List ℕ) → IsReady m bs bytes i → HasBatches m bs i
ready_has m bs bytes i ready = record {
  gate = ready.gate;
  tail = piece bytes ++ ready.tail;
  is = ready.is;
  closed = ready.closed;
  each = ready.each;
  small = ready.small;
}

-- so does a write there that succeeded
pub first_written : (m : ℕ) (bs : List (List (List ℕ))) (bytes i j : List ℕ) → HasBatches m bs i
    → Holds i (gate_place bs + 1) (piece bytes) j → IsReady m bs bytes j
first_written m bs bytes i j has holds =
    let front = header m ++ blocks bs in
    let P : List ℕ → Type 0 = λ v. Holds v (gate_place bs + 1) (piece bytes) j in
    let Q : ℕ → Type 0 = λ v. Holds (front ++ has.gate ∷ has.tail) (v + 1) (piece bytes) j in
    let behind = written_behind front has.tail has.gate (piece bytes) j (subst Q (sym (front_length m bs)) (subst P has.is holds)) in
    record { gate = has.gate; tail = behind.0; is = behind.1; closed = has.closed; each = has.each; small = has.small }

-- the bytes of one record more, once its gate is open
opened : (m : ℕ) (bs : List (List (List ℕ))) (bytes tail : List ℕ)
    → header m ++ blocks bs ++ 1 ∷ (piece bytes ++ tail) ≡ header m ++ blocks (bs ++ (bytes ∷ []) ∷ []) ++ 0 ∷ tail
unfolding piece framed
opened m bs bytes tail =
    let front = header m ++ blocks bs in
    let c = content (bytes ∷ []) in
    let n = to_be_bytes w32 (length (held bytes)) in
    let same : held bytes ≡ c = sym (content_one bytes) in
    let split : piece bytes ++ tail ≡ n ++ (held bytes ++ 0 ∷ tail) =
    append_assoc (n ++ held bytes) (0 ∷ []) tail ∙ append_assoc n (held bytes) (0 ∷ tail) in
    let whole : 1 ∷ (piece bytes ++ tail) ≡ framed (bytes ∷ []) ++ 0 ∷ tail =
    ap (λ v. 1 ∷ v) (split ∙ ap (λ v. to_be_bytes w32 (length v) ++ (v ++ 0 ∷ tail)) same)
    ∙ sym (append_assoc (1 ∷ to_be_bytes w32 (length c)) c (0 ∷ tail)) in
    ap (λ v. front ++ v) whole ∙ sym (append_assoc front (framed (bytes ∷ [])) (0 ∷ tail))
    ∙ ap (λ v. v ++ 0 ∷ tail) (append_assoc (header m) (blocks bs) (framed (bytes ∷ []))
    ∙ ap (λ v. header m ++ v) (sym (blocks_push bs (bytes ∷ []))))

-- one record more, where there is room for it
pub has_more : (m : ℕ) (bs : List (List (List ℕ))) (bytes tail j : List ℕ) → All IsBatch bs → IsRecord bytes
    → gate_place bs + 10 + length bytes ≤ 268435456
    → j ≡ header m ++ blocks bs ++ 1 ∷ (piece bytes ++ tail) → HasBatches m (bs ++ (bytes ∷ []) ∷ []) j
has_more m bs bytes tail j each one room is = record {
  gate = 0;
  tail = tail;
  is = is ∙ opened m bs bytes tail;
  closed = λ e. absurd (omega (arith, e));
  each = All-push IsBatch bs (bytes ∷ []) each (one_batch bytes one);
  small = (let grown = gate_push bs (bytes ∷ []) in let l = one_length bytes in omega arith);
}

-- a write of the gate that a stop cuts short leaves the batches, or one record more
pub second_torn : (m : ℕ) (bs : List (List (List ℕ))) (bytes i j : List ℕ) → IsReady m bs bytes i → IsRecord bytes
    → gate_place bs + 10 + length bytes ≤ 268435456
    → Torn (gate_place bs) 1 i j → HasBatches m bs j ⊎ HasBatches m (bs ++ (bytes ∷ []) ∷ []) j
second_torn m bs bytes i j ready one room torn =
    let front = header m ++ blocks bs in
    let P : List ℕ → Type 0 = λ v. Torn (gate_place bs) 1 v j in
    let Q : ℕ → Type 0 = λ v. Torn v 1 (front ++ ready.gate ∷ (piece bytes ++ ready.tail)) j in
    let left = torn_gate front (piece bytes ++ ready.tail) ready.gate j (subst Q (sym (front_length m bs)) (subst P ready.is torn)) in
    ⊎_elim
    (λ (is : (eqb left.0 1 ≡ true) × (left.0 ≡ 1)).
    inr (has_more m bs bytes ready.tail j ready.each one room (left.1 ∙ ap (λ v. front ++ v ∷ (piece bytes ++ ready.tail)) is.1)))
    (λ (not : (eqb left.0 1 ≡ false) × (left.0 ≢ 1)).
    inl (record { gate = left.0; tail = piece bytes ++ ready.tail; is = left.1; closed = not.1; each = ready.each; small = ready.small }))
    (eqb_tells left.0 1)

-- a write of the open gate that succeeded leaves one record more
pub second_written : (m : ℕ) (bs : List (List (List ℕ))) (bytes i j : List ℕ) → IsReady m bs bytes i → IsRecord bytes
    → gate_place bs + 10 + length bytes ≤ 268435456
    → Holds i (gate_place bs) (1 ∷ []) j → HasBatches m (bs ++ (bytes ∷ []) ∷ []) j
second_written m bs bytes i j ready one room holds =
    let front = header m ++ blocks bs in
    let P : List ℕ → Type 0 = λ v. Holds v (gate_place bs) (1 ∷ []) j in
    let Q : ℕ → Type 0 = λ v. Holds (front ++ ready.gate ∷ (piece bytes ++ ready.tail)) v (1 ∷ []) j in
    has_more m bs bytes ready.tail j ready.each one room
    (written_gate front (piece bytes ++ ready.tail) ready.gate 1 j (subst Q (sym (front_length m bs)) (subst P ready.is holds)))

-- batches and one record more have the records and it
pub more_records : (m : ℕ) (bs : List (List (List ℕ))) (rs : List (List ℕ)) (bytes j : List ℕ) → rs ≡ records_of_all bs
    → HasBatches m (bs ++ (bytes ∷ []) ∷ []) j → HasRecords m (rs ++ bytes ∷ []) j
more_records m bs rs bytes j are has = record {
  batches = bs ++ (bytes ∷ []) ∷ [];
  file = has;
  are = records_push bs (bytes ∷ []) ∙ ap (λ v. v ++ bytes ∷ []) (sym are);
}
