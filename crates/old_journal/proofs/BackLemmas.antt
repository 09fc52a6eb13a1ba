-- Where the records of a file stand.
use Rattle.std.proofs.Common.{◌≡◌, ◌∙◌, sym, ap, subst, ℕ, zero, suc, ◌+◌, ◌-◌, ◌≤◌, ◌<◌, List, [], ◌∷◌, ◌++◌, length}
use Rattle.std.proofs.Common.{take, drop, get_or}
use Rattle.std.proofs.Common.{All, Option, Some, append_assoc, length-append, length-drop, refl, arith}
use Rattle.std.proofs.lemmas.List.{drop_at, take_at, take_more, drop-drop}
use Rattle.std.proofs.lemmas.Nat.{from_be_bytes-to_be_bytes_4}
use Rattle.std.specs.Int.{w32, to_be_bytes, from_be_bytes}
use Rattle.site_traits.specs.Site.{SiteState, Reads}
use Rattle.old_journal.specs.File.{header, framed, blocks, records, size, HasRecords}
use Rattle.journal_records.specs.File.{IsRecord}
use Rattle.old_journal.specs.Marks.{IsMark}
use Rattle.old_journal.specs.Journal.{Ledger, Stands}
use Rattle.old_journal.specs.Back.{HasAt, HasRecord}
use Rattle.old_journal.proofs.Records.{front_length, framed_length, size_push}

-- the blocks in front of record k, it, and those behind it
split_at : (rs : List (List ℕ)) (k : ℕ) → k < length rs → (behind : List (List ℕ))
    × (blocks rs ≡ blocks (take k rs) ++ (framed (get_or rs k []) ++ blocks behind))
split_at [] k lt = absurd (omega arith)
split_at (r ∷ rs) zero lt = (rs, refl)
split_at (r ∷ rs) (suc k) lt =
    let rest = split_at rs k (omega arith) in (
      rest.0,
      ap (λ v. framed r ++ v) rest.1 ∙ sym (append_assoc (framed r) (blocks (take k rs))
          (framed (get_or rs k []) ++ blocks rest.0)),
    )

-- the place behind one record more
pub size_next : (rs : List (List ℕ)) (k : ℕ) → k < length rs
    → size (take (k + 1) rs) ≡ size (take k rs) + 5 + length (get_or rs k [])
size_next rs k lt = ap size (take_more rs k [] lt) ∙ size_push (take k rs) (get_or rs k [])

-- record k stands behind those before it
pub has_at : (m k end : ℕ) (rs : List (List ℕ)) (image : List ℕ) → HasRecords m rs image → k < length rs → end ≡ size rs
    → HasAt (size (take k rs)) end (get_or rs k []) image
has_at m k end rs image has lt is =
    let r = get_or rs k [] in
    let split = split_at rs k lt in
    let tail = has.gate ∷ has.tail in
    let front = header m ++ blocks (take k rs) in
    let behind = blocks split.0 in
    let whole : image ≡ front ++ (framed r ++ (behind ++ tail)) =
    has.is ∙ ap (λ v. header m ++ v ++ tail) split.1
    ∙ ap (λ v. v ++ tail) (sym (append_assoc (header m) (blocks (take k rs)) (framed r ++ behind)))
    ∙ append_assoc front (framed r ++ behind) tail ∙ ap (λ v. front ++ v) (append_assoc (framed r) behind tail) in
    let len : length (blocks rs) ≡ length (blocks (take k rs)) + (5 + length r + length behind) =
    ap length split.1 ∙ length-append (blocks (take k rs)) (framed r ++ behind)
    ∙ ap (λ v. length (blocks (take k rs)) + v) (length-append (framed r) behind
    ∙ ap (λ v. v + length behind) (framed_length r)) in
    record {
      one = has.each k [] lt;
      rest = behind ++ tail;
      is = ap (drop (size (take k rs))) whole ∙ drop_at front (framed r ++ (behind ++ tail)) (size (take k rs))
          (front_length m (take k rs));
      whole = omega arith;
    }

-- its head lies within the file
pub has_at_long : (place end : ℕ) (bytes image : List ℕ) → HasAt place end bytes image → place + 5 ≤ length image
has_at_long place end bytes image has =
    let some = has.one.some in
    omega (arith, ap length has.is, length-drop place image, length-append (framed bytes) has.rest, framed_length bytes)

-- the bytes of a head
head_is : (head bytes rest : List ℕ) → head ≡ take 5 (framed bytes ++ rest) → head ≡ 1 ∷ to_be_bytes w32 (length bytes)
unfolding framed
head_is head bytes rest is = is

pub head_gate : (head bytes rest : List ℕ) → head ≡ take 5 (framed bytes ++ rest) → get_or head 0 0 ≡ 1
head_gate head bytes rest is = ap (λ v. get_or v 0 0) (head_is head bytes rest is)

pub head_size : (head bytes rest : List ℕ) → IsRecord bytes → head ≡ take 5 (framed bytes ++ rest)
    → from_be_bytes w32 (get_or head 1 0 ∷ get_or head 2 0 ∷ get_or head 3 0 ∷ get_or head 4 0 ∷ []) ≡ length bytes
head_size head bytes rest one is =
    let fits = one.fits in
    ap (λ v. from_be_bytes w32 (get_or v 1 0 ∷ get_or v 2 0 ∷ get_or v 3 0 ∷ get_or v 4 0 ∷ []))
    (head_is head bytes rest is)
    ∙ from_be_bytes-to_be_bytes_4 (length bytes) (omega arith)

-- record k still stands there after reads
pub stands_at : (n end k place : ℕ) (a b : SiteState) → HasRecord n end a.image → Reads a b
    → k < length (records a.image)
    → place ≡ size (take k (records a.image))
    → HasAt place end (get_or (records a.image) k []) b.image
stands_at n end k place a b has reads lt is =
    let bytes = get_or (records a.image) k [] in
    let P : List ℕ → Type 0 = λ v. HasAt place end bytes v in
    let Q : ℕ → Type 0 = λ v. HasAt v end bytes a.image in
    subst P (sym reads.same) (subst Q (sym is) (has_at has.manager k end (records a.image) a.image has.file lt
    has.gate))

-- what was found is one number
pub one_number : (found : Option ℕ) (n m : ℕ) → found ≡ Some n → found ≡ Some m → n ≡ m
one_number found n m is other = cc

-- and so does record n, where its place was found
pub record_at : (n end place : ℕ) (found : Option ℕ) (a b : SiteState) → HasRecord n end a.image → Reads a b
    → found ≡ Some place
    → found ≡ Some (size (take (n - 1) (records a.image)))
    → HasAt place end (get_or (records a.image) (n - 1) []) b.image
record_at n end place found a b has reads is found_is =
    let some = has.some in
    let within = has.within in
    stands_at n end (n - 1) place a b has reads (omega arith) (one_number found place _ is found_is)

-- its bytes stand behind its head
pub bytes_behind : (place end n : ℕ) (bytes image : List ℕ) → HasAt place end bytes image → n ≡ length bytes
    → take n (drop (place + 5) image) ≡ bytes
unfolding framed
bytes_behind place end n bytes image has many =
    let four = to_be_bytes w32 (length bytes) in
    let place_is : drop (place + 5) image ≡ drop 5 (drop place image) = sym (drop-drop 5 place image) in
    ap (take n) (place_is ∙ ap (drop 5) (has.is ∙ append_assoc (1 ∷ four) bytes has.rest)
    ∙ drop_at (1 ∷ four) (bytes ++ has.rest) 5 refl)
    ∙ take_at bytes has.rest n (sym many)

-- they lie within the file
pub bytes_within : (place end n : ℕ) (bytes image : List ℕ) → HasAt place end bytes image → n ≡ length bytes
    → place + 5 + n ≤ length image
bytes_within place end n bytes image has many =
    let some = has.one.some in
    omega (arith, ap length has.is, length-drop place image, length-append (framed bytes) has.rest, framed_length bytes)

-- the place behind it is that of the next
pub mark_next : (rs : List (List ℕ)) (k place n : ℕ) → k < length rs → IsMark rs (record { before = k; place = place })
    → n ≡ length (get_or rs k [])
    → IsMark rs (record { before = k + 1; place = place + (5 + n) })
mark_next rs k place n lt mark many = record {
  within = omega arith;
  place =
      (let p = mark.place in let s = size_next rs k lt in omega arith);
}

-- and so is the place behind the record that was read back
pub mark_read : (rs : List (List ℕ)) (n place many : ℕ) → 1 ≤ n → n ≤ length rs → place ≡ size (take (n - 1) rs)
    → many ≡ length (get_or rs (n - 1) [])
    → IsMark rs (record { before = n; place = place + 5 + many })
mark_read rs n place many some within is many_is =
    let e : n - 1 + 1 ≡ n = omega arith in
    let P : ℕ → Type 0 = λ v. size (take v rs) ≡ size (take (n - 1) rs) + 5 + length (get_or rs (n - 1) []) in
    let next : size (take n rs) ≡ size (take (n - 1) rs) + 5 + length (get_or rs (n - 1) []) =
    subst P e (size_next rs (n - 1) (omega arith)) in
    record { within = within; place = omega arith }

-- a journal of the same records stands for them after reads
pub reads_stands : (j k : Ledger) (a b : SiteState) → Stands a j → Reads a b → k.manager ≡ j.manager → k.count ≡ j.count
    → k.end ≡ j.end
    → All (IsMark (records a.image)) k.marks
    → Stands b k
reads_stands j k a b stands reads manager count end marks =
    let P : ℕ → Type 0 = λ v. HasRecords v (records b.image) b.image in
    let Q : List ℕ → Type 0 = λ v. HasRecords j.manager (records v) v in
    let R : List ℕ → Type 0 = λ v. All (IsMark (records v)) k.marks in
    record {
      settled = reads.settled stands.settled;
      file = subst P (sym manager) (subst Q (sym reads.same) stands.file);
      count = count ∙ stands.count ∙ ap (λ v. length (records v)) (sym reads.same);
      end = end ∙ stands.end ∙ ap (λ v. size (records v)) (sym reads.same);
      marks = subst R (sym reads.same) marks;
    }
