-- What the first bytes at the place of a gate say of what stands there.
use Rattle.std.proofs.Common.{◌≡◌, ◌∙◌, sym, ap, subst, inl, inr, ⊎_elim, ℕ, ◌+◌, ◌-◌, ◌≤◌, ◌<◌, List, [], ◌∷◌, ◌++◌, length, take, drop}
use Rattle.std.proofs.Common.{get_or, append_assoc, length-append, length-take, length-drop, refl, arith}
use Rattle.std.specs.Int.{w32, to_be_bytes, from_be_bytes}
use Rattle.std.proofs.lemmas.Bool.{cases_lt}
use Rattle.std.proofs.lemmas.Nat.{from_be_bytes-to_be_bytes_4}
use Rattle.std.proofs.lemmas.List.{take-take, take-append-drop, drop-drop, drop-take, drop_more, take_at, get_or-take, nil_from_length}
use Rattle.journal_records.specs.File.{number, content, framed, held, IsBatch}
use Rattle.journal_records.specs.Head.{IsClosed, IsOpen, IsBroken, EndsWithin}
use Rattle.journal_records.specs.Reading.{part, AreAhead, AreRecords, BeginWithHead, BeginWithNoHead}
use Rattle.journal_records.proofs.ContentLemmas.{held_length}

-- bytes ahead are the first of the part of the file from their place on
pub part_is : (place end : ℕ) (w image : List ℕ) → AreAhead place w end image → w ≡ take (length w) (part place end image)
part_is place end w image ahead =
    let within = ahead.within in
    ahead.is ∙ sym (take-take (length w) (end - place) (drop place image) (omega arith))

pub part_length : (place end : ℕ) (w image : List ℕ) → AreAhead place w end image → length (part place end image) ≡ end - place
part_length place end w image ahead =
    let long = ahead.long in
    omega (arith, length-take (end - place) (drop place image), length-drop place image)

-- what holds of the bytes of a file from a gate on, of which some were read
module _ (place : ℕ) (end : ℕ) (image : List ℕ) where
  -- nothing is left of the file
  pub broken_at_end : (w : List ℕ) → AreAhead place w end image → length w ≡ 0 → (length w < 5 → end ≤ place + length w)
      → IsBroken place (part place end image)
  broken_at_end w ahead none enough =
      let over = enough (omega arith) in
      inl (nil_from_length (part place end image) (let l = part_length place end w image ahead in omega arith))

  -- a byte that was read is the file's
  byte_is : (w : List ℕ) (i : ℕ) → AreAhead place w end image → i < length w → get_or (part place end image) i 0 ≡ get_or w i 0
  byte_is w i ahead lt =
      sym (get_or-take (length w) (part place end image) i 0 lt) ∙ ap (λ v. get_or v i 0) (sym (part_is place end w image ahead))

  part_long : (w : List ℕ) → AreAhead place w end image → length w ≤ length (part place end image)
  part_long w ahead =
      let within = ahead.within in
      omega (arith, part_length place end w image ahead)

  -- the gate, and what stands behind it
  gate_is : (w : List ℕ) → AreAhead place w end image → 1 ≤ length w
      → part place end image ≡ get_or w 0 0 ∷ drop 1 (part place end image)
  gate_is w ahead some =
      drop_more (part place end image) 0 0 (let l = part_long w ahead in omega arith)
      ∙ ap (λ v. v ∷ drop 1 (part place end image)) (byte_is w 0 ahead (omega arith))

  pub closed_there : (w : List ℕ) → AreAhead place w end image → 1 ≤ length w → (get_or w 0 0 ≡ 1 → ⊥) → IsClosed (part place end image)
  closed_there w ahead some closed = record {
    gate = get_or w 0 0;
    tail = drop 1 (part place end image);
    is = gate_is w ahead some;
    closed = closed;
  }

  -- the number behind the gate is the file's
  number_there : (w : List ℕ) → AreAhead place w end image → 5 ≤ length w → take 4 (drop 1 w) ≡ take 4 (drop 1 (part place end image))
  number_there w ahead long =
      let bytes = part place end image in
      let parts : length w ≡ 1 + (length w - 1) = omega arith in
      ap (λ v. take 4 (drop 1 v)) (part_is place end w image ahead ∙ ap (λ v. take v bytes) parts)
      ∙ ap (take 4) (drop-take 1 (length w - 1) bytes) ∙ take-take 4 (length w - 1) (drop 1 bytes) (omega arith)

  number_is_there : (w : List ℕ) → AreAhead place w end image → 5 ≤ length w → number (drop 1 w) ≡ number (drop 1 (part place end image))
  unfolding number
  number_is_there w ahead long = ap (from_be_bytes w32) (number_there w ahead long)

-- the number in front of the content of a batch
pub number_framed : (batch : List (List ℕ)) (rest : List ℕ) → IsBatch batch → number (drop 1 (framed batch ++ rest)) ≡ length (content batch)
unfolding number framed
number_framed batch rest one = let fits = one.fits in from_be_bytes-to_be_bytes_4 (length (content batch)) (omega arith)

pub framed_length : (batch : List (List ℕ)) → length (framed batch) ≡ 5 + length (content batch)
unfolding framed
framed_length batch = omega arith

pub content_some : (batch : List (List ℕ)) → IsBatch batch → 1 ≤ length (content batch)
content_some [] one = absurd (let some = one.some in omega arith)
content_some (r ∷ rs) one = omega (arith, length-append (held r) (content rs), held_length r)

-- a content that has bytes is that of some records
pub content_of_some : (batch : List (List ℕ)) → 1 ≤ length (content batch) → 1 ≤ length batch
content_of_some [] some = absurd (omega arith)
content_of_some (r ∷ rs) some = omega arith

-- behind its head stands the content
pub content_behind : (batch : List (List ℕ)) (rest bytes : List ℕ) → bytes ≡ framed batch ++ rest
    → take (length (content batch)) (drop 5 bytes) ≡ content batch
unfolding framed
content_behind batch rest bytes is =
    let four = to_be_bytes w32 (length (content batch)) in
    ap (λ v. take (length (content batch)) (drop 5 v)) (is ∙ append_assoc (1 ∷ four) (content batch) rest)
    ∙ take_at (content batch) rest (length (content batch)) refl

-- a batch that stands at a place ends within the file
pub open_ends : (place end : ℕ) (batch : List (List ℕ)) (bytes : List ℕ) → IsOpen place batch bytes → place + length bytes ≤ end
    → EndsWithin place end (length (content batch))
open_ends place end batch bytes open_there within =
    let long = ap length open_there.is in
    let a = length-append (framed batch) open_there.rest in
    let f = framed_length batch in
    record {
      some = content_some batch open_there.one;
      fits = open_there.one.fits;
      whole = omega arith;
      small = open_there.small;
    }

-- what holds of the bytes of a file from an open gate on, of which some were read
module _ (place : ℕ) (end : ℕ) (image : List ℕ) where
  -- the part of the file, where a batch stands there
  batch_long : (w : List ℕ) (batch : List (List ℕ)) → AreAhead place w end image → IsOpen place batch (part place end image)
      → EndsWithin place end (length (content batch)) × (5 ≤ end - place)
  batch_long w batch ahead open_there =
      let l = part_length place end w image ahead in
      let long = ap length open_there.is in
      let a = length-append (framed batch) open_there.rest in
      let f = framed_length batch in
      let s = content_some batch open_there.one in
      (open_ends place end batch (part place end image) open_there (omega arith), omega arith)

  -- the number that was read isn't that of a batch
  pub no_head_there : (w : List ℕ) → AreAhead place w end image → 1 ≤ length w → get_or w 0 0 ≡ 1
      → (length w < 5 → end ≤ place + length w) → BeginWithNoHead w place end → IsBroken place (part place end image)
  no_head_there w ahead some gate enough none = inr (
    drop 1 (part place end image),
    gate_is place end image w ahead some ∙ ap (λ v. v ∷ drop 1 (part place end image)) gate,
    λ batch open_there.
        let long = batch_long w batch ahead open_there in
        let within = ahead.within in
        let five : 5 ≤ length w =
        ⊎_elim (λ (short : length w < 5). absurd (let over = enough short in let l = long.1 in omega arith)) (λ (le : 5 ≤ length w). le)
        (cases_lt (length w) 5) in
        let n : number (drop 1 w) ≡ length (content batch) =
        number_is_there place end image w ahead five ∙ ap (λ v. number (drop 1 v)) open_there.is
        ∙ number_framed batch open_there.rest open_there.one in
        let P : ℕ → Type 0 = λ v. EndsWithin place end v in
        none five (subst P (sym n) long.0),
  )

  -- what was read behind a head of a content of so many bytes is the file's
  content_there : (w : List ℕ) (n : ℕ) → AreAhead place w end image → 5 + n ≤ length w
      → take n (drop 5 w) ≡ take n (drop 5 (part place end image))
  content_there w n ahead long =
      let bytes = part place end image in
      let parts : length w ≡ 5 + (length w - 5) = omega arith in
      ap (λ v. take n (drop 5 v)) (part_is place end w image ahead ∙ ap (λ v. take v bytes) parts)
      ∙ ap (take n) (drop-take 5 (length w - 5) bytes) ∙ take-take n (length w - 5) (drop 5 bytes) (omega arith)

  -- so no batch stands there where these bytes aren't records
  pub no_content_there : (w v : List ℕ) (n : ℕ) → AreAhead place w end image → AreAhead place v end image → BeginWithHead w place end n
      → 5 + n ≤ length v → get_or w 0 0 ≡ 1 → (AreRecords (take n (drop 5 v)) → ⊥) → IsBroken place (part place end image)
  no_content_there w v n ahead held head long gate none = inr (
    drop 1 (part place end image),
    gate_is place end image w ahead (let l = head.long in omega arith) ∙ ap (λ v. v ∷ drop 1 (part place end image)) gate,
    λ batch open_there.
        let many : n ≡ length (content batch) =
        head.number_is ∙ number_is_there place end image w ahead head.long ∙ ap (λ v. number (drop 1 v)) open_there.is
        ∙ number_framed batch open_there.rest open_there.one in
        none (
          batch,
          open_there.one.each,
          content_there v n held long ∙ ap (λ k. take k (drop 5 (part place end image))) many
              ∙ content_behind batch open_there.rest (part place end image) open_there.is,
        ),
  )

  -- and one does where they are
  pub open_there : (w v : List ℕ) (n : ℕ) → AreAhead place w end image → AreAhead place v end image → BeginWithHead w place end n
      → 5 + n ≤ length v → get_or w 0 0 ≡ 1 → AreRecords (take n (drop 5 v))
      → (batch : List (List ℕ)) × IsOpen place batch (part place end image) × (take n (drop 5 v) ≡ content batch)
      × (n ≡ length (content batch))
  unfolding framed
  open_there w v n ahead held head long gate are =
      let bytes = part place end image in
      let batch = are.0 in
      let ends = head.ends in
      let there : length (take n (drop 5 v)) ≡ n =
      (let t = length-take n (drop 5 v) in let d = length-drop 5 v in omega arith) in
      let many : n ≡ length (content batch) = sym there ∙ ap length are.2 in
      let some : 1 ≤ length batch = content_of_some batch (let s = ends.some in omega arith) in
      let behind : drop 5 bytes ≡ content batch ++ drop (5 + n) bytes =
      sym (take-append-drop n (drop 5 bytes)) ∙ ap (λ k. k ++ drop n (drop 5 bytes)) (sym (content_there v n held long) ∙ are.2)
      ∙ ap (λ k. content batch ++ k) (drop-drop n 5 bytes) in
      let four : take 4 (drop 1 bytes) ≡ to_be_bytes w32 (length (content batch)) =
      sym (number_there place end image w ahead head.long) ∙ sym head.back ∙ ap (to_be_bytes w32) many in
      let whole : bytes ≡ 1 ∷ (to_be_bytes w32 (length (content batch)) ++ (content batch ++ drop (5 + n) bytes)) =
      gate_is place end image w ahead (let l = head.long in omega arith) ∙ ap (λ v. v ∷ drop 1 bytes) gate
      ∙ ap (λ v. 1 ∷ v) (sym (take-append-drop 4 (drop 1 bytes)) ∙ ap (λ v. v ++ drop 4 (drop 1 bytes)) four
      ∙ ap (λ v. to_be_bytes w32 (length (content batch)) ++ v) (drop-drop 4 1 bytes ∙ behind)) in (
        batch,
        record {
          one = record { some = some; each = are.1; fits = omega (arith, ends.fits, many) };
          rest = drop (5 + n) bytes;
          is = whole ∙ ap (λ v. 1 ∷ v) (sym (append_assoc (to_be_bytes w32 (length (content batch))) (content batch) (drop (5 + n) bytes)));
          small = omega (arith, ends.small, many);
        },
        are.2,
        many,
      )

-- once some of the bytes ahead are passed, the others are ahead
pub ahead_passed : (place end k : ℕ) (w image : List ℕ) → AreAhead place w end image → k ≤ length w → AreAhead (place + k) (drop k w) end image
ahead_passed place end k w image ahead le =
    let within = ahead.within in
    let d = length-drop k w in
    let parts : length w ≡ k + length (drop k w) = omega arith in
    record {
      long = ahead.long;
      is = ap (drop k) (ahead.is ∙ ap (λ v. take v (drop place image)) parts) ∙ drop-take k (length (drop k w)) (drop place image)
          ∙ ap (take (length (drop k w))) (drop-drop k place image);
      within = omega arith;
    }
