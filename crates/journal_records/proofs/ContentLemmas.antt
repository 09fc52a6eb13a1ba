-- Numbers in front of bytes, and the content of a batch.
use Rattle.std.proofs.Common.{◌≡◌, ◌∙◌, sym, ap, subst, ℕ, suc, ◌+◌, ◌-◌, ◌≤◌, ◌<◌, List, [], ◌∷◌, ◌++◌, length, take, drop, get_or}
use Rattle.std.proofs.Common.{All, append_assoc, length-append, length-take, length-drop, refl, arith}
use Rattle.std.specs.Int.{w32, to_be_bytes, from_be_bytes}
use Rattle.std.proofs.lemmas.Nat.{from_be_bytes-to_be_bytes_4, be_bytes_4}
use Rattle.std.proofs.lemmas.List.{take_at, drop_at, take-append-drop, drop-drop, nil_from_length}
use Rattle.std.proofs.lemmas.List.Elements.{All-cons, All-nil}
use Rattle.journal_records.specs.File.{number, held, content, IsRecord}
use Rattle.journal_records.specs.Reading.{AreRecords, BeginWithRecord, BeginWithNone}
use Rattle.journal_records.proofs.ByteLemmas.{below_take, four_at}

-- the number of four bytes at the front
pub number_is : (bytes : List ℕ) (n : ℕ) → 4 ≤ length bytes
    → n ≡ from_be_bytes w32 (get_or bytes 0 0 ∷ get_or bytes 1 0 ∷ get_or bytes 2 0 ∷ get_or bytes 3 0 ∷ []) → n ≡ number bytes
unfolding number
number_is bytes n long is = is ∙ ap (from_be_bytes w32) (sym (four_at 0 bytes long))

-- they are those of their number
pub number_back : (bytes : List ℕ) → ((i : ℕ) → get_or bytes i 0 < 256) → 4 ≤ length bytes → to_be_bytes w32 (number bytes) ≡ take 4 bytes
unfolding number
number_back bytes small long =
    be_bytes_4 (take 4 bytes) (from_be_bytes w32 (take 4 bytes)) (let t = length-take 4 bytes in omega arith) (below_take 4 bytes small) refl

pub held_length : (bytes : List ℕ) → length (held bytes) ≡ 4 + length bytes
unfolding held
held_length bytes = omega arith

-- the number in front of a record
pub number_held : (r rest : List ℕ) → IsRecord r → number (held r ++ rest) ≡ length r
unfolding number held
number_held r rest one = let fits = one.fits in from_be_bytes-to_be_bytes_4 (length r) (omega arith)

-- behind it stand the record and the rest
pub behind_number : (r rest : List ℕ) → drop 4 (held r ++ rest) ≡ r ++ rest
unfolding held
behind_number r rest = refl

-- the first of two records is one, whatever stands behind it
pub first_held : (r q x y : List ℕ) → IsRecord r → IsRecord q → held r ++ x ≡ held q ++ y → (r ≡ q) × (x ≡ y)
first_held r q x y one other is =
    let many : length r ≡ length q = sym (number_held r x one) ∙ ap number is ∙ number_held q y other in
    let behind : r ++ x ≡ q ++ y = sym (behind_number r x) ∙ ap (drop 4) is ∙ behind_number q y in (
      sym (take_at r x (length r) refl) ∙ ap (take (length r)) behind ∙ take_at q y (length r) (sym many),
      sym (drop_at r x (length r) refl) ∙ ap (drop (length r)) behind ∙ drop_at q y (length r) (sym many),
    )

-- the first of the records is one, and so is each of the rest
pub each_first : (r : List ℕ) (rs : List (List ℕ)) → All IsRecord (r ∷ rs) → IsRecord r
each_first r rs each = each 0 [] (omega arith)

pub each_rest : (r : List ℕ) (rs : List (List ℕ)) → All IsRecord (r ∷ rs) → All IsRecord rs
each_rest r rs each = λ k d lt. each (suc k) d (omega arith)

-- bytes that begin with a record, by their number
pub begin_with : (bytes : List ℕ) (n : ℕ) → ((i : ℕ) → get_or bytes i 0 < 256) → 4 ≤ length bytes → n ≡ number bytes → 1 ≤ n → n ≤ 65536
    → n + 4 ≤ length bytes → BeginWithRecord bytes n
unfolding held
begin_with bytes n small long is some fits room =
    let r = take n (drop 4 bytes) in
    let many : length r ≡ n = (let t = length-take n (drop 4 bytes) in let d = length-drop 4 bytes in omega arith) in
    let four : to_be_bytes w32 (length r) ≡ take 4 bytes = ap (to_be_bytes w32) (many ∙ is) ∙ number_back bytes small long in
    record {
      one = record { some = omega arith; fits = omega arith };
      size = many;
      is =
          sym (take-append-drop 4 bytes) ∙ ap (λ v. v ++ drop 4 bytes) (sym four)
          ∙ ap (λ v. to_be_bytes w32 (length r) ++ v) (sym (take-append-drop n (drop 4 bytes))
          ∙ ap (λ v. r ++ v) (drop-drop n 4 bytes))
          ∙ sym (append_assoc (to_be_bytes w32 (length r)) r (drop (4 + n) bytes));
    }

-- bytes too few for a number begin with none, and so do those whose number is out of bounds
pub none_by_length : (bytes : List ℕ) → length bytes < 4 → BeginWithNone bytes
none_by_length bytes short r rest one is =
    omega (arith, ap length is, length-append (held r) rest, held_length r)

pub none_by_number : (bytes : List ℕ) (n : ℕ) → n ≡ number bytes → (1 ≤ n → n ≤ 65536 → n + 4 ≤ length bytes → ⊥) → BeginWithNone bytes
none_by_number bytes n is out r rest one same =
    let some = one.some in
    let fits = one.fits in
    let many : n ≡ length r = is ∙ ap number same ∙ number_held r rest one in
    let long : length bytes ≡ 4 + length r + length rest =
    ap length same ∙ (let a = length-append (held r) rest in let h = held_length r in omega arith) in
    out (omega arith) (omega arith) (omega arith)

-- nothing is the content of no record
pub no_records : (bytes : List ℕ) → length bytes ≡ 0 → AreRecords bytes
no_records bytes none = ([], All-nil IsRecord, nil_from_length bytes none)

-- a record in front of some
pub records_more : (r rest bytes : List ℕ) → IsRecord r → bytes ≡ held r ++ rest → AreRecords rest → AreRecords bytes
records_more r rest bytes one is are = (
  r ∷ are.0,
  All-cons IsRecord r are.0 one are.1,
  is ∙ ap (λ v. held r ++ v) are.2,
)

-- behind a record in front stand the others
pub records_rest : (r rest bytes : List ℕ) → IsRecord r → bytes ≡ held r ++ rest → AreRecords bytes → AreRecords rest
records_rest r rest bytes one is ([], each, same) =
    absurd (omega (arith, ap length (sym is ∙ same), length-append (held r) rest, held_length r))
records_rest r rest bytes one is (q ∷ qs, each, same) =
    (qs, each_rest q qs each, (first_held r q rest (content qs) one (each_first q qs each) (sym is ∙ same)).1)

-- bytes that begin with none aren't those of records
pub records_none : (bytes : List ℕ) → 1 ≤ length bytes → BeginWithNone bytes → AreRecords bytes → ⊥
records_none bytes some none ([], each, same) = omega (arith, ap length same)
records_none bytes some none (q ∷ qs, each, same) = none q (content qs) (each_first q qs each) same

-- Bytes of which the first so many are records: the first of these, and those behind it.
pub record Front (w : List ℕ) (left : ℕ) : Type 0 where
  pub r : List ℕ
  pub one : IsRecord r
  pub is : w ≡ held r ++ drop (4 + length r) w
  pub room : 4 + length r ≤ left
  pub rest : AreRecords (take (left - (4 + length r)) (drop (4 + length r) w))

pub front_record : (w : List ℕ) (left : ℕ) → 1 ≤ left → left ≤ length w → AreRecords (take left w) → Front w left
front_record w left some within ([], each, same) = absurd (omega (arith, ap length same, length-take left w))
front_record w left some within (q ∷ qs, each, same) =
    let many : left ≡ 4 + length q + length (content qs) =
    (let t = length-take left w in let e = ap length same in let a = length-append (held q) (content qs) in let h = held_length q in omega arith)
    in
    let whole : w ≡ held q ++ (content qs ++ drop left w) =
    sym (take-append-drop left w) ∙ ap (λ v. v ++ drop left w) same ∙ append_assoc (held q) (content qs) (drop left w) in
    let behind : drop (4 + length q) w ≡ content qs ++ drop left w =
    ap (drop (4 + length q)) whole ∙ drop_at (held q) (content qs ++ drop left w) (4 + length q) (held_length q) in
    record {
      r = q;
      one = each_first q qs each;
      is = whole ∙ ap (λ v. held q ++ v) (sym behind);
      room = omega arith;
      rest = (
        qs,
        each_rest q qs each,
        ap (take (left - (4 + length q))) behind ∙ take_at (content qs) (drop left w) (left - (4 + length q)) (omega arith),
      );
    }

-- its number
pub front_number : (w : List ℕ) (left n : ℕ) → (f : Front w left) → n ≡ number w → n ≡ length f.r
front_number w left n f is = is ∙ ap number f.is ∙ number_held f.r (drop (4 + length f.r) w) f.one

-- once it is passed, it is the last of what was
pub last_passed : (passed w : List ℕ) (left n : ℕ) → (f : Front w left) → n ≡ length f.r
    → drop (length (passed ++ take (4 + n) w) - n) (passed ++ take (4 + n) w) ≡ f.r
unfolding held
last_passed passed w left n f is =
    let r = f.r in
    let four = to_be_bytes w32 (length r) in
    let taken : take (4 + n) w ≡ four ++ r =
    ap (λ v. take (4 + v) w) is ∙ ap (take (4 + length r)) f.is ∙ take_at (held r) (drop (4 + length r) w) (4 + length r) (held_length r) in
    let whole : passed ++ take (4 + n) w ≡ (passed ++ four) ++ r = ap (λ v. passed ++ v) taken ∙ sym (append_assoc passed four r) in
    let long : length (passed ++ take (4 + n) w) - n ≡ length (passed ++ four) =
    (let e = ap length whole in let a = length-append (passed ++ four) r in omega arith) in
    ap (λ v. drop v (passed ++ take (4 + n) w)) long ∙ ap (drop (length (passed ++ four))) whole
    ∙ drop_at (passed ++ four) r (length (passed ++ four)) refl

-- and what is ahead then are the bytes behind it
pub passed_rest : (w : List ℕ) (left n : ℕ) → (f : Front w left) → n ≡ length f.r → AreRecords (take (left - (4 + n)) (drop (4 + n) w))
passed_rest w left n f is =
    let P : ℕ → Type 0 = λ v. AreRecords (take (left - (4 + v)) (drop (4 + v) w)) in subst P (sym is) f.rest

pub passed_is : (w r : List ℕ) (left n : ℕ) → (f : Front w left) → n ≡ length f.r → r ≡ f.r → w ≡ held r ++ drop (4 + n) w
passed_is w r left n f is same = f.is ∙ ap (λ v. held v ++ drop (4 + length f.r) w) (sym same) ∙ ap (λ v. held r ++ drop (4 + v) w) (sym is)
