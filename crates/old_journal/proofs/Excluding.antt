-- What a file is, it is once: its records, its header, and the place where it breaks.
use Rattle.std.proofs.Common.{◌≡◌, ◌≢◌, ◌⊎◌, ◌∙◌, sym, ap, subst, inl, inr, ⊎_elim, ℕ, ◌+◌, ◌-◌, ◌≤◌, ◌<◌, List, []}
use Rattle.std.proofs.Common.{◌∷◌, ◌++◌, length}
use Rattle.std.proofs.Common.{take, drop, get_or, All, append_assoc, length-append, length-take, refl, arith}
use Rattle.std.specs.Int.{w32, to_be_bytes, from_be_bytes}
use Rattle.std.proofs.lemmas.Nat.{from_be_bytes-to_be_bytes_4}
use Rattle.std.proofs.lemmas.Bool.{cases_lt, cases_order}
use Rattle.std.proofs.lemmas.List.{take_at, drop_at, get_or-take, get_or-drop}
use Rattle.old_journal.specs.File.{header, cut_records, framed, blocks, size, HasRecords}
use Rattle.journal_records.specs.File.{IsRecord}
use Rattle.old_journal.specs.Header.{MayStand}
use Rattle.journal_records.specs.File.{number}
use Rattle.old_journal.specs.Head.{IsBody, IsBroken, BeginsWith}
use Rattle.old_journal.specs.Exclusion.{IsWholeOrUnmade, IsWholeOrForeign, IsWholeOrBroken, IsWholeOnce, IsHeadedOrNot}
use Rattle.old_journal.specs.Exclusion.{IsForeignOnce}
use Rattle.old_journal.specs.Exclusion.{BreaksOnce}
use Rattle.old_journal.proofs.Records.{header_length, framed_length, each_first, each_rest, open_cut, records_of}
use Rattle.old_journal.proofs.HeaderLemmas.{made_not_unmade}

-- these bytes, from place `end` of a file on, don't begin with a record
pub record HasNone (end : ℕ) (bytes : List ℕ) : Type 0 where
  pub none : (r rest : List ℕ) → IsRecord r → end + 5 + length r < 268435456 → bytes ≡ framed r ++ rest → ⊥

-- nor do those behind a closed gate, and those where the file is broken
closed_none : (end gate : ℕ) (tail : List ℕ) → gate ≢ 1 → HasNone end (gate ∷ tail)
unfolding framed
closed_none end gate tail closed = record { none = λ r rest one small is. closed (ap (λ v. get_or v 0 0) is) }

-- an open record is a body behind an open gate
body_of : (end : ℕ) (body r rest : List ℕ) → IsRecord r → end + 5 + length r < 268435456 → 1 ∷ body ≡ framed r ++ rest
    → IsBody end body
unfolding framed number
body_of end body r rest one small is =
    let four = to_be_bytes w32 (length r) in
    let fits = one.fits in
    let behind : body ≡ four ++ (r ++ rest) = ap (drop 1) is ∙ append_assoc four r rest in
    let n : number body ≡ length r = ap (λ v. from_be_bytes w32 (take 4 v)) behind
    ∙ ap (from_be_bytes w32) (take_at four (r ++ rest) 4 refl) ∙ from_be_bytes-to_be_bytes_4 (length r) (omega arith) in
    let long : length body ≡ 4 + (length r + length rest) = ap length behind ∙ length-append four (r ++ rest)
    ∙ ap (λ v. 4 + v) (length-append r rest) in
    record {
      whole = omega (arith, n);
      some = omega (arith, n, one.some);
      fits = omega (arith, n);
      small =
          omega (arith, n);
    }

broken_none : (end : ℕ) (bytes : List ℕ) → IsBroken end bytes → HasNone end bytes
broken_none end bytes broken = record {
  none = λ r rest one small is. ⊎_elim
      (λ (nothing : bytes ≡ []). (let e = ap length (sym nothing ∙ is) in
      omega (arith, length-append (framed r) rest, framed_length r)))
      (λ (open_gate : (body : List ℕ) × (bytes ≡ 1 ∷ body) × (IsBody end body → ⊥)).
      open_gate.2 (body_of end open_gate.0 r rest one small (sym open_gate.1 ∙ is)))
      broken;
}

-- the first of two open records is one, whatever stands behind it
first_once : (r q x y : List ℕ) → IsRecord r → IsRecord q → framed r ++ x ≡ framed q ++ y → (r ≡ q) × (x ≡ y)
unfolding cut_records
first_once r q x y one other is =
    let cut : r ∷ [] ≡ q ∷ [] = sym (open_cut 0 r x one) ∙ ap (cut_records 1) is ∙ open_cut 0 q y other in
    let same : r ≡ q = ap (λ v. elim v as (λ _. List ℕ) [ [] ↦ [] | h ∷ t ↦ h ]) cut in
    let len : length (framed r) ≡ length (framed q) = ap (λ v. length (framed v)) same in (
      same,
      sym (drop_at (framed r) x (length (framed r)) refl) ∙ ap (λ v. drop (length (framed r)) v) is
          ∙ drop_at (framed q) y (length (framed r)) (sym len),
    )

-- Two ways to cut bytes into records, up to where there is none, are one.
pub same_records : (end : ℕ) (rs qs : List (List ℕ)) (a b : List ℕ) → All IsRecord rs → All IsRecord qs
    → end + length (blocks rs) < 268435456 → end + length (blocks qs) < 268435456
    → HasNone (end + length (blocks rs)) a → HasNone (end + length (blocks qs)) b → blocks rs ++ a ≡ blocks qs ++ b
    → (rs ≡ qs) × (a ≡ b)
same_records end [] [] a b each others small low none none_too is = (refl, is)
same_records end [] (q ∷ qs) a b each others small low none none_too is =
    absurd (none.none q (blocks qs ++ b) (each_first q qs others)
    (omega (arith, length-append (framed q) (blocks qs), framed_length q))
    (is ∙ append_assoc (framed q) (blocks qs) b))
same_records end (r ∷ rs) [] a b each others small low none none_too is =
    absurd (none_too.none r (blocks rs ++ a) (each_first r rs each)
    (omega (arith, length-append (framed r) (blocks rs), framed_length r))
    (sym is ∙ append_assoc (framed r) (blocks rs) a))
same_records end (r ∷ rs) (q ∷ qs) a b each others small low none none_too is =
    let first = first_once r q (blocks rs ++ a) (blocks qs ++ b) (each_first r rs each) (each_first q qs others)
    (sym (append_assoc (framed r) (blocks rs) a) ∙ is ∙ append_assoc (framed q) (blocks qs) b) in
    let more : (xs : List ℕ) (ys : List (List ℕ)) → end + length (blocks (xs ∷ ys)) ≡ end + length (framed xs) + length
    (blocks ys) =
    λ xs ys. omega (arith, length-append (framed xs) (blocks ys)) in
    let same : length (framed r) ≡ length (framed q) = ap (λ v. length (framed v)) first.0 in
    let P : ℕ → Type 0 = λ v. HasNone v a in
    let Q : ℕ → Type 0 = λ v. HasNone v b in
    let place : end + length (blocks (q ∷ qs)) ≡ end + length (framed r) + length (blocks qs) =
    omega (arith, more q qs) in
    let rest = same_records (end + length (framed r)) rs qs a b (each_rest r rs each) (each_rest q qs others)
    (omega (arith, more r rs))
    (omega arith)
    (subst P (more r rs) none) (subst Q place none_too) first.1 in
    (ap (λ v. v ∷ rs) first.0 ∙ ap (λ v. q ∷ v) rest.0, rest.1)

-- what stands behind the header
behind_header : (m : ℕ) (x image : List ℕ) → image ≡ header m ++ x → drop 32 image ≡ x
behind_header m x image is = ap (drop 32) is ∙ drop_at (header m) x 32 (header_length m)

-- the header in front
front_header : (m : ℕ) (x image : List ℕ) → image ≡ header m ++ x → take 32 image ≡ header m
front_header m x image is = ap (take 32) is ∙ take_at (header m) x 32 (header_length m)

-- a whole file and one that breaks: the records, and what stands behind them
pub same_behind : (m k : ℕ) (rs qs : List (List ℕ)) (a b image : List ℕ) → BeginsWith m rs a image
    → BeginsWith k qs b image
    → HasNone (size rs) a → HasNone (size qs) b → (rs ≡ qs) × (a ≡ b)
same_behind m k rs qs a b image one other none none_too =
    same_records 32 rs qs a b one.each other.each one.small other.small none none_too
    (sym (behind_header m (blocks rs ++ a) image (one.is ∙ append_assoc (header m) (blocks rs) a))
    ∙ behind_header k (blocks qs ++ b) image (other.is ∙ append_assoc (header k) (blocks qs) b))

-- a whole file begins with its records
pub begins_of : (m : ℕ) (rs : List (List ℕ)) (image : List ℕ) → (has : HasRecords m rs image)
    → BeginsWith m rs (has.gate ∷ has.tail) image
begins_of m rs image has = record { is = has.is; each = has.each; small = has.small }

-- two headers of one file are of one manager
pub same_manager : (m n : ℕ) (image : List ℕ) → m < 4294967296 → n < 4294967296 → take 32 image ≡ header m
    → take 32 image ≡ header n
    → m ≡ n
unfolding header
same_manager m n image fits small one other =
    let four : to_be_bytes w32 m ≡ to_be_bytes w32 n = ap (λ v. take 4 (drop 9 v)) (sym one ∙ other) in
    sym (from_be_bytes-to_be_bytes_4 m (omega arith)) ∙ ap (from_be_bytes w32) four
    ∙ from_be_bytes-to_be_bytes_4 n (omega arith)

-- all headers are the same but for the number
same_low : (m k : ℕ) → k < 9 → get_or (header m) k 0 ≡ get_or (header 0) k 0
unfolding header
same_low m k lt = sym (get_or-take 9 (header m) k 0 lt) ∙ get_or-take 9 (header 0) k 0 lt

same_high : (m k : ℕ) → 13 ≤ k → get_or (header m) k 0 ≡ get_or (header 0) k 0
unfolding header
same_high m k le =
    let place : 13 + (k - 13) ≡ k = omega arith in
    let P : ℕ → Type 0 = λ v. get_or (header m) v 0 ≡ get_or (header 0) v 0 in
    subst P place (sym (get_or-drop 13 (header m) (k - 13) 0) ∙ get_or-drop 13 (header 0) (k - 13) 0)

-- a file with a header has a byte at each of its places that may stand there
headed_stands : (m k : ℕ) (image : List ℕ) → take 32 image ≡ header m → k < 32 → MayStand k image
headed_stands m k image is lt =
    let at : get_or image k 0 ≡ get_or (header m) k 0 = sym (get_or-take 32 image k 0 lt) ∙ ap (λ v. get_or v k 0) is in
    let len : length (take 32 image) ≡ 32 = ap length is ∙ header_length m in
    record {
      there = omega (arith, length-take 32 image);
      right = ⊎_elim (λ (low : k < 9). inr (at ∙ same_low m k low))
          (λ (from : 9 ≤ k). ⊎_elim (λ (number : k < 13). inl (from, omega arith))
          (λ (high : 13 ≤ k). inr (at ∙ same_high m k high))
          (cases_lt k 13))
          (cases_lt k 9);
    }

pub whole_front : (m : ℕ) (rs : List (List ℕ)) (image : List ℕ) → HasRecords m rs image → take 32 image ≡ header m
whole_front m rs image has = front_header m (blocks rs ++ has.gate ∷ has.tail) image
    (has.is ∙ append_assoc (header m) (blocks rs) (has.gate ∷ has.tail))

pub headed_or_not : IsHeadedOrNot
headed_or_not m image has = (
  λ unmade. made_not_unmade m unmade.0 image has.front unmade.1,
  λ place foreign. (let within = foreign.differs.within in
      foreign.differs.differs (headed_stands m place image has.front within)),
)

pub whole_or_unmade : IsWholeOrUnmade
whole_or_unmade m rs image has unmade = made_not_unmade m unmade.0 image (whole_front m rs image has) unmade.1

pub whole_or_foreign : IsWholeOrForeign
whole_or_foreign m place rs image has foreign =
    let within = foreign.differs.within in foreign.differs.differs
    (headed_stands m place image (whole_front m rs image has) within)

pub whole_or_broken : IsWholeOrBroken
whole_or_broken m k n rs image has broken =
    let same = same_behind m k rs broken.rs (has.gate ∷ has.tail) broken.rest image (begins_of m rs image has)
    broken.begins
    (closed_none (size rs) has.gate has.tail has.closed) (broken_none (size broken.rs) broken.rest broken.broken) in
    ⊎_elim (λ (nothing : broken.rest ≡ []). (let e = ap length (same.1 ∙ nothing) in omega arith))
    (λ (open_gate : (body : List ℕ) × (broken.rest ≡ 1 ∷ body) × (IsBody (size broken.rs) body → ⊥)). has.closed
    (ap (λ v. get_or v 0 0) (same.1 ∙ open_gate.1)))
    broken.broken

pub whole_once : IsWholeOnce
whole_once m n rs qs image fits small one other = (
  same_manager m n image fits small (whole_front m rs image one) (whole_front n qs image other),
  sym (records_of m rs image one) ∙ records_of n qs image other,
)

pub foreign_once : IsForeignOnce
foreign_once p q image one other =
    ⊎_elim (λ (same : p ≡ q). same)
    (λ (apart : (p < q) ⊎ (q < p)).
    ⊎_elim (λ (lt : p < q). absurd (one.differs.differs (other.differs.before p lt)))
    (λ (lt : q < p). absurd (other.differs.differs (one.differs.before q lt))) apart)
    (cases_order p q)

pub breaks_once : BreaksOnce
breaks_once m k n i image one other =
    let same = same_behind m k one.rs other.rs one.rest other.rest image one.begins other.begins
    (broken_none (size one.rs) one.rest one.broken) (broken_none (size other.rs) other.rest other.broken) in
    one.place ∙ ap (λ v. length v + 1) same.0 ∙ sym other.place
