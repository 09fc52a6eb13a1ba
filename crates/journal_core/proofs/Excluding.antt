-- What a file is, it is once: its records, its header, and the place where it breaks.
use Rattle.std.proofs.Common.{◌≡◌, ◌≢◌, ◌⊎◌, ◌∙◌, sym, ap, subst, inl, inr, ⊎_elim, ℕ, ◌+◌, ◌-◌, ◌≤◌, ◌<◌, List, [], ◌∷◌, ◌++◌, length}
use Rattle.std.proofs.Common.{take, drop, get_or, All, append_assoc, length-append, length-take, refl, arith}
use Rattle.std.specs.Int.{w32, to_be_bytes, from_be_bytes}
use Rattle.std.proofs.lemmas.Nat.{from_be_bytes-to_be_bytes_4}
use Rattle.std.proofs.lemmas.Bool.{cases_lt, cases_order}
use Rattle.std.proofs.lemmas.List.{take_at, drop_at, get_or-take, get_or-drop}
use Rattle.journal_records.specs.File.{header, framed, blocks, gate_place, records_of_all, IsBatch, HasBatches}
use Rattle.journal_records.specs.File.{HasRecords}
use Rattle.journal_records.specs.Head.{IsOpen, IsBroken, BeginsWith}
use Rattle.journal_records.proofs.HeadLemmas.{framed_length}
use Rattle.journal_core.specs.Header.{MayStand}
use Rattle.journal_core.specs.Exclusion.{IsWholeOrUnmade, IsWholeOrForeign, IsWholeOrBroken, IsWholeOnce, IsHeadedOrNot, IsForeignOnce}
use Rattle.journal_core.specs.Exclusion.{BreaksOnce}
use Rattle.journal_core.proofs.Records.{header_length, batch_first, batch_rest, first_once, records_of}
use Rattle.journal_core.proofs.HeaderLemmas.{made_not_unmade}

-- these bytes, from place `end` of a file on, don't begin with a batch
pub record HasNone (end : ℕ) (bytes : List ℕ) : Type 0 where
  pub none : (batch : List (List ℕ)) → IsOpen end batch bytes → ⊥

-- nor do those behind a closed gate, and those where the file is broken
closed_none : (end gate : ℕ) (tail : List ℕ) → gate ≢ 1 → HasNone end (gate ∷ tail)
unfolding framed
closed_none end gate tail closed = record { none = λ batch there. closed (ap (λ v. get_or v 0 0) there.is) }

broken_none : (end : ℕ) (bytes : List ℕ) → IsBroken end bytes → HasNone end bytes
broken_none end bytes broken = record {
  none = λ batch there. ⊎_elim
      (λ (nothing : bytes ≡ []). (let e = ap length (sym nothing ∙ there.is) in
      omega (arith, length-append (framed batch) there.rest, framed_length batch)))
      (λ (open_gate : (body : List ℕ) × (bytes ≡ 1 ∷ body) × ((some : List (List ℕ)) → IsOpen end some bytes → ⊥)).
      open_gate.2 batch there)
      broken;
}

-- Two ways to cut bytes into batches, up to where there is none, are one.
pub same_batches : (end : ℕ) (bs cs : List (List (List ℕ))) (x y : List ℕ) → All IsBatch bs → All IsBatch cs
    → end + length (blocks bs) < 268435456 → end + length (blocks cs) < 268435456
    → HasNone (end + length (blocks bs)) x → HasNone (end + length (blocks cs)) y → blocks bs ++ x ≡ blocks cs ++ y → (bs ≡ cs) × (x ≡ y)
same_batches end [] [] x y each others small low none none_too is = (refl, is)
same_batches end [] (c ∷ cs) x y each others small low none none_too is =
    let P : ℕ → Type 0 = λ v. HasNone v x in
    absurd ((subst P (let e : end + 0 ≡ end = omega arith in e) none).none c (record {
      one = batch_first c cs others;
      rest = blocks cs ++ y;
      is = is ∙ append_assoc (framed c) (blocks cs) y;
      small = omega (arith, length-append (framed c) (blocks cs), framed_length c);
    }))
same_batches end (b ∷ bs) [] x y each others small low none none_too is =
    let P : ℕ → Type 0 = λ v. HasNone v y in
    absurd ((subst P (let e : end + 0 ≡ end = omega arith in e) none_too).none b (record {
      one = batch_first b bs each;
      rest = blocks bs ++ x;
      is = sym is ∙ append_assoc (framed b) (blocks bs) x;
      small = omega (arith, length-append (framed b) (blocks bs), framed_length b);
    }))
same_batches end (b ∷ bs) (c ∷ cs) x y each others small low none none_too is =
    let first = first_once b c (blocks bs ++ x) (blocks cs ++ y) (batch_first b bs each) (batch_first c cs others)
    (sym (append_assoc (framed b) (blocks bs) x) ∙ is ∙ append_assoc (framed c) (blocks cs) y) in
    let more : (d : List (List ℕ)) (ds : List (List (List ℕ))) → end + length (blocks (d ∷ ds)) ≡ end + length (framed d) + length (blocks ds) =
    λ d ds. omega (arith, length-append (framed d) (blocks ds)) in
    let same : length (framed b) ≡ length (framed c) = ap (λ v. length (framed v)) first.0 in
    let P : ℕ → Type 0 = λ v. HasNone v x in
    let Q : ℕ → Type 0 = λ v. HasNone v y in
    let place : end + length (blocks (c ∷ cs)) ≡ end + length (framed b) + length (blocks cs) = omega (arith, more c cs) in
    let rest = same_batches (end + length (framed b)) bs cs x y (batch_rest b bs each) (batch_rest c cs others) (omega (arith, more b bs))
    (omega arith)
    (subst P (more b bs) none) (subst Q place none_too) first.1 in
    (ap (λ v. v ∷ bs) first.0 ∙ ap (λ v. c ∷ v) rest.0, rest.1)

-- what stands behind the header
behind_header : (m : ℕ) (x image : List ℕ) → image ≡ header m ++ x → drop 32 image ≡ x
behind_header m x image is = ap (drop 32) is ∙ drop_at (header m) x 32 (header_length m)

-- the header in front
front_header : (m : ℕ) (x image : List ℕ) → image ≡ header m ++ x → take 32 image ≡ header m
front_header m x image is = ap (take 32) is ∙ take_at (header m) x 32 (header_length m)

-- a whole file and one that breaks: the batches, and what stands behind them
pub same_behind : (m k : ℕ) (bs cs : List (List (List ℕ))) (x y image : List ℕ) → BeginsWith m bs x image → BeginsWith k cs y image
    → HasNone (gate_place bs) x → HasNone (gate_place cs) y → (bs ≡ cs) × (x ≡ y)
same_behind m k bs cs x y image one other none none_too =
    same_batches 32 bs cs x y one.each other.each one.small other.small none none_too
    (sym (behind_header m (blocks bs ++ x) image (one.is ∙ append_assoc (header m) (blocks bs) x))
    ∙ behind_header k (blocks cs ++ y) image (other.is ∙ append_assoc (header k) (blocks cs) y))

-- a whole file begins with its batches
pub begins_of : (m : ℕ) (bs : List (List (List ℕ))) (image : List ℕ) → (has : HasBatches m bs image)
    → BeginsWith m bs (has.gate ∷ has.tail) image
begins_of m bs image has = record { is = has.is; each = has.each; small = has.small }

-- two headers of one file are of one manager
pub same_manager : (m n : ℕ) (image : List ℕ) → m < 4294967296 → n < 4294967296 → take 32 image ≡ header m → take 32 image ≡ header n
    → m ≡ n
unfolding header
same_manager m n image fits small one other =
    let four : to_be_bytes w32 m ≡ to_be_bytes w32 n = ap (λ v. take 4 (drop 9 v)) (sym one ∙ other) in
    sym (from_be_bytes-to_be_bytes_4 m (omega arith)) ∙ ap (from_be_bytes w32) four ∙ from_be_bytes-to_be_bytes_4 n (omega arith)

-- all headers are the same but for the number
same_low : (m k : ℕ) → k < 9 → get_or (header m) k 0 ≡ get_or (header 0) k 0
unfolding header
same_low m k lt = sym (get_or-take 9 (header m) k 0 lt) ∙ get_or-take 9 (header 0) k 0 lt

same_high : (m k : ℕ) → 13 ≤ k → get_or (header m) k 0 ≡ get_or (header 0) k 0
unfolding header
same_high m k le =
    let place : 13 + (k - 13) ≡ k = omega arith in
    let P : ℕ → Type 0 = λ v. get_or (header m) v 0 ≡ get_or (header 0) v 0 in
    subst P place (sym (get_or-drop 13 (header m) (k - 13) 0) ∙ get_or-drop 13 (header 0) (k - 13) 0)

-- a file with a header has a byte at each of its places that may stand there
headed_stands : (m k : ℕ) (image : List ℕ) → take 32 image ≡ header m → k < 32 → MayStand k image
headed_stands m k image is lt =
    let at : get_or image k 0 ≡ get_or (header m) k 0 = sym (get_or-take 32 image k 0 lt) ∙ ap (λ v. get_or v k 0) is in
    let len : length (take 32 image) ≡ 32 = ap length is ∙ header_length m in
    record {
      there = omega (arith, length-take 32 image);
      right = ⊎_elim (λ (low : k < 9). inr (at ∙ same_low m k low))
          (λ (from : 9 ≤ k). ⊎_elim (λ (number : k < 13). inl (from, omega arith)) (λ (high : 13 ≤ k). inr (at ∙ same_high m k high))
          (cases_lt k 13))
          (cases_lt k 9);
    }

pub whole_front : (m : ℕ) (rs : List (List ℕ)) (image : List ℕ) → HasRecords m rs image → take 32 image ≡ header m
whole_front m rs image has =
    let file = has.file in
    front_header m (blocks has.batches ++ file.gate ∷ file.tail) image
    (file.is ∙ append_assoc (header m) (blocks has.batches) (file.gate ∷ file.tail))

pub headed_or_not : IsHeadedOrNot
headed_or_not m image has = (
  λ unmade. made_not_unmade m unmade.0 image has.front unmade.1,
  λ place foreign. (let within = foreign.differs.within in foreign.differs.differs (headed_stands m place image has.front within)),
)

pub whole_or_unmade : IsWholeOrUnmade
whole_or_unmade m rs image has unmade = made_not_unmade m unmade.0 image (whole_front m rs image has) unmade.1

pub whole_or_foreign : IsWholeOrForeign
whole_or_foreign m place rs image has foreign =
    let within = foreign.differs.within in foreign.differs.differs (headed_stands m place image (whole_front m rs image has) within)

pub whole_or_broken : IsWholeOrBroken
whole_or_broken m k n rs image has broken =
    let file = has.file in
    let same = same_behind m k has.batches broken.batches (file.gate ∷ file.tail) broken.rest image (begins_of m has.batches image file)
    broken.begins (closed_none (gate_place has.batches) file.gate file.tail file.closed)
    (broken_none (gate_place broken.batches) broken.rest broken.broken) in
    ⊎_elim (λ (nothing : broken.rest ≡ []). (let e = ap length (same.1 ∙ nothing) in omega arith))
    (λ (open_gate : (body : List ℕ) × (broken.rest ≡ 1 ∷ body)
    × ((some : List (List ℕ)) → IsOpen (gate_place broken.batches) some broken.rest → ⊥)).
    file.closed (ap (λ v. get_or v 0 0) (same.1 ∙ open_gate.1)))
    broken.broken

pub whole_once : IsWholeOnce
whole_once m n rs qs image fits small one other = (
  same_manager m n image fits small (whole_front m rs image one) (whole_front n qs image other),
  sym (records_of m rs image one) ∙ records_of n qs image other,
)

pub foreign_once : IsForeignOnce
foreign_once p q image one other =
    ⊎_elim (λ (same : p ≡ q). same)
    (λ (apart : (p < q) ⊎ (q < p)).
    ⊎_elim (λ (lt : p < q). absurd (one.differs.differs (other.differs.before p lt)))
    (λ (lt : q < p). absurd (other.differs.differs (one.differs.before q lt))) apart)
    (cases_order p q)

pub breaks_once : BreaksOnce
breaks_once m k n i image one other =
    let same = same_behind m k one.batches other.batches one.rest other.rest image one.begins other.begins
    (broken_none (gate_place one.batches) one.rest one.broken) (broken_none (gate_place other.batches) other.rest other.broken) in
    one.place ∙ ap (λ v. length (records_of_all v) + 1) same.0 ∙ sym other.place
