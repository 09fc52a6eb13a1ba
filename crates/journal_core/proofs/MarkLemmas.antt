-- The places that a journal keeps, where batches are added.
use Rattle.std.proofs.Common.{◌≡◌, ◌∙◌, sym, ap, subst, ℕ, ◌≤◌, ◌<◌, ◌+◌, true, false, Bool, List, [], ◌∷◌, ◌++◌, length, All, length-append, refl, arith}
use Rattle.std.proofs.Common.{if◌then◌else◌}
use Rattle.std.specs.Prelude.{nat_le, nat_lt, Contains}
use Rattle.std.specs.List.Sorted.{IsPartitionedBy, IsPartitionPoint}
use Rattle.std.proofs.Common.{lt-ltb, ltb-true, get_or, ⊎_elim, ◌-◌}
use Rattle.std.proofs.lemmas.Bool.{false≢true, cases_lt}
use Rattle.std.proofs.lemmas.List.{get_or_default}
use Rattle.std.proofs.lemmas.List.{take_at, take-append-le}
use Rattle.std.proofs.lemmas.List.Elements.{All-weaker, All-push}
use Rattle.journal_core.specs.declared.marks.Mark.{Mark}
use Rattle.journal_records.specs.File.{gate_place, records_of_all}
use Rattle.journal_core.specs.Marks.{IsMark, Kept, AreUpTo, AreInOrder, first_mark, one_more}

-- the place of the first gate is one, whatever the batches
pub mark_first : (bs : List (List (List ℕ))) → IsMark bs first_mark
mark_first bs = record { passed = 0; within = omega arith; before = refl; place = refl }

-- a place of some batches is one of these and more
pub mark_more : (bs : List (List (List ℕ))) (b : List (List ℕ)) (m : Mark) → IsMark bs m → IsMark (bs ++ b ∷ []) m
mark_more bs b m mark =
    let same = sym (take-append-le mark.passed bs (b ∷ []) mark.within) in
    record {
      passed = mark.passed;
      within = (let w = mark.within in omega (arith, length-append bs (b ∷ [])));
      before = mark.before ∙ ap (λ v. length (records_of_all v)) same;
      place = mark.place ∙ ap gate_place same;
    }

pub marks_more : (bs : List (List (List ℕ))) (b : List (List ℕ)) (marks : List Mark) → All (IsMark bs) marks
    → All (IsMark (bs ++ b ∷ [])) marks
marks_more bs b marks all = All-weaker (IsMark bs) (IsMark (bs ++ b ∷ [])) (mark_more bs b) marks all

-- the place behind all batches is one of these and one more
pub mark_end : (bs : List (List (List ℕ))) (b : List (List ℕ)) (m : Mark) → m.before ≡ length (records_of_all bs) → m.place ≡ gate_place bs
    → IsMark (bs ++ b ∷ []) m
mark_end bs b m before place =
    let same = sym (take_at bs (b ∷ []) (length bs) refl) in
    record {
      passed = length bs;
      within = omega (arith, length-append bs (b ∷ []));
      before = before ∙ ap (λ v. length (records_of_all v)) same;
      place = place ∙ ap gate_place same;
    }

-- what holds of each place that is kept, and of one place more, holds of each that is kept then
pub all_of_more : (P : Mark → Type 0) (kept : Kept) (m : Mark) → All P kept.places → P m → All P (one_more kept m).places
all_of_more P kept m all holds =
    let F : Bool → Kept = λ b. if b then record { places = kept.places ++ m ∷ []; next = m.place + 4096 } else kept in
    let both : (b : Bool) → All P (F b).places = λ b. elim b as (λ v. All P (F v).places) [
      | true ↦ All-push P kept.places m all holds
      | false ↦ all
    ] in
    both (nat_le kept.next m.place)

-- places of fewer records are places of more
pub up_to_more : (most more : ℕ) (places : List Mark) → most ≤ more → AreUpTo most places → AreUpTo more places
up_to_more most more places le all = All-weaker (λ (m : Mark). m.before ≤ most) (λ (m : Mark). m.before ≤ more) (λ m h. omega arith) places all

-- the places before record n, which are in order: the last of them stands before it, and no other stands behind that
module _ (places : List Mark) (n : ℕ) (order : AreInOrder places) where
  -- they come first
  pub parted : IsPartitionedBy (λ (m : Mark). nat_lt m.before n) places
  parted i j d le lt before =
      lt-ltb (get_or places i d).before n
      (let o = order i j d le lt in let b = ltb-true (get_or places j d).before n before in omega arith)

  module _ (passed : ℕ) (bound : passed ≤ length places)
      (point : IsPartitionPoint (λ (m : Mark). nat_lt m.before n ≡ true) (λ (m : Mark). nat_lt m.before n ≡ false) places passed) where
    pub near_before : (d : Mark) → 1 ≤ passed → (get_or places (passed - 1) d).before < n
    near_before d some = ltb-true (get_or places (passed - 1) d).before n (point.0 (passed - 1) d (omega arith) (omega arith))

    -- a place before record n is one of the first
    among : (k : ℕ) (d : Mark) → k < length places → (get_or places k d).before < n → k < passed
    among k d lt before =
        ⊎_elim (λ (less : k < passed). less)
        (λ (from : passed ≤ k). absurd (false≢true (sym (point.1 k d from lt) ∙ lt-ltb (get_or places k d).before n before)))
        (cases_lt k passed)

    pub near_last : (d m : Mark) → Contains places m → m.before < n → 1 ≤ passed → m.before ≤ (get_or places (passed - 1) d).before
    near_last d m there before some =
        let k = there.0 in
        let P : Mark → Type 0 = λ v. v.before < n in
        let lt = among k m there.1 (subst P (sym there.2) before) in
        let same : get_or places k m ≡ get_or places k d = get_or_default places k m d there.1 in
        let o = order k (passed - 1) d (omega arith) (omega arith) in
        (let e = ap (λ (v : Mark). v.before) (sym there.2 ∙ same) in omega arith)

    pub near_none : (m : Mark) → Contains places m → m.before < n → passed ≡ 0 → ⊥
    near_none m there before none =
        let P : Mark → Type 0 = λ v. v.before < n in
        let lt = among there.0 m there.1 (subst P (sym there.2) before) in
        omega arith
