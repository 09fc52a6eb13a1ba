-- What the first 33 bytes of a file say of its header, the file says.
use Rattle.std.proofs.Common.{◌≡◌, ◌⊎◌, ◌∙◌, sym, ap, subst, inl, inr, ⊎_elim, ℕ, ◌≤◌, ◌<◌, List, length, take, drop}
use Rattle.std.proofs.Common.{get_or, arith}
use Rattle.std.proofs.lemmas.List.{take-take, drop-take, get_or-take, length-take}
use Rattle.old_journal.specs.declared.header.HeaderState.{HeaderState}
use Rattle.old_journal.specs.declared.header.HeaderState.TheVariants.{Made, Unmade, Foreign}
use Rattle.old_journal.specs.File.{header}
use Rattle.old_journal.specs.Header.{made, IsUnfinished, MayStand}
use Rattle.journal_core.specs.Header.{first}
use Rattle.old_journal.specs.Judged.{Judged}

-- they are the file's first byte and its rest
first_is : (image : List ℕ) → first (take 33 image) ≡ first image
first_is image = get_or-take 33 image 0 0 (omega arith)

rest_is : (image : List ℕ) → take 32 (drop 1 (take 33 image)) ≡ take 32 (drop 1 image)
rest_is image = ap (take 32) (drop-take 1 32 image) ∙ take-take 32 32 (drop 1 image) (omega arith)

-- of two files with one first byte and one rest, both are unfinished or none
unfinished_same : (m : ℕ) (i j : List ℕ) → (length i ≤ 1 → length j ≤ 1) → first i ≡ first j
    → take 32 (drop 1 i) ≡ take 32 (drop 1 j)
    → IsUnfinished m i → IsUnfinished m j
unfinished_same m i j short begins rest unfinished =
    ⊎_elim (λ (s : length i ≤ 1). inl (short s))
    (λ (r : (first i ≡ 118) ⊎ ((first i ≡ 86 → ⊥) × (take 32 (drop 1 i) ≡ drop 1 (made m)))).
    inr (⊎_elim (λ (v : first i ≡ 118). inl (sym begins ∙ v))
    (λ (other : (first i ≡ 86 → ⊥) × (take 32 (drop 1 i) ≡ drop 1 (made m))). inr
    ((λ e. other.0 (begins ∙ e)), sym rest ∙ other.1)) r))
    unfinished

pub unfinished_front : (m : ℕ) (image : List ℕ) → IsUnfinished m (take 33 image) → IsUnfinished m image
unfinished_front m image = unfinished_same m (take 33 image) image (λ s. omega (arith, length-take 33 image))
    (first_is image)
    (rest_is image)

pub unfinished_whole : (m : ℕ) (image : List ℕ) → IsUnfinished m image → IsUnfinished m (take 33 image)
unfinished_whole m image = unfinished_same m image (take 33 image) (λ s. omega (arith, length-take 33 image))
    (sym (first_is image))
    (sym (rest_is image))

may_front : (k : ℕ) (image : List ℕ) → k < 33 → MayStand k (take 33 image) → MayStand k image
may_front k image lt may = record {
  there = (let t = length-take 33 image in let h = may.there in omega arith);
  right = (let P : ℕ → Type 0 = λ v. ((9 ≤ k) × (k ≤ 12))
      ⊎ (v ≡ get_or (header 0) k 0) in subst P (get_or-take 33 image k 0 lt) may.right);
}

may_whole : (k : ℕ) (image : List ℕ) → k < 33 → MayStand k image → MayStand k (take 33 image)
may_whole k image lt may = record {
  there = (let t = length-take 33 image in let h = may.there in omega arith);
  right = (let P : ℕ → Type 0 = λ v. ((9 ≤ k) × (k ≤ 12)) ⊎ (v ≡ get_or (header 0) k 0) in
      subst P (sym (get_or-take 33 image k 0 lt)) may.right);
}

pub judged_front : (image : List ℕ) (v : HeaderState) → Judged (take 33 image) v → Judged image v
judged_front image (Made m) has = record {
  number = has.number;
  front = sym (take-take 32 33 image (omega arith))
      ∙ has.front;
}
judged_front image Unmade unmade = (unmade.0, unfinished_front unmade.0 image unmade.1)
judged_front image (Foreign place) foreign =
    let within = foreign.differs.within in
    record {
      not_unmade = λ unmade. foreign.not_unmade (unmade.0, unfinished_whole unmade.0 image unmade.1);
      differs = record {
        within = within;
        before = λ k lt. may_front k image (omega arith) (foreign.differs.before k lt);
        differs = λ may. foreign.differs.differs (may_whole place image (omega arith) may);
      };
    }
