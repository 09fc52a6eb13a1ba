-- Headers by their parts and by their places.
use Rattle.std.proofs.Common.{◌≡◌, ◌⊎◌, ◌∙◌, sym, ap, ⊎_elim, ℕ, ◌+◌, ◌≤◌, ◌<◌, List, [], ◌∷◌, ◌++◌, length, take}
use Rattle.std.proofs.Common.{drop, get_or, replicate, length-take, length-drop, arith}
use Rattle.std.specs.Int.{w32, to_be_bytes, from_be_bytes}
use Rattle.std.proofs.lemmas.List.{take-take, drop-drop, drop-take, get_or-take, get_or-drop, ext_get_or}
use Rattle.std.proofs.lemmas.List.{length-take-le}
use Rattle.std.proofs.Math.Seq.{take-add}
use Rattle.old_journal.specs.File.{header}
use Rattle.journal_core.proofs.HeaderLemmas.{number_back}
use Rattle.old_journal.specs.Header.{made, IsUnfinished, MayStand, IsForeign, HasHeader}
use Rattle.journal_core.specs.Header.{first}

-- what stands behind the first byte of every header, up to its number
abbrev pub name : List ℕ
name = 78 ∷ 70 ∷ 77 ∷ 45 ∷ 76 ∷ 67 ∷ 77 ∷ 1 ∷ []

-- a rest with these parts is that of a made file
pub rest_from_parts : (front : List ℕ) → ((i : ℕ) → get_or front i 0 < 256) → length front ≡ 33
    → take 8 (drop 1 front) ≡ name
    → take 20 (drop 13 front) ≡ replicate 20 0
    → (m : ℕ) × (take 32 (drop 1 front) ≡ drop 1 (made m))
unfolding header
rest_from_parts front small len is zeros =
    let m = from_be_bytes w32 (take 4 (drop 9 front)) in
    let rest = drop 1 front in
    let split : take 32 rest ≡ take 8 rest ++ (take 4 (drop 8 rest) ++ take 20 (drop 12 rest)) =
    take-add 8 24 rest ∙ ap (λ v. take 8 rest ++ v) (take-add 4 20 (drop 8 rest)
    ∙ ap (λ v. take 4 (drop 8 rest) ++ take 20 v) (drop-drop 4 8 rest)) in
    let nine : drop 8 rest ≡ drop 9 front = drop-drop 8 1 front in
    let thirteen : drop 12 rest ≡ drop 13 front = drop-drop 12 1 front in (
      m,
      split ∙ ap (λ v. v ++ (take 4 (drop 8 rest) ++ take 20 (drop 12 rest))) is
          ∙ ap (λ v. name ++ (take 4 v ++ take 20 (drop 12 rest))) nine
          ∙ ap (λ v. name ++ (v ++ take 20 (drop 12 rest))) (number_back front 9 small (omega arith))
          ∙ ap (λ v. name ++ (to_be_bytes w32 m ++ take 20 v)) thirteen
          ∙ ap (λ v. name ++ (to_be_bytes w32 m ++ v)) zeros,
    )

-- and the rest of a made file has these parts
pub parts_from_rest : (m : ℕ) (front : List ℕ) → take 32 (drop 1 front) ≡ drop 1 (made m)
    → (33 ≤ length front) × (take 8 (drop 1 front) ≡ name) × (take 20 (drop 13 front) ≡ replicate 20 0)
unfolding header
parts_from_rest m front is =
    let rest = drop 1 front in
    let len : length (take 32 rest) ≡ 32 = ap length is in (
      omega (arith, length-take 32 rest, length-drop 1 front),
      sym (take-take 8 32 rest (omega arith)) ∙ ap (take 8) is,
      ap (take 20) (sym (drop-drop 12 1 front)) ∙ sym (drop-take 12 20 rest) ∙ ap (drop 12) is,
    )

-- A file of which each byte of the header may stand has a header.
pub header_from_places : (front : List ℕ) → ((i : ℕ) → get_or front i 0 < 256) → ((k : ℕ) → k < 32 → MayStand k front)
    → (32 ≤ length front) × (take 32 front ≡ header (from_be_bytes w32 (take 4 (drop 9 front))))
unfolding header
header_from_places front small all =
    let len : 32 ≤ length front = (let last = (all 31 (omega arith)).there in omega arith) in
    let m = from_be_bytes w32 (take 4 (drop 9 front)) in
    let outside : (k : ℕ) → k < 32 → ((9 ≤ k) × (k ≤ 12) → ⊥) → get_or front k 0 ≡ get_or (header 0) k 0 =
    λ k lt not. ⊎_elim (λ (number : (9 ≤ k) × (k ≤ 12)). absurd (not number))
    (λ (is : get_or front k 0 ≡ get_or (header 0) k 0). is)
    (all k lt).right in
    let nine : take 9 front ≡ take 9 (header 0) =
    ext_get_or 0 (take 9 front) (take 9 (header 0)) (length-take-le 9 front (omega arith))
    (λ i lt. let l : i < 9 = (let t = length-take-le 9 front (omega arith) in omega arith) in
    get_or-take 9 front i 0 l ∙ outside i (omega arith) (λ n. omega (arith, n.0))
    ∙ sym (get_or-take 9 (header 0) i 0 l)) in
    let zeros : take 19 (drop 13 front) ≡ take 19 (drop 13 (header 0)) =
    ext_get_or 0 (take 19 (drop 13 front)) (take 19 (drop 13 (header 0)))
    (let t = length-take 19 (drop 13 front) in let d = length-drop 13 front in omega arith)
    (λ i lt. let l : i < 19 = (let t = length-take 19 (drop 13 front) in omega arith) in
    get_or-take 19 (drop 13 front) i 0 l ∙ get_or-drop 13 front i 0
    ∙ outside (13 + i) (omega arith) (λ n. omega (arith, n.1))
    ∙ sym (get_or-drop 13 (header 0) i 0) ∙ sym (get_or-take 19 (drop 13 (header 0)) i 0 l)) in (
      len,
      take-add 9 23 front ∙ ap (λ v. take 9 front ++ v) (take-add 4 19 (drop 9 front)
          ∙ ap (λ v. take 4 (drop 9 front) ++ take 19 v) (drop-drop 4 9 front))
          ∙ ap (λ v. v ++ (take 4 (drop 9 front) ++ take 19 (drop 13 front))) nine
          ∙ ap (λ v. take 9 (header 0) ++ (v ++ take 19 (drop 13 front))) (number_back front 9 small (omega arith))
          ∙ ap (λ v. take 9 (header 0) ++ (to_be_bytes w32 m ++ v)) zeros,
    )

-- A file with a header isn't unfinished.
pub made_not_unmade : (m n : ℕ) (image : List ℕ) → take 32 image ≡ header m → IsUnfinished n image → ⊥
unfolding header
made_not_unmade m n image is unfinished =
    let len : length (take 32 image) ≡ 32 = ap length is in
    let begins : first image ≡ 86 = sym (get_or-take 32 image 0 0 (omega arith)) ∙ ap (λ v. get_or v 0 0) is in
    ⊎_elim (λ (short : length image ≤ 1). omega (arith, length-take 32 image))
    (λ (rest : (first image ≡ 118) ⊎ ((first image ≡ 86 → ⊥) × (take 32 (drop 1 image) ≡ drop 1 (made n)))).
    ⊎_elim (λ (v : first image ≡ 118). omega (arith, v))
    (λ (other : (first image ≡ 86 → ⊥) × (take 32 (drop 1 image) ≡ drop 1 (made n))).
    other.0 begins) rest)
    unfinished

-- A file that begins neither with `v` nor with `V`, and not with the rest of a made file, is foreign at its first byte.
pub foreign_at_first : (front : List ℕ) → 2 ≤ length front → (first front ≡ 118 → ⊥) → (first front ≡ 86 → ⊥)
    → (((m : ℕ) × (take 32 (drop 1 front) ≡ drop 1 (made m))) → ⊥)
    → IsForeign 0 front
unfolding header
foreign_at_first front long not_v not_V not_rest = record {
  not_unmade = λ unmade. ⊎_elim (λ (short : length front ≤ 1). omega (arith, short))
      (λ (rest : (first front ≡ 118) ⊎ ((first front ≡ 86 → ⊥) × (take 32 (drop 1 front) ≡ drop 1 (made unmade.0)))).
      ⊎_elim not_v (λ (other : (first front ≡ 86 → ⊥) × (take 32 (drop 1 front) ≡ drop 1 (made unmade.0))). not_rest
      (unmade.0, other.1))
      rest)
      unmade.1;
  differs = record {
    within = omega arith;
    before = λ k lt. absurd (omega arith);
    differs = λ may. ⊎_elim (λ (number : (9 ≤ 0) × (0 ≤ 12)). omega (arith, number.0))
        (λ (is : first front ≡ 86). not_V is) may.right;
  };
}

-- A file with a header is at least as long.
pub header_long : (m : ℕ) (image : List ℕ) → HasHeader m image → 32 ≤ length image
unfolding header
header_long m image has = (let len : length (take 32 image) ≡ 32 = ap length has.front in
    omega (arith, length-take 32 image))
