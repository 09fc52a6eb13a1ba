-- Bytes of a buffer that were passed, and those ahead.
use Rattle.std.proofs.Common.{◌≡◌, ◌∙◌, sym, ap, ℕ, ◌+◌, ◌-◌, ◌≤◌, List, ◌++◌, length, take, drop, length-append, length-take}
use Rattle.std.proofs.Common.{length-drop, arith}
use Rattle.std.proofs.lemmas.List.{drop-take, drop-drop, take-take}
use Rattle.std.proofs.Math.Seq.{take-add}
use Rattle.std.proofs.Common.{Result, Ok, Err, OnOk, OnErr}
use Rattle.journal_records.specs.Reading.{AreAhead}

-- some of those ahead are passed
pub pass_more : (buffer : List ℕ) (at end n : ℕ) → at ≤ end → end ≤ length buffer → n ≤ length (take (end - at) (drop at buffer))
    → (take (at + n) buffer ≡ take at buffer ++ take n (take (end - at) (drop at buffer)))
    × (take (end - (at + n)) (drop (at + n) buffer) ≡ drop n (take (end - at) (drop at buffer)))
pass_more buffer at end n order within le =
    let room : n ≤ end - at = (let t = length-take (end - at) (drop at buffer) in omega arith) in
    let parts : end - at ≡ n + (end - (at + n)) = omega arith in (
      take-add at n buffer ∙ ap (λ v. take at buffer ++ v) (sym (take-take n (end - at) (drop at buffer) room)),
      ap (take (end - (at + n))) (sym (drop-drop n at buffer)) ∙ sym (drop-take n (end - (at + n)) (drop at buffer))
          ∙ ap (λ v. drop n (take v (drop at buffer))) (sym parts),
    )

-- what is read behind bytes that are the file's are the file's too
pub ahead_more : (place end more : ℕ) (bytes new image : List ℕ) → AreAhead place bytes end image
    → new ≡ bytes ++ take more (drop (place + length bytes) image)
    → more ≤ end - (place + length bytes) → AreAhead place new end image
ahead_more place end more bytes new image ahead is room =
    let n = length bytes in
    let rest = drop (place + n) image in
    let within = ahead.within in
    let long = ahead.long in
    let there : length (take more rest) ≡ more = (let t = length-take more rest in let d = length-drop (place + n) image in omega arith) in
    let many : length new ≡ n + more = ap length is ∙ length-append bytes (take more rest) ∙ ap (λ v. n + v) there in
    record {
      long = long;
      is = is ∙ ap (λ v. v ++ take more rest) ahead.is
          ∙ ap (λ v. take n (drop place image) ++ take more v) (let e : place + n ≡ place + n = omega arith in sym (drop-drop n place image))
          ∙ sym (take-add n more (drop place image)) ∙ ap (λ v. take v (drop place image)) (sym many);
      within = omega arith;
    }

-- what holds where it succeeded, and where it failed
pub either_way : {T E A B P : Type 0} (r : Result T E) → (A → P) → (B → P) → OnOk r A → OnErr r B → P
either_way (Ok x) f g a b = f a
either_way (Err e) f g a b = g b
