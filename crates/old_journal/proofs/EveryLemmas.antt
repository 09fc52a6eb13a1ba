-- The places of every so many records, as records are seen.
use Rattle.std.proofs.Common.{◌≡◌, ◌≤◌, ◌<◌, ◌∙◌, ap, sym, inl, inr, ℕ, ◌+◌, ◌-◌, ◌*◌, ◌/◌, ◌%◌, List, [], ◌∷◌, ◌++◌}
use Rattle.std.proofs.Common.{length, get_or, arith}
use Rattle.std.proofs.Math.Nat.{mul-le-mul_right}
use Rattle.std.proofs.lemmas.Nat.{div-add-mod'}
use Rattle.std.proofs.lemmas.List.{length_push, get_or_push, get_or_append_left}
use Rattle.std.proofs.lemmas.Bool.{cases_lt}
use Rattle.old_journal.specs.declared.marks.Mark.{Mark}
use Rattle.old_journal.specs.Marks.{AreEvery}

-- nothing was seen
pub every_none : AreEvery 1 0 []
every_none = record { each = λ k d lt. absurd (omega (arith, lt)); reach = omega arith; no_further = omega arith }

-- a record is seen whose place is none of every so many
pub every_skip : (step seen : ℕ) (places : List Mark) → AreEvery step seen places → (seen % step ≡ 0 → ⊥)
    → AreEvery step (seen + 1) places
every_skip step seen places every off =
    let q = seen / step in
    let len = length places in
    let split : q * step + seen % step ≡ seen = div-add-mod' seen step in
    let some : 1 ≤ seen % step = omega (arith, off) in
    record {
      each = every.each;
      reach = (elim (cases_lt q len) [
        | inl less ↦ (let more : (q + 1) * step ≤ len * step = mul-le-mul_right step (omega (arith, less)) in
            omega (arith, split, more, every.reach, every.no_further, some))
        | inr fits ↦ (let more : len * step ≤ q * step = mul-le-mul_right step fits in
            omega (arith, split, more, every.reach, some))
      ]);
      no_further = omega (arith, every.no_further);
    }

-- the place of a record at a multiple of the step is right behind those that are kept
pub every_at : (step seen : ℕ) (places : List Mark) → 1 ≤ step → AreEvery step seen places → seen % step ≡ 0
    → length places * step ≡ seen
every_at step seen places some every on =
    let q = seen / step in
    let len = length places in
    let split : q * step + seen % step ≡ seen = div-add-mod' seen step in
    elim (cases_lt q len) [
      | inl less ↦ (let more : (q + 1) * step ≤ len * step = mul-le-mul_right step (omega (arith, less)) in
          omega (arith, split, more, on, every.no_further))
      | inr fits ↦ (let more : len * step ≤ q * step = mul-le-mul_right step fits in
          omega (arith, split, more, on, every.reach))
    ]

-- a place more is kept
pub every_push : (step seen : ℕ) (places new : List Mark) (mark : Mark) → 1 ≤ step → AreEvery step seen places
    → length places * step ≡ seen
    → mark.before ≡ seen
    → new ≡ places ++ mark ∷ [] → AreEvery step (seen + 1) new
every_push step seen places new mark some every at before is =
    let long : length new ≡ length places + 1 = ap length is ∙ length_push places mark in
    let times : length new * step ≡ (length places + 1) * step = ap (λ n. n * step) long in
    record {
      each = λ k d lt. elim (cases_lt k (length places)) [
        | inl less ↦ ap (λ (v : List Mark). (get_or v k d).before) is
            ∙ ap (λ (m : Mark). m.before) (get_or_append_left places (mark ∷ []) d k less) ∙ every.each k d less
        | inr last ↦ (let k_is : k ≡ length places = omega (arith, lt, long, last) in
            ap (λ (v : List Mark). (get_or v k d).before) is
            ∙ ap (λ (m : Mark). m.before) (get_or_push places mark d k (sym k_is)) ∙ before
            ∙ sym at ∙ ap (λ n. n * step) (sym k_is))
      ];
      reach = omega (arith, times, at, some);
      no_further = omega (arith, times, at);
    }

-- every second place is kept
pub every_halved : (step seen : ℕ) (places new : List Mark) → AreEvery step seen places → length places * step ≡ seen
    → length places ≡ 65536 → length new ≡ 32768
    → ((k : ℕ) (d : Mark) → k < length new → get_or new k d ≡ get_or places (k * 2) d) → AreEvery (step * 2) seen new
every_halved step seen places new every at full half each =
    let whole : length places * step ≡ 65536 * step = ap (λ n. n * step) full in
    let halves : length new * (step * 2) ≡ 32768 * (step * 2) = ap (λ n. n * (step * 2)) half in
    record {
      each = λ k d lt. ap (λ (m : Mark). m.before) (each k d lt) ∙ every.each (k * 2) d (omega (arith, lt, half, full))
          ∙ (omega arith);
      reach = omega (arith, whole, halves, at);
      no_further = omega (arith, whole, halves, at, every.no_further);
    }

-- and they reach as far
pub halved_at : (step seen : ℕ) (places new : List Mark) → length places * step ≡ seen → length places ≡ 65536
    → length new ≡ 32768
    → length new * (step * 2) ≡ seen
halved_at step seen places new at full half =
    let whole : length places * step ≡ 65536 * step = ap (λ n. n * step) full in
    let halves : length new * (step * 2) ≡ 32768 * (step * 2) = ap (λ n. n * (step * 2)) half in
    omega (arith, whole, halves, at)

-- the place before record n is among those that are kept
pub near_within : (step seen n : ℕ) (places : List Mark) → 1 ≤ step → AreEvery step seen places → 1 ≤ n → n ≤ seen
    → (n - 1) / step < length places
near_within step seen n places some every one within =
    let q = (n - 1) / step in
    let split : q * step + (n - 1) % step ≡ n - 1 = div-add-mod' (n - 1) step in
    elim (cases_lt q (length places)) [
      | inl less ↦ less
      | inr past ↦ (let more : length places * step ≤ q * step = mul-le-mul_right step past in
          absurd (omega (arith, split, more, every.reach, one, within)))
    ]

-- so many records stand between it and record n
pub near_split : (step seen n : ℕ) (places : List Mark) (d : Mark) → 1 ≤ step → AreEvery step seen places → 1 ≤ n
    → n ≤ seen
    → (get_or places ((n - 1) / step) d).before + (n - 1) % step ≡ n - 1
near_split step seen n places d some every one within =
    let q = (n - 1) / step in
    let split : q * step + (n - 1) % step ≡ n - 1 = div-add-mod' (n - 1) step in
    let is = every.each q d (near_within step seen n places some every one within) in
    omega (arith, split, is)
