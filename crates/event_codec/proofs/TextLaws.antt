-- Names, lines, options and lists are read as they are spelled.
use Rattle.std.proofs.Common.{◌≡◌, ℕ, ◌%◌, ◌≤◌, ◌==◌, List, [], ◌∷◌, ◌++◌, Option, Some, None, Bool, true, false, ◌&&◌, not, length, nat_le}
use Rattle.std.proofs.Common.{refl, sym, ◌∙◌, ap, subst, arith}
use Rattle.std.specs.List.{AllByRecursion, flat_map, list_all}
use Rattle.std.specs.Str.{is_utf8}
use Rattle.std.proofs.lemmas.Bool.{eqb-true, leb-true, le-leb}
use Rattle.std.proofs.lemmas.List.Sums.{AllPass-from_list_all, list_all-from_AllPass}
use Rattle.std.proofs.lemmas.List.Elements.{All-weaker}
use Rattle.std.proofs.lemmas.Str.{IsUtf8-from_is_utf8, is_utf8-from_IsUtf8}
use Rattle.vnfm_base.specs.Text.{IsName, IsLine, is_short_text}
use Rattle.vnfm_base.proofs.TextTests.{short_text-from_test, test-from_short_text}
use Rattle.event_codec.specs.Combinators.{Reader, pair_by, only, sum, entries, piece, u8_at}
use Rattle.event_codec.specs.Readers.{u16_at, counted_at, name_at, line_at, optional_cases, optional_at, many_at, few_at}
use Rattle.event_codec.specs.Spell as spell
use Rattle.event_codec.specs.Valid.{IsU8, IsU16, Optionally, AreMany}
use Rattle.event_codec.proofs.CombinatorLaws.{Reads, reads_pair_by, reads_shape, reads_only, reads_fits, reads_sum, case_of, case_word}
use Rattle.event_codec.proofs.CombinatorLaws.{shape_again, reads_entries, reads_piece, reads_u8}
use Rattle.event_codec.proofs.NumberLaws.{reads_u16}

pub both : (a b : Bool) → (a && b) ≡ true → (a ≡ true) × (b ≡ true)
both true b h = (refl, h)
both false b h = absurd cc

pub from_both : (a b : Bool) → a ≡ true → b ≡ true → (a && b) ≡ true
from_both a b p q = rw (p, q) refl

reads_counted : (count_spell : ℕ → List ℕ) (CountFits : ℕ → Type 0) (count : Reader ℕ) → Reads count_spell CountFits count
    → Reads (λ text. count_spell (length text) ++ text) (λ text. CountFits (length text)) (counted_at count)
reads_counted count_spell CountFits count r =
    reads_shape (λ (p : ℕ × List ℕ). p.1) (λ (text : List ℕ). (length text, text)) (λ text. count_spell (length text) ++ text)
    (λ text. CountFits (length text))
    (λ (p : ℕ × List ℕ). count_spell p.0 ++ p.1) (λ (p : ℕ × List ℕ). CountFits p.0 × (length p.1 ≡ p.0)) (pair_by count piece)
    (λ text h. refl) (λ p h. ap (λ n. count_spell n ++ p.1) h.1)
    (λ p h. subst CountFits (sym h.1) h.0) (λ text h. (h, refl))
    (reads_pair_by count_spell CountFits count (λ text. text) (λ n text. length text ≡ n) piece r reads_piece)

pub reads_name : Reads spell.name IsName name_at
unfolding name_at
reads_name =
    reads_fits spell.name (λ text. IsU8 (length text) × (is_short_text 255 text ≡ true)) IsName name_at
    (λ text h. short_text-from_test 255 text h.1) (λ text h. (
      (let e : length text ≤ 255 = h.short in omega arith),
      test-from_short_text 255 text h,
    ))
    (reads_only (is_short_text 255) spell.name (λ text. IsU8 (length text)) (counted_at u8_at)
    (reads_counted (λ n. n ∷ []) IsU8 u8_at reads_u8))

pub reads_line : Reads spell.line IsLine line_at
unfolding line_at
reads_line =
    reads_fits spell.line (λ text. IsU16 (length text) × (is_short_text 2048 text ≡ true)) IsLine line_at
    (λ text h. short_text-from_test 2048 text h.1) (λ text h. (
      (let e : length text ≤ 2048 = h.short in omega arith),
      test-from_short_text 2048 text h,
    ))
    (reads_only (is_short_text 2048) spell.line (λ text. IsU16 (length text)) (counted_at u16_at)
    (reads_counted spell.u16 IsU16 u16_at reads_u16))

pub reads_optional : {A : Type 0} (a_spell : A → List ℕ) (Fits : A → Type 0) (a : Reader A) → Reads a_spell Fits a
    → Reads (spell.optional a_spell) (Optionally Fits) (optional_at a)
unfolding optional_at
reads_optional {A} a_spell Fits a r =
    reads_sum (spell.optional a_spell) (Optionally Fits) (optional_cases a) (
      case_word 0 None (spell.optional a_spell) (Optionally Fits) refl tt,
      (case_of 1 Some (spell.optional a_spell) (Optionally Fits) a_spell Fits a (λ x h. refl) (λ x h. h) r, tt),
    ) again where
      again : (x : Option A) (rest : List ℕ) → Optionally Fits x → sum (optional_cases a) (spell.optional a_spell x ++ rest)
          ≡ Some (x, rest)
      again None rest h = refl
      again (Some x) rest h = shape_again Some a_spell Fits a r x rest h

pub reads_many : {A : Type 0} (a_spell : A → List ℕ) (Fits : A → Type 0) (a : Reader A) → Reads a_spell Fits a
    → Reads (spell.many a_spell) (AreMany Fits) (many_at a)
unfolding many_at
reads_many {A} a_spell Fits a r =
    reads_shape (λ (p : ℕ × List A). p.1) (λ (xs : List A). (length xs, xs)) (spell.many a_spell) (AreMany Fits)
    (λ (p : ℕ × List A). spell.u16 p.0 ++ flat_map a_spell p.1)
    (λ (p : ℕ × List A). IsU16 p.0 × ((length p.1 ≡ p.0) × AllByRecursion Fits p.1)) (pair_by u16_at (λ n. entries a n))
    (λ xs h. refl) (λ p h. ap (λ n. spell.u16 n ++ flat_map a_spell p.1) h.1.0)
    (λ p h. (subst IsU16 (sym h.1.0) h.0, h.1.1)) (λ xs h. (h.0, (refl, h.1)))
    (reads_pair_by spell.u16 IsU16 u16_at (flat_map a_spell) (λ n xs. (length xs ≡ n) × AllByRecursion Fits xs) (λ n. entries a n) reads_u16
    (reads_entries a_spell Fits a r))

pub reads_few : {A : Type 0} (a_spell : A → List ℕ) (Fits : A → Type 0) (a : Reader A) → Reads a_spell Fits a
    → Reads (spell.few a_spell) (λ xs. (length xs ≤ 32) × AllByRecursion Fits xs) (few_at a)
unfolding few_at
reads_few {A} a_spell Fits a r =
    let count : Reads (λ n. n ∷ []) (λ n. n ≤ 32) (only (λ n. nat_le n 32) u8_at) =
    reads_fits (λ n. n ∷ []) (λ n. IsU8 n × (nat_le n 32 ≡ true)) (λ n. n ≤ 32) (only (λ n. nat_le n 32) u8_at)
    (λ n h. leb-true n 32 h.1) (λ n h. (omega arith, le-leb n 32 h)) (reads_only (λ n. nat_le n 32) (λ n. n ∷ []) IsU8 u8_at reads_u8) in
    reads_shape (λ (p : ℕ × List A). p.1) (λ (xs : List A). (length xs, xs)) (spell.few a_spell)
    (λ xs. (length xs ≤ 32) × AllByRecursion Fits xs)
    (λ (p : ℕ × List A). p.0 ∷ flat_map a_spell p.1)
    (λ (p : ℕ × List A). (p.0 ≤ 32) × ((length p.1 ≡ p.0) × AllByRecursion Fits p.1))
    (pair_by (only (λ n. nat_le n 32) u8_at) (λ n. entries a n))
    (λ xs h. refl) (λ p h. (let small : length p.1 ≤ 32 = (let P : ℕ → Type 0 = λ n. n ≤ 32 in subst P (sym h.1.0) h.0) in
    ap (λ n. n ∷ flat_map a_spell p.1) ((let e : length p.1 % 256 ≡ length p.1 = omega arith in e) ∙ h.1.0)))
    (λ p h. ((let P : ℕ → Type 0 = λ n. n ≤ 32 in subst P (sym h.1.0) h.0), h.1.1)) (λ xs h. (h.0, (refl, h.1)))
    (reads_pair_by (λ n. n ∷ []) (λ n. n ≤ 32) (only (λ n. nat_le n 32) u8_at) (flat_map a_spell)
    (λ n xs. (length xs ≡ n) × AllByRecursion Fits xs)
    (λ n. entries a n) count (reads_entries a_spell Fits a r))
