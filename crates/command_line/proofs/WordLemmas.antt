-- A number is what its digits say.
use Rattle.std.proofs.Common.{◌≡◌, ◌≤◌, ◌<◌, ◌+◌, ◌^◌, subst, ℕ, List, length, Bool, true, false, Some, None, Result, Ok, Err, ap, sym, refl, arith}
use Rattle.std.specs.Prelude.{nat_le, ◌&&◌, if◌then◌else◌}
use Rattle.std.specs.Char.{is_ascii_digit}
use Rattle.std.specs.List.{list_all}
use Rattle.std.specs.Result.{OkIff, result_ok}
use Rattle.std.specs.Str.Parse.{digits_value, ParsesUnsigned}
use Rattle.std.proofs.lemmas.Bool.{and_from as and_both, and_parts, leb-true, le-leb}
use Rattle.std.proofs.lemmas.Str.Parse.{IsDigitsTest, IsNumeralModel, numerals_by_value, parse_digits}
use Rattle.command_line.specs.Words.{is_number, number_up_to}

and_front : (a b : Bool) → (a && b) ≡ true → a ≡ true
and_front a b is = (and_parts a b is).0

and_back : (a b : Bool) → (a && b) ≡ true → b ≡ true
and_back a b is = (and_parts a b is).1

-- the test of a text of digits
digits_test : IsDigitsTest (λ ds. list_all is_ascii_digit ds ≡ true)
digits_test = record {
  empty = refl;
  parts = λ c cs is. let here = and_front (is_ascii_digit c) (list_all is_ascii_digit cs) is in (
    (leb-true 48 c (and_front _ _ here), leb-true c 57 (and_back _ _ here)),
    and_back (is_ascii_digit c) (list_all is_ascii_digit cs) is,
  );
  more = λ c cs within rest. and_both _ _ (and_both _ _ (le-leb 48 c within.0) (le-leb c 57 within.1)) rest;
}

numerals : IsNumeralModel (λ ds. list_all is_ascii_digit ds ≡ true) (digits_value 10)
numerals = numerals_by_value (λ ds. list_all is_ascii_digit ds ≡ true) digits_test

-- a number is the one that its digits say, where that is one of so many bits
number_read : (E : Type 0) (bits most : ℕ) → 2 ^ bits ≡ most + 1 → (word : List ℕ) (n : ℕ)
    → ParsesUnsigned {E = E} bits 10 word (Ok n) → is_number word ≡ true → number_up_to most word ≡ Some n
number_read E bits most whole word n parsed is =
    let read : (0 < length word) × (digits_value 10 word < 2 ^ bits) × (n ≡ digits_value 10 word) =
    let told : OkIff {E = E} (Ok n) ((0 < length word) × (digits_value 10 word < 2 ^ bits)) (digits_value 10 word) =
    parse_digits numerals {E = E} bits word (Ok n) parsed (and_back _ _ is) in
    (told.0.0, told.0.1, told.1) in
    let bound : digits_value 10 word < most + 1 = subst (λ v. digits_value 10 word < v) whole read.1 in
    let small : digits_value 10 word ≤ most = omega (arith, bound) in
    rw (is, le-leb (digits_value 10 word) most small) (ap Some (sym read.2))

-- and there is none where it isn't
number_beyond : (E : Type 0) (bits most : ℕ) → 2 ^ bits ≡ most + 1 → (word : List ℕ) (e : E)
    → ParsesUnsigned {E = E} bits 10 word (Err e) → is_number word ≡ true → number_up_to most word ≡ None
number_beyond E bits most whole word e parsed is =
    let none : (0 < length word) × (digits_value 10 word < 2 ^ bits) → ⊥ =
    parse_digits numerals {E = E} bits word (Err e) parsed (and_back _ _ is) in
    let long : 1 ≤ length word = leb-true 1 (length word) (and_front _ _ (and_front _ _ is)) in
    rw is (of word (omega (arith, long)) none (nat_le (digits_value 10 word) most) refl)
  where
    of : (word : List ℕ) → 0 < length word → ((0 < length word) × (digits_value 10 word < 2 ^ bits) → ⊥) → (b : Bool)
        → nat_le (digits_value 10 word) most ≡ b
        → (if b then Some (digits_value 10 word) else None) ≡ None
    of word some none true small = absurd (none (
      some,
      (let h : digits_value 10 word ≤ most = leb-true (digits_value 10 word) most small in
          let below : digits_value 10 word < most + 1 = omega (arith, h) in
          subst (λ v. digits_value 10 word < v) (sym whole) below),
    ))
    of word some none false large = refl

-- what parsing a number of so many bits gives is the number up to the greatest of them
pub number_is : (E : Type 0) (bits most : ℕ) → 2 ^ bits ≡ most + 1 → (word : List ℕ) (r : Result ℕ E)
    → ParsesUnsigned {E = E} bits 10 word r → is_number word ≡ true → result_ok r ≡ number_up_to most word
number_is E bits most whole word (Ok n) parsed is = sym (number_read E bits most whole word n parsed is)
number_is E bits most whole word (Err e) parsed is = sym (number_beyond E bits most whole word e parsed is)
