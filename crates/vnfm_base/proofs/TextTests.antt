-- The test of short texts finds just these.
use Rattle.std.proofs.Common.{◌≡◌, ◌≤◌, ◌&&◌, ◌==◌, not, ℕ, List, Bool, true, false, arith, refl, length, nat_le}
use Rattle.std.proofs.lemmas.Bool.{and_parts, and_from, leb-true, le-leb}
use Rattle.std.specs.Str.{is_utf8}
use Rattle.std.specs.List.{list_all}
use Rattle.std.proofs.lemmas.Str.{IsUtf8-from_is_utf8, is_utf8-from_IsUtf8}
use Rattle.std.proofs.lemmas.List.Sums.{AllPass-from_list_all, list_all-from_AllPass}
use Rattle.std.proofs.lemmas.Bool.Decides.{nat_tests}
use Rattle.vnfm_base.specs.Text.{IsPlain, IsShortText, is_plain, is_short_text}

plain-is : (b : ℕ) → is_plain b ≡ true → IsPlain b
plain-is b h = grind (arith, nat_tests)

is-plain : (b : ℕ) → IsPlain b → is_plain b ≡ true
is-plain b h = grind (arith, nat_tests)

pub short_text-from_test : (most : ℕ) (bytes : List ℕ) → is_short_text most bytes ≡ true → IsShortText most bytes
unfolding is_short_text
short_text-from_test most bytes h =
    let short = and_parts (nat_le (length bytes) most) (is_utf8 bytes && list_all is_plain bytes) h in
    let text = and_parts (is_utf8 bytes) (list_all is_plain bytes) short.1 in
    let each = AllPass-from_list_all is_plain bytes text.1 in
    record {
      short = leb-true _ _ short.0;
      utf8 = IsUtf8-from_is_utf8 bytes text.0;
      plain = λ k d lt. plain-is _ (each k d lt);
    }

pub test-from_short_text : (most : ℕ) (bytes : List ℕ) → IsShortText most bytes → is_short_text most bytes ≡ true
unfolding is_short_text
test-from_short_text most bytes h =
    and_from (nat_le (length bytes) most) (is_utf8 bytes && list_all is_plain bytes) (le-leb _ _ h.short)
    (and_from (is_utf8 bytes) (list_all is_plain bytes) (is_utf8-from_IsUtf8 bytes h.utf8)
    (list_all-from_AllPass is_plain bytes (λ k d lt. is-plain _ (h.plain k d lt))))

-- a text that is none fails the test
pub no_test-from_none : (most : ℕ) (bytes : List ℕ) → (IsShortText most bytes → ⊥) → is_short_text most bytes ≡ false
no_test-from_none most bytes none = of (is_short_text most bytes) refl where
  of : (b : Bool) → is_short_text most bytes ≡ b → is_short_text most bytes ≡ false
  of true e = absurd (none (short_text-from_test most bytes e))
  of false e = e

pub ruleset short_texts = (test-from_short_text, no_test-from_none)
