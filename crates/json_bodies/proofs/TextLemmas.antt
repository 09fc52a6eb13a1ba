-- What the constructors of names and lines answer.
use Rattle.std.proofs.Common.{◌≡◌, List, ℕ, Some, None, Option, Bool, true, false, refl, ap, ◌↔◌, IsSome}
use Rattle.std.specs.List.{list_all}
use Rattle.std.specs.Option.{IfSome}
use Rattle.std.specs.Prelude.{IsUtf8, length, nat_le, ◌&&◌}
use Rattle.std.proofs.lemmas.Str.{is_utf8-from_IsUtf8}
use Rattle.vnfm_base.specs.Text.{IsName, IsLine, is_plain, is_short_text}
use Rattle.vnfm_base.proofs.TextTests.{test-from_short_text, no_test-from_none}
use Rattle.json_bodies.specs.Body.{name_text, line_text}

-- what the constructor of names answers
pub name_text-is : (bytes : List ℕ) (o : Option (List ℕ)) → (IsSome o ↔ IsName bytes) → IfSome o (λ n. n ≡ bytes) → o ≡ name_text bytes
name_text-is bytes None exact value = rw (no_test-from_none 255 bytes (λ is. let some = exact.1 is in cc)) refl
name_text-is bytes (Some n) exact value = rw (test-from_short_text 255 bytes (exact.0 refl)) (ap Some value)

-- what the constructor of lines answers
pub line_text-some : (bytes line : List ℕ) → (line ≡ bytes) × IsLine bytes → Some line ≡ line_text bytes
line_text-some bytes line h = rw (test-from_short_text 2048 bytes h.1) (ap Some h.0)

pub line_text-none : (bytes : List ℕ) → (IsLine bytes → ⊥) → None ≡ line_text bytes
line_text-none bytes none = rw (no_test-from_none 2048 bytes none) refl

-- the test of a line, of a text
pub line_test : (text : List ℕ) → IsUtf8 text → (nat_le (length text) 2048 && list_all is_plain text) ≡ is_short_text 2048 text
unfolding is_short_text
line_test text utf8 = rw (is_utf8-from_IsUtf8 text utf8) refl

-- what isn't refused is a line
pub line_text-there : (bytes : List ℕ) → ((IsLine bytes → ⊥) → ⊥) → IsSome (line_text bytes)
line_text-there bytes there = of (is_short_text 2048 bytes) refl where
  of : (b : Bool) → is_short_text 2048 bytes ≡ b → IsSome (line_text bytes)
  of true e = rw e refl
  of false e = absurd (there (λ is. let test = test-from_short_text 2048 bytes is in cc))
