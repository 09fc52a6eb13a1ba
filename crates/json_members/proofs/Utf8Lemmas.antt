-- Text stays UTF-8 as it is made part by part.
use Rattle.std.proofs.Common.{◌≡◌, [], ◌++◌, ◌<◌, ◌∷◌, Bool, IsUtf8, List, arith, false, subst, sym, true, ℕ}
use Rattle.std.proofs.lemmas.Str.{IsUtf8-append, IsUtf8-from_ascii, IsUtf8-nil}
use Rattle.std.proofs.lemmas.Str.Ascii.{IsAscii-cons, IsAscii-nil}
use Rattle.serde_json.specs.Written.{comma_if}

-- an ASCII byte is UTF-8
one_byte : (b : ℕ) → b < 128 → IsUtf8 (b ∷ [])
one_byte b small = IsUtf8-from_ascii (b ∷ []) (IsAscii-cons b [] small IsAscii-nil)

-- so is a text with one behind it
pub with_byte : (text all : List ℕ) (b : ℕ) → b < 128 → IsUtf8 text → all ≡ text ++ b ∷ [] → IsUtf8 all
with_byte text all b small good is = subst IsUtf8 (sym is) (IsUtf8-append text (b ∷ []) good (one_byte b small))

-- and one with a comma behind it, or none
pub with_comma : (text all : List ℕ) (later : Bool) → IsUtf8 text → all ≡ text ++ comma_if later → IsUtf8 all
with_comma text all later good is = subst IsUtf8 (sym is) (IsUtf8-append text (comma_if later) good (of later)) where
  of : (b : Bool) → IsUtf8 (comma_if b)
  of true = one_byte 44 (omega arith)
  of false = IsUtf8-nil

-- and one with UTF-8 behind it
pub with_text : (text part all : List ℕ) → IsUtf8 text → IsUtf8 part → all ≡ text ++ part → IsUtf8 all
with_text text part all good more is = subst IsUtf8 (sym is) (IsUtf8-append text part good more)
