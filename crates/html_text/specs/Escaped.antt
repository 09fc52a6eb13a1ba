-- Texts within HTML: entities in the place of the bytes that HTML gives a meaning (HTML Living Standard 13.1.4).
use Rattle.std.specs.Prelude.{ℕ, ◌≢◌, ◌==◌, All, IsUtf8, List, [], ◌∷◌, codes, cond}
use Rattle.std.specs.List.{flat_map}

-- what stands for a byte of a text
unfoldable pub entity : ℕ → List ℕ
entity byte =
    cond (byte == 38) (codes "&amp;") (cond (byte == 60) (codes "&lt;") (cond (byte == 62) (codes "&gt;")
    (cond (byte == 34) (codes "&quot;") (cond (byte == 39) (codes "&#39;") (byte ∷ [])))))

-- what stands for a text, byte by byte
abbrev pub escaped : List ℕ → List ℕ
escaped text = flat_map entity text

-- the byte begins and ends nothing within HTML: it is none of `<`, `>`, `"` and `'`
pub record IsInert (byte : ℕ) : Type 0 where
  pub no_start : byte ≢ 60
  pub no_end : byte ≢ 62
  pub no_quote : byte ≢ 34
  pub no_apostrophe : byte ≢ 39

-- whatever a text is, what stands for it has inert bytes alone
abbrev pub EscapedTextsAreInert : Type 0
EscapedTextsAreInert = (text : List ℕ) → All IsInert (escaped text)

-- what stands for a UTF-8 text is UTF-8
abbrev pub EscapedTextsAreUtf8 : Type 0
EscapedTextsAreUtf8 = (text : List ℕ) → IsUtf8 text → IsUtf8 (escaped text)
