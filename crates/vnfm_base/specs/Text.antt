-- Names and lines: the short texts that requests, answers and events carry (own rule).
use Rattle.std.specs.Prelude.{ℕ, ◌≡◌, ◌≢◌, ◌-◌, ◌≤◌, ◌==◌, ◌&&◌, not, nat_le, nat_lt, Bool, List, ◌++◌, length, take}
use Rattle.std.specs.Prelude.{replicate, All, IsUtf8}
use Rattle.std.specs.List.{list_all}
use Rattle.std.specs.Str.{is_utf8}

-- the byte is no control character: in UTF-8 each code point below 32, and 127, is one byte of that value (own rule)
abbrev pub IsPlain : ℕ → Type 0
IsPlain byte = (32 ≤ byte) × (byte ≢ 127)

-- the bytes are a UTF-8 text of at most so many bytes, without control characters (own rule)
pub record IsShortText (most : ℕ) (bytes : List ℕ) : Type 0 where
  pub short : length bytes ≤ most
  pub utf8 : IsUtf8 bytes
  pub plain : All IsPlain bytes

-- the bytes are a name: a short text of at most 255 bytes (own rule)
abbrev pub IsName : List ℕ → Type 0
IsName = IsShortText 255

-- the bytes are a line: a short text of at most 2,048 bytes (own rule)
abbrev pub IsLine : List ℕ → Type 0
IsLine = IsShortText 2048

-- the test of such a byte, and of such a text (own rule)
abbrev pub is_plain : ℕ → Bool
is_plain byte = nat_le 32 byte && not (byte == 127)

unfoldable pub is_short_text : ℕ → List ℕ → Bool
is_short_text most bytes = nat_le (length bytes) most && (is_utf8 bytes && list_all is_plain bytes)

-- a text of a program's own, as a member's name: at most 255 visible ASCII bytes and spaces (own rule)
abbrev pub is_label : List ℕ → Bool
is_label text = nat_le (length text) 255 && list_all (λ byte. nat_le 32 byte && nat_lt byte 127) text

-- the room of a name holds the text at its front and zeros behind it (own rule)
pub record HoldsName (len : ℕ) (room : List ℕ) : Type 0 where
  pub len_is : length (take len room) ≡ len
  pub zeros : take len room ++ replicate (255 - len) 0 ≡ room
  pub name : IsName (take len room)

-- so the text gives the room back
pub HoldsName-room : (len : ℕ) (room : List ℕ) → HoldsName len room
    → take len room ++ replicate (255 - length (take len room)) 0 ≡ room
HoldsName-room len room h = rw h.len_is h.zeros
