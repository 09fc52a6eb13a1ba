-- Lines of a chunked body of which only the front has come (RFC 9112 7.1, Chunked Transfer Coding).
use Rattle.std.specs.Prelude.{◌≡◌, ℕ, ◌^◌, ◌<◌, ◌≤◌, List, [], ◌∷◌, ◌++◌, length, drop}
use Rattle.std.specs.Char.{is_ascii_hexdigit}
use Rattle.std.specs.Str.Parse.{digits_value}
use Rattle.httparse.specs.Ascii.{carriage_return, semicolon}
use Rattle.httparse.specs.Grammar.{is_ows, is_extension_byte, AllPass, ChunkLine, IsChunkLine, print_chunk_line}
use Rattle.httparse.specs.Grammar.{print_extension, chunk_size, NeverHasChunkLine}
use Rattle.httparse.specs.Pieces.{Stops}
use Rattle.http_frames.specs.Chunks.{IsEmptyLine}
use Rattle.http_frames.specs.declared.lines.SizeLine.{SizeLine}
use Rattle.http_frames.specs.declared.lines.SizeLine.TheVariants as front
use Rattle.http_frames.specs.declared.lines.Grown.{Grown}
use Rattle.http_frames.specs.declared.lines.Grown.TheVariants as grown
use Rattle.http_frames.specs.declared.lines.SizeRead.{SizeRead}
use Rattle.http_frames.specs.declared.lines.SizeRead.TheVariants as read
use Rattle.http_frames.specs.declared.lines.TrailerLine.{TrailerLine}
use Rattle.http_frames.specs.declared.lines.TrailerLine.TheVariants as line

-- so many digits, no more than a size line may have, say this size
pub record AreDigits (digits : List ℕ) (count size : ℕ) : Type 0 where
  pub counted : length digits ≡ count
  pub few : count ≤ 16
  pub each : AllPass is_ascii_hexdigit digits
  pub size_is : size ≡ digits_value 16 digits
  pub fits : size < 16 ^ count

-- digits, one at least, that say this size, and blanks
pub record AreBlanks (digits blanks : List ℕ) (size : ℕ) : Type 0 where
  pub some : 0 < length digits
  pub few : length digits ≤ 16
  pub each : AllPass is_ascii_hexdigit digits
  pub size_is : size ≡ digits_value 16 digits
  pub blank : AllPass is_ows blanks

-- no digit stands at the front of the bytes
abbrev pub StopsDigits : List ℕ → Type 0
StopsDigits bytes = Stops is_ascii_hexdigit bytes

-- the bytes are digits that say this size, some blanks, a semicolon, and a text with no CR or LF
pub record AreExtended (bytes : List ℕ) (size : ℕ) : Type 0 where
  pub digits : List ℕ
  pub blanks : List ℕ
  pub text : List ℕ
  pub begins : AreBlanks digits blanks size
  pub extension : AllPass is_extension_byte text
  pub is : bytes ≡ digits ++ (blanks ++ semicolon ∷ text)

-- the bytes are a size line without its LF, and it says this size
pub record LacksFeed (bytes : List ℕ) (size : ℕ) : Type 0 where
  pub line : ChunkLine
  pub good : IsChunkLine line
  pub size_is : size ≡ chunk_size line
  pub is : bytes ≡ line.digits ++ (line.pad ++ (print_extension line.extension ++ carriage_return ∷ []))

-- the bytes are the front of a size line, by how far that has come
abbrev pub IsSizeFront : List ℕ → SizeLine → Type 0
IsSizeFront bytes (front.Digits count size) = AreDigits bytes count size
IsSizeFront bytes (front.Blanks size) = (digits blanks : List ℕ) × AreBlanks digits blanks size × (0 < length blanks)
    × (bytes ≡ digits ++ blanks)
IsSizeFront bytes (front.Extension size) = AreExtended bytes size
IsSizeFront bytes (front.Return size) = LacksFeed bytes size

-- the bytes are a size line, and it says this size
pub record IsSizeLine (bytes : List ℕ) (size : ℕ) : Type 0 where
  pub line : ChunkLine
  pub good : IsChunkLine line
  pub size_is : size ≡ chunk_size line
  pub is : bytes ≡ print_chunk_line line

-- what the bytes are, by the answer: the front of a size line, a whole one, or one of no size line
abbrev pub GrownIs : List ℕ → Grown → Type 0
GrownIs bytes (grown.Open front) = IsSizeFront bytes front
GrownIs bytes (grown.Whole size) = IsSizeLine bytes size
GrownIs bytes grown.Broken = NeverHasChunkLine bytes

-- what this front and then the bytes begin with, by the answer
abbrev pub SizeLineIs : List ℕ → List ℕ → SizeRead → Type 0
SizeLineIs front bytes (read.More longer) = IsSizeFront (front ++ bytes) longer
SizeLineIs front bytes (read.Whole len size) = (line : List ℕ) × IsSizeLine line size
    × (front ++ bytes ≡ line ++ drop len bytes) × (0 < len) × (len ≤ length bytes)
SizeLineIs front bytes read.Malformed = NeverHasChunkLine (front ++ bytes)

-- these bytes of a trailer's line are nothing, one CR, or neither
abbrev pub IsLineFront : List ℕ → TrailerLine → Type 0
IsLineFront bytes line.Nothing = bytes ≡ []
IsLineFront bytes line.Return = bytes ≡ carriage_return ∷ []
IsLineFront bytes line.Something = IsEmptyLine bytes → ⊥
