-- What a walk over a chunked body has passed and answers.
use Rattle.std.specs.Prelude.{ℕ, ◌+◌, ◌<◌, ◌≤◌, List, [], length, drop, Option, Some, None}
use Rattle.http_frames.specs.declared.TheConstants.{BODY_BYTES}
use Rattle.http_frames.specs.declared.chunks.Place.{Place}
use Rattle.http_frames.specs.declared.chunks.Place.TheVariants as place
use Rattle.http_frames.specs.declared.chunks.Decoded.{Decoded}
use Rattle.http_frames.specs.declared.chunks.Decoded.TheVariants as decoded
use Rattle.http_frames.specs.declared.chunks.Decoder.{Decoder}
use Rattle.http_frames.specs.Chunks.{ReadsChunks}
use Rattle.http_frames.specs.Lines.{IsSizeLine, IsSizeFront, IsLineFront}
use Rattle.http_frames.specs.Answers.{ChunksCut, ChunksBad, ChunksMuch, HasPassed, HasPassedLines}

-- chunks and then a size line were passed, which says this size, and that fits behind the content so far
pub record HasPassedSize (bytes : List ℕ) (at : ℕ) (body : List ℕ) (size : ℕ) : Type 0 where
  pub line : List ℕ
  pub passed : HasPassed bytes at body line
  pub is : IsSizeLine line size
  pub some : 0 < size
  pub room : length body + size ≤ BODY_BYTES

-- how far the bytes were passed, by what stands there: of the bytes below it nothing is needed but this
abbrev pub IsAt : List ℕ → ℕ → List ℕ → Place → Type 0
IsAt bytes at body (place.SizeLine line) = (front : List ℕ) × HasPassed bytes at body front × IsSizeFront front line
IsAt bytes at body (place.Content size) = HasPassedSize bytes at body size
IsAt bytes at body (place.Trailer line) = (front : List ℕ) × HasPassedLines bytes at body front × IsLineFront front line

-- the decoder has passed so much of these bytes and holds the content of that
abbrev pub HasDecoded : List ℕ → Decoder → Type 0
HasDecoded bytes d = IsAt bytes d.at d.body.items d.place

-- whole chunks stand at the front of the bytes, with more content than so much, and within the limit
abbrev pub HasMoreChunks : List ℕ → ℕ → Type 0
HasMoreChunks bytes taken = (at : ℕ) × (body : List ℕ) × HasPassed bytes at body [] × (taken < length body)

-- what the bytes are, by the answer, with this content where they are whole
abbrev pub DecodedIs : List ℕ → List ℕ → Decoded → Type 0
DecodedIs bytes body (decoded.Whole n) = ReadsChunks bytes body (drop n bytes) × (n ≤ length bytes)
    × (length body ≤ BODY_BYTES)
DecodedIs bytes body decoded.More = ChunksCut 0 bytes
DecodedIs bytes body decoded.Malformed = ChunksBad 0 bytes
DecodedIs bytes body decoded.TooLarge = ChunksMuch 0 bytes

-- what a step of the walk leaves: it stopped with a verdict, or it passed some bytes more
abbrev pub GoesOn : List ℕ → ℕ → Decoder → Option Decoded → Type 0
GoesOn bytes at d None = at < d.at
GoesOn bytes at d (Some v) = DecodedIs bytes d.body.items v
