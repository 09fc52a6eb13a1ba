-- What the readers of this crate answer.
use Rattle.std.specs.Prelude.{◌≡◌, ℕ, ◌≤◌, List, [], ◌∷◌, ◌++◌, length, drop}
use Rattle.httparse.specs.Spans.{span_bytes, IsWithin}
use Rattle.httparse.specs.Grammar.{ChunkLine, ReadsChunkLine, chunk_size}
use Rattle.http_frames.specs.declared.TheConstants.{BODY_BYTES}
use Rattle.http_frames.specs.Chunks.{Chunk, Chunks, content_of, HasNoLineFeed, Lines, ReadsChunks, HasBadChunk, HasMuch}
use Rattle.http_frames.specs.declared.framing.Values.{Values}
use Rattle.http_frames.specs.declared.framing.Values.TheVariants.{Absent, Once, Several}

-- the values that were found: none, one at this place, or several of which the first is at this place
abbrev pub HoldsValues : List ℕ → Values → List (List ℕ) → Type 0
HoldsValues buf Absent values = values ≡ []
HoldsValues buf (Once s) values = IsWithin (length buf) s × (values ≡ span_bytes buf s ∷ [])
HoldsValues buf (Several s) values = IsWithin (length buf) s
    × ((second : List ℕ) × (more : List (List ℕ)) × (values ≡ span_bytes buf s ∷ second ∷ more))

-- the chunks break off: the bytes are no whole chunked body, and no front of them is bad or has too much content,
-- where so much content was taken before
pub record ChunksCut (taken : ℕ) (bytes : List ℕ) : Type 0 where
  pub not_whole : (body rest : List ℕ) → ReadsChunks bytes body rest → ⊥
  pub not_bad : (q r : List ℕ) → bytes ≡ q ++ r → HasBadChunk q → ⊥
  pub not_much : (q r : List ℕ) → bytes ≡ q ++ r → HasMuch taken q → ⊥

-- some front of the bytes is bad, and none up to it has too much content
pub record ChunksBad (taken : ℕ) (bytes : List ℕ) : Type 0 where
  pub front : List ℕ
  pub more : List ℕ
  pub is : bytes ≡ front ++ more
  pub bad : HasBadChunk front
  pub first : (q r : List ℕ) → front ≡ q ++ r → HasMuch taken q → ⊥

-- some front of the bytes has too much content, and no shorter one is bad
pub record ChunksMuch (taken : ℕ) (bytes : List ℕ) : Type 0 where
  pub front : List ℕ
  pub more : List ℕ
  pub is : bytes ≡ front ++ more
  pub much : HasMuch taken front
  pub first : (q r : List ℕ) → front ≡ q ++ r → (r ≡ [] → ⊥) → HasBadChunk q → ⊥

-- The first `at` bytes are whole chunks with this content, within the limit, and then this part of what follows them.
pub record HasPassed (bytes : List ℕ) (at : ℕ) (body part : List ℕ) : Type 0 where
  pub within : at ≤ length bytes
  pub chunks : List Chunk
  pub passed : Chunks bytes chunks (part ++ drop at bytes)
  pub content : body ≡ content_of chunks
  pub fits : length body ≤ BODY_BYTES

-- The first `at` bytes are whole chunks with this content, within the limit, a size line that says 0, lines of a
-- trailer that aren't empty, and then this part of the next one.
pub record HasPassedLines (bytes : List ℕ) (at : ℕ) (body part : List ℕ) : Type 0 where
  pub within : at ≤ length bytes
  pub chunks : List Chunk
  pub left : List ℕ
  pub passed : Chunks bytes chunks left
  pub content : body ≡ content_of chunks
  pub fits : length body ≤ BODY_BYTES
  pub line : ChunkLine
  pub trailer : List ℕ
  pub last : ReadsChunkLine left line trailer
  pub zero : chunk_size line ≡ 0
  pub lines : List (List ℕ)
  pub through : Lines trailer lines (part ++ drop at bytes)
  pub unended : HasNoLineFeed part
