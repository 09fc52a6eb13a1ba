-- Chunked bodies: chunks, a last chunk line and a trailer (RFC 9112 7.1, Chunked Transfer Coding; limits: own rule).
use Rattle.std.specs.Prelude.{◌≡◌, ℕ, ◌+◌, ◌<◌, ◌≤◌, ◌⊎◌, List, [], ◌∷◌, ◌++◌, length, take}
use Rattle.httparse.specs.Ascii.{crlf_bytes}
use Rattle.httparse.specs.Grammar.{ChunkLine, IsChunkLine, print_chunk_line, chunk_size, ReadsChunkLine}
use Rattle.httparse.specs.Grammar.{NeverHasChunkLine}
use Rattle.http_frames.specs.declared.TheConstants.{BODY_BYTES, CHUNKED_BYTES}

-- a chunk: its size line and its content
pub record Chunk : Type 0 where
  pub line : ChunkLine
  pub content : List ℕ

-- the bytes of a chunk: the size line, the content, and CR LF
unfoldable pub print_chunk : Chunk → List ℕ
print_chunk c = print_chunk_line c.line ++ (c.content ++ crlf_bytes)

-- the size line says the length of the content, and that isn't 0
pub record IsChunk (c : Chunk) : Type 0 where
  pub line : IsChunkLine c.line
  pub some : 0 < chunk_size c.line
  pub sized : length c.content ≡ chunk_size c.line

-- the bytes are these chunks and then what is left
abbrev pub Chunks : List ℕ → List Chunk → List ℕ → Type 0
Chunks bytes [] left = bytes ≡ left
Chunks bytes (c ∷ cs) left = IsChunk c × ((mid : List ℕ) × (bytes ≡ print_chunk c ++ mid) × Chunks mid cs left)

-- the contents of the chunks, one behind the other
abbrev pub content_of : List Chunk → List ℕ
content_of [] = []
content_of (c ∷ cs) = c.content ++ content_of cs

-- no byte is a line feed
abbrev pub HasNoLineFeed : List ℕ → Type 0
HasNoLineFeed [] = Unit {0}
HasNoLineFeed (b ∷ bytes) = (b ≡ 10 → ⊥) × HasNoLineFeed bytes

-- nothing, or one CR, stands before the line feed
abbrev pub IsEmptyLine : List ℕ → Type 0
IsEmptyLine line = (line ≡ []) ⊎ (line ≡ 13 ∷ [])

-- the bytes are lines that aren't empty, each ended by a line feed, and then what is left
abbrev pub Lines : List ℕ → List (List ℕ) → List ℕ → Type 0
Lines bytes [] left = bytes ≡ left
Lines bytes (line ∷ lines) left =
    HasNoLineFeed line × (IsEmptyLine line → ⊥) × ((mid : List ℕ) × (bytes ≡ line ++ 10 ∷ mid) × Lines mid lines left)

-- the bytes are a trailer, which is lines up to an empty one, and then the rest
pub record ReadsTrailer (bytes rest : List ℕ) : Type 0 where
  pub lines : List (List ℕ)
  pub left : List ℕ
  pub passed : Lines bytes lines left
  pub last : List ℕ
  pub is_empty : IsEmptyLine last
  pub ends : left ≡ last ++ 10 ∷ rest

-- the bytes are chunks with this content, a size line that says 0, a trailer, and the rest
pub record ReadsChunks (bytes body rest : List ℕ) : Type 0 where
  pub chunks : List Chunk
  pub left : List ℕ
  pub passed : Chunks bytes chunks left
  pub line : ChunkLine
  pub trailer : List ℕ
  pub last : ReadsChunkLine left line trailer
  pub zero : chunk_size line ≡ 0
  pub ends : ReadsTrailer trailer rest
  pub content : body ≡ content_of chunks

-- the same within the limits of the content and of all bytes of the framing
pub record ReadsChunked (bytes body rest : List ℕ) : Type 0 where
  pub reads : ReadsChunks bytes body rest
  pub fits : length body ≤ BODY_BYTES
  pub short : length bytes ≤ CHUNKED_BYTES + length rest

-- the bytes begin CR LF, as far as they go
abbrev pub BeginsCrLf : List ℕ → Type 0
BeginsCrLf [] = Unit {0}
BeginsCrLf (a ∷ []) = a ≡ 13
BeginsCrLf (a ∷ b ∷ bytes) = (a ≡ 13) × (b ≡ 10)

-- the bytes can't begin a chunk: no size line can stand there, or the content isn't followed by CR LF
pub data IsBadChunk (bytes : List ℕ) : Type 0 where
  no_line : NeverHasChunkLine bytes → IsBadChunk bytes
  no_end : (line : ChunkLine) (content after : List ℕ) → ReadsChunkLine bytes line (content ++ after)
      → 0 < chunk_size line → length content ≡ chunk_size line → (BeginsCrLf after → ⊥) → IsBadChunk bytes

-- behind some chunks the bytes can't begin another
pub record HasBadChunk (bytes : List ℕ) : Type 0 where
  pub chunks : List Chunk
  pub left : List ℕ
  pub passed : Chunks bytes chunks left
  pub bad : IsBadChunk left

-- behind some chunks a size line says more than the limit allows, where so much was taken before
pub record HasMuch (taken : ℕ) (bytes : List ℕ) : Type 0 where
  pub chunks : List Chunk
  pub left : List ℕ
  pub passed : Chunks bytes chunks left
  pub line : ChunkLine
  pub more : List ℕ
  pub reads : ReadsChunkLine left line more
  pub over : BODY_BYTES < taken + length (content_of chunks) + chunk_size line

-- a limit of chunked bodies is passed: that of the content, or that of all bytes of the framing
pub data HasBigChunks (bytes : List ℕ) : Type 0 where
  much : HasMuch 0 bytes → HasBigChunks bytes
  long : CHUNKED_BYTES < length bytes
      → ((body rest : List ℕ) → ReadsChunks (take CHUNKED_BYTES bytes) body rest → ⊥) → HasBigChunks bytes
