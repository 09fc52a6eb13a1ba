-- Requests of a connection's bytes, and what the bytes are where they begin with none.
use Rattle.std.specs.Prelude.{◌≡◌, ℕ, ◌<◌, ◌≤◌, List, [], ◌++◌, length, take}
use Rattle.httparse.specs.Grammar.{RequestHead, print_request, ReadsRequest, HasNoRequest, NeverHasRequest}
use Rattle.httparse.specs.Grammar.{EndsInTarget}
use Rattle.http_frames.specs.declared.TheConstants.{HEAD_BYTES, HEAD_FIELDS}
use Rattle.http_frames.specs.declared.framing.Frame.{Frame}
use Rattle.http_frames.specs.declared.framing.Frame.TheVariants.{NoBody, Sized, Chunked, TooLong, Broken}
use Rattle.http_frames.specs.Framing.{frame}
use Rattle.http_frames.specs.Chunks.{ReadsChunked, HasBadChunk, HasBigChunks}

-- a request: its head in the grammar of httparse, and its body
pub record Message : Type 0 where
  pub head : RequestHead
  pub body : List ℕ

-- the bytes behind a head of this framing are this body and then the rest (RFC 9112 6.3, Message Body Length)
abbrev pub HasBody : Frame → List ℕ → List ℕ → List ℕ → Type 0
HasBody NoBody bytes body rest = (body ≡ []) × (bytes ≡ rest)
HasBody (Sized n) bytes body rest = (length body ≡ n) × (bytes ≡ body ++ rest)
HasBody Chunked bytes body rest = ReadsChunked bytes body rest
HasBody TooLong bytes body rest = ⊥
HasBody Broken bytes body rest = ⊥

-- the bytes are this request and then the rest (RFC 9112 2.1, Message Format; limits: own rule)
pub record ReadsMessage (bytes : List ℕ) (m : Message) (rest : List ℕ) : Type 0 where
  pub tail : List ℕ
  pub reads : ReadsRequest bytes m.head tail
  pub short : length (print_request m.head) ≤ HEAD_BYTES
  pub few : length m.head.fields ≤ HEAD_FIELDS
  pub body : HasBody (frame m.head) tail m.body rest

-- the bytes begin with no whole request
abbrev pub HasNoMessage : List ℕ → Type 0
HasNoMessage bytes = (m : Message) (rest : List ℕ) → ReadsMessage bytes m rest → ⊥

-- the bytes pass a limit: of the head, of its fields, of the announced body, or of a chunked body (own rule)
pub data IsBig (bytes : List ℕ) : Type 0 where
  long_head : HEAD_BYTES < length bytes → HasNoRequest (take HEAD_BYTES bytes) → IsBig bytes
  many_fields : (h : RequestHead) (tail : List ℕ) → ReadsRequest bytes h tail → HEAD_FIELDS < length h.fields
      → IsBig bytes
  long_body : (h : RequestHead) (tail : List ℕ) → ReadsRequest bytes h tail → frame h ≡ TooLong → IsBig bytes
  big_chunks : (h : RequestHead) (tail : List ℕ) → ReadsRequest bytes h tail → frame h ≡ Chunked → HasBigChunks tail
      → IsBig bytes

-- the bytes break the grammar of heads or the framing (RFC 9112 3, 5, 6 and 7.1)
pub data IsBad (bytes : List ℕ) : Type 0 where
  no_head : NeverHasRequest bytes → IsBad bytes
  broken : (h : RequestHead) (tail : List ℕ) → ReadsRequest bytes h tail → frame h ≡ Broken → IsBad bytes
  bad_chunk : (h : RequestHead) (tail : List ℕ) → ReadsRequest bytes h tail → frame h ≡ Chunked → HasBadChunk tail
      → IsBad bytes

-- the shortest front of the bytes that is bad or big is bad alone: some front is bad, and none up to it is big
pub record BeginsBad (bytes : List ℕ) : Type 0 where
  pub front : List ℕ
  pub more : List ℕ
  pub is : bytes ≡ front ++ more
  pub bad : IsBad front
  pub first : (q r : List ℕ) → front ≡ q ++ r → IsBig q → ⊥

-- the shortest front of the bytes that is bad or big is big: some front is big, and no shorter one is bad
pub record BeginsBig (bytes : List ℕ) : Type 0 where
  pub front : List ℕ
  pub more : List ℕ
  pub is : bytes ≡ front ++ more
  pub big : IsBig front
  pub first : (q r : List ℕ) → front ≡ q ++ r → (r ≡ [] → ⊥) → IsBad q → ⊥

-- the bytes end inside a request: there are some, they begin with no whole request, and no front is bad or big
pub record IsCut (bytes : List ℕ) : Type 0 where
  pub some : bytes ≡ [] → ⊥
  pub not_whole : HasNoMessage bytes
  pub not_bad : (q r : List ℕ) → bytes ≡ q ++ r → IsBad q → ⊥
  pub not_big : (q r : List ℕ) → bytes ≡ q ++ r → IsBig q → ⊥

-- the bytes are no more than a head may have, and they stop in a request target, whose text is judged at its end (own
-- rule)
abbrev pub StopsInTarget : List ℕ → Type 0
StopsInTarget bytes = (length bytes ≤ HEAD_BYTES) × EndsInTarget bytes

-- more bytes than a head may have are there, and the last byte that it may have stands in a request target (own rule)
abbrev pub IsLongTarget : List ℕ → Type 0
IsLongTarget bytes = (HEAD_BYTES < length bytes) × EndsInTarget (take HEAD_BYTES bytes)
