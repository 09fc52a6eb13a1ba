-- What a connection's bytes can begin with, and that it is one thing alone (own rule).
use Rattle.std.specs.Prelude.{◌≡◌, ℕ, ◌≤◌, List, [], length}
use Rattle.http_frames.specs.declared.TheConstants.{BODY_BYTES}
use Rattle.http_frames.specs.Chunks.{ReadsChunks}
use Rattle.http_frames.specs.Answers.{ChunksCut, ChunksBad, ChunksMuch}
use Rattle.http_frames.specs.Messages.{Message, ReadsMessage, BeginsBad, BeginsBig, IsCut}

-- a whole request, no byte at all, a part of a request, bytes that break it, or bytes that pass a limit
pub data Beginning : Type 0 where
  whole : Beginning
  none : Beginning
  cut : Beginning
  bad : Beginning
  big : Beginning

-- the bytes begin with this
abbrev pub BeginsWith : List ℕ → Beginning → Type 0
BeginsWith bytes whole = (m : Message) × (rest : List ℕ) × ReadsMessage bytes m rest
BeginsWith bytes none = bytes ≡ []
BeginsWith bytes cut = IsCut bytes
BeginsWith bytes bad = BeginsBad bytes
BeginsWith bytes big = BeginsBig bytes

-- bytes begin with one of these at most
abbrev pub BeginOneWay : Type 0
BeginOneWay = (bytes : List ℕ) (a b : Beginning) → BeginsWith bytes a → BeginsWith bytes b → a ≡ b

-- a whole chunked body with this content and the bytes behind it, a part of one, chunks that break the framing, or too
-- much content
pub data InChunks : Type 0 where
  whole : List ℕ → List ℕ → InChunks
  part : InChunks
  broken : InChunks
  much : InChunks

-- the bytes, as a chunked body, are this
abbrev pub AreInChunks : List ℕ → InChunks → Type 0
AreInChunks bytes (whole body rest) = ReadsChunks bytes body rest × (length body ≤ BODY_BYTES)
AreInChunks bytes part = ChunksCut 0 bytes
AreInChunks bytes broken = ChunksBad 0 bytes
AreInChunks bytes much = ChunksMuch 0 bytes

-- bytes are one of these at most, and have one content and one rest
abbrev pub ChunksAreOneWay : Type 0
ChunksAreOneWay = (bytes : List ℕ) (a b : InChunks) → AreInChunks bytes a → AreInChunks bytes b → a ≡ b
