-- What the bytes of a client begin with, as far as they came (own rules).
use Rattle.std.specs.Prelude.{◌≡◌, ◌≤◌, ◌⊎◌, ℕ, List, length, drop, Option, Some, None}
use Rattle.httparse.specs.Spans.{span_bytes}
use Rattle.http_frames.specs.Framing.{closes}
use Rattle.http_frames.specs.Heads.{HasHead, HasReadLines, frame_as}
use Rattle.http_frames.specs.Steps.{HasDecoded}
use Rattle.http_frames.specs.Messages.{Message, HasBody, ReadsMessage, BeginsBad, BeginsBig, IsLongTarget}
use Rattle.http_frames.specs.declared.chunks.Decoder.{Decoder}
use Rattle.http_frames.specs.declared.head.HeadParts.{HeadParts}
use Rattle.http_wire.specs.Intake.{NeedsMore}
use Rattle.http_wire.specs.Wire.{window}
use Rattle.request_pool.specs.declared.fronts.Place.{Place}
use Rattle.request_pool.specs.declared.fronts.Front.{Front}
use Rattle.request_pool.specs.declared.fronts.Front.TheVariants as front
use Rattle.request_pool.specs.declared.fronts.FrontReader.{FrontReader}

-- the bytes begin with a whole request, which ends there, and these are the parts of its head (RFC 9112 2.1, Message
-- Format)
pub record IsWholeAt (bytes : List ℕ) (p : Place) : Type 0 where
  pub head : HasHead bytes p.head
  pub message : Message
  pub reads : ReadsMessage bytes message (drop p.len bytes)
  pub body : HasBody (frame_as p.head.body) (drop p.head.len bytes) message.body (drop p.len bytes)
  pub within : p.len ≤ length bytes
  pub behind : p.head.len ≤ p.len
  pub method : span_bytes bytes p.head.method ≡ message.head.method
  pub target : span_bytes bytes p.head.target ≡ message.head.target
  pub closes : p.head.closes ≡ closes message.head

-- what the bytes begin with, by the answer
abbrev pub FrontIs : List ℕ → Front → Type 0
FrontIs bytes front.Part = NeedsMore bytes
FrontIs bytes (front.Whole p) = IsWholeAt bytes p
FrontIs bytes front.Malformed = BeginsBad bytes
FrontIs bytes front.TooLarge = BeginsBig bytes ⊎ IsLongTarget bytes

-- no head was found yet, or this one, and so much of a chunked body was passed
abbrev pub HasReadBody : List ℕ → Decoder → Option HeadParts → Type 0
HasReadBody bytes d None = (any : List ℕ) → HasDecoded any d
HasReadBody bytes d (Some p) = HasHead bytes p × HasDecoded (window bytes p) d

-- the reader has read these bytes as far as it says
pub record HasReadFront (bytes : List ℕ) (r : FrontReader) : Type 0 where
  pub lines : HasReadLines bytes r.lines
  pub body : HasReadBody bytes r.decoder r.head
