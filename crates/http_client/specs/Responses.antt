-- What the bytes of a connection are that carries one answer and ends behind it (RFC 9112 4 to 7, RFC 9110 15; the
-- limits, and that bytes behind the answer are a fault: own rule).
use Rattle.std.specs.Prelude.{◌≡◌, ◌⊎◌, ℕ, ◌<◌, ◌≤◌, ◌==◌, ◌||◌, ◌&&◌, Bool, true, false, List, [], ◌∷◌, length, take}
use Rattle.std.specs.Prelude.{map, nat_le, nat_lt, if◌then◌else◌, codes, Option, Some, None}
use Rattle.httparse.specs.Grammar.{ResponseHead, print_response, ReadsResponse, HasNoResponse, NeverHasResponse}
use Rattle.httparse.specs.Grammar.{MayBecomeResponse, status_code}
use Rattle.httparse.specs.Spans.{name_and_value}
use Rattle.http_frames.specs.declared.TheConstants.{HEAD_BYTES, HEAD_FIELDS, BODY_BYTES, CHUNKED_BYTES}
use Rattle.http_frames.specs.declared.framing.Frame.{Frame}
use Rattle.http_frames.specs.declared.framing.Frame.TheVariants.{NoBody, Sized, Chunked, TooLong, Broken}
use Rattle.http_frames.specs.Framing.{frame_of_fields, first_value, values_of}
use Rattle.http_frames.specs.Chunks.{ReadsChunks, ReadsChunked}
use Rattle.http_frames.specs.Answers.{ChunksCut, ChunksBad, ChunksMuch}
use Rattle.site_traits.specs.Answer.{Answer}
use Rattle.vnfm_base.specs.Text.{IsLine}

-- a whole answer, a part of one, bytes that break the grammar or the framing, or bytes that pass a limit
pub data AnswerState : Type 0 where
  whole : Answer → AnswerState
  cut : AnswerState
  bad : AnswerState
  big : AnswerState

-- ---- heads

-- an interim answer, behind which another follows (RFC 9110 15.2, Informational 1xx)
unfoldable pub is_interim : ℕ → Bool
is_interim status = nat_le 100 status && nat_lt status 200

-- an answer of this status has no body, whatever its fields say (RFC 9112 6.3; RFC 9110 15.3.5, 204 No Content, and
-- 15.4.5, 304 Not Modified)
unfoldable pub is_bodiless : ℕ → Bool
is_bodiless status = (status == 204) || (status == 304)

-- the name of each field and its value without blanks at its ends
abbrev pub response_fields : ResponseHead → List (List ℕ × List ℕ)
response_fields h = map name_and_value h.fields

-- the framing of the body of an answer with this status and these fields; `NoBody` is one that no field announces,
-- which goes on to the end of the connection (RFC 9112 6.3)
abbrev pub frame_behind : ℕ → List (List ℕ × List ℕ) → Frame
frame_behind status fields = if is_bodiless status then Sized 0 else frame_of_fields fields

-- the framing of the body of the answer with this head
abbrev pub response_frame : ResponseHead → Frame
response_frame h = frame_behind (status_code h) (response_fields h)

-- the bytes begin with this head, which is within the limits, and then go on like this
pub record BeginsHead (bytes : List ℕ) (h : ResponseHead) (tail : List ℕ) : Type 0 where
  pub reads : ReadsResponse bytes h tail
  pub short : length (print_response h) ≤ HEAD_BYTES
  pub few : length h.fields ≤ HEAD_FIELDS

-- the bytes are these heads of interim answers, one behind the other, and then what is left
abbrev pub Interims : List ℕ → List ResponseHead → List ℕ → Type 0
Interims bytes [] left = bytes ≡ left
Interims bytes (h ∷ hs) left = (is_interim (status_code h) ≡ true)
    × ((mid : List ℕ) × BeginsHead bytes h mid × Interims mid hs left)

-- more bytes than a head may have are there, and those that it may have are none, but can go on to one
pub record IsLongHead (bytes : List ℕ) : Type 0 where
  pub over : HEAD_BYTES < length bytes
  pub none : HasNoResponse (take HEAD_BYTES bytes)
  pub may : MayBecomeResponse (take HEAD_BYTES bytes)

-- the bytes that a head may have are one with too many fields
pub record HasManyFields (bytes : List ℕ) : Type 0 where
  pub head : ResponseHead
  pub tail : List ℕ
  pub reads : ReadsResponse (take HEAD_BYTES bytes) head tail
  pub many : HEAD_FIELDS < length head.fields

-- what bytes are that begin with no head within the limits
abbrev pub IsHeadless : List ℕ → AnswerState → Type 0
IsHeadless bytes (whole a) = ⊥
IsHeadless bytes cut = (length bytes ≤ HEAD_BYTES) × HasNoResponse bytes × MayBecomeResponse bytes
IsHeadless bytes bad = NeverHasResponse (take HEAD_BYTES bytes)
IsHeadless bytes big = IsLongHead bytes ⊎ HasManyFields bytes

-- ---- bodies

-- the bytes are a whole body of this framing with this content, where the connection has ended behind them or not
abbrev pub HoldsBody : Bool → Frame → List ℕ → List ℕ → Type 0
HoldsBody ended NoBody bytes body = (ended ≡ true) × (length bytes ≤ BODY_BYTES) × (body ≡ bytes)
HoldsBody ended (Sized n) bytes body = (length bytes ≡ n) × (body ≡ bytes)
HoldsBody ended Chunked bytes body = ReadsChunked bytes body []
HoldsBody ended TooLong bytes body = ⊥
HoldsBody ended Broken bytes body = ⊥

-- the bytes are a part of a body of this framing
abbrev pub CutsBody : Bool → Frame → List ℕ → Type 0
CutsBody ended NoBody bytes = (ended ≡ false) × (length bytes ≤ BODY_BYTES)
CutsBody ended (Sized n) bytes = length bytes < n
CutsBody ended Chunked bytes = (length bytes ≤ CHUNKED_BYTES) × ChunksCut 0 bytes
CutsBody ended TooLong bytes = ⊥
CutsBody ended Broken bytes = ⊥

-- a whole chunked body is there, and bytes behind it
pub record HasMoreBehind (bytes : List ℕ) : Type 0 where
  pub body : List ℕ
  pub rest : List ℕ
  pub reads : ReadsChunks (take CHUNKED_BYTES bytes) body rest
  pub fits : length body ≤ BODY_BYTES
  pub more : rest ≡ [] → CHUNKED_BYTES < length bytes

-- the bytes break this framing, or go on behind the body
abbrev pub BreaksBody : Frame → List ℕ → Type 0
BreaksBody NoBody bytes = ⊥
BreaksBody (Sized n) bytes = n < length bytes
BreaksBody Chunked bytes = ChunksBad 0 (take CHUNKED_BYTES bytes) ⊎ HasMoreBehind bytes
BreaksBody TooLong bytes = ⊥
BreaksBody Broken bytes = Unit {0}

-- the body, by its length or by the bytes that are there, passes a limit
abbrev pub PassesLimit : Frame → List ℕ → Type 0
PassesLimit NoBody bytes = BODY_BYTES < length bytes
PassesLimit (Sized n) bytes = ⊥
PassesLimit Chunked bytes = ChunksMuch 0 (take CHUNKED_BYTES bytes)
    ⊎ ((CHUNKED_BYTES < length bytes) × ChunksCut 0 (take CHUNKED_BYTES bytes))
PassesLimit TooLong bytes = Unit {0}
PassesLimit Broken bytes = ⊥

-- ---- answers

-- what is heard of the first Location: its value where that is a line
abbrev pub IsLocation : Option (List ℕ) → Option (List ℕ) → Type 0
IsLocation None location = location ≡ None
IsLocation (Some value) location = ((location ≡ Some value) × IsLine value) ⊎ ((location ≡ None) × (IsLine value → ⊥))

-- the answer has the status and the Location of this head (RFC 9110 10.2.2, Location)
pub record IsOf (h : ResponseHead) (a : Answer) : Type 0 where
  pub status : a.status ≡ status_code h
  pub location : IsLocation (first_value (values_of (codes "location") (response_fields h))) a.location

-- what the bytes behind this head are
abbrev pub IsBehind : Bool → ResponseHead → List ℕ → AnswerState → Type 0
IsBehind ended h bytes (whole a) = IsOf h a × HoldsBody ended (response_frame h) bytes a.body
IsBehind ended h bytes cut = CutsBody ended (response_frame h) bytes
IsBehind ended h bytes bad = BreaksBody (response_frame h) bytes
IsBehind ended h bytes big = PassesLimit (response_frame h) bytes

-- the bytes begin with the head of the last answer, and what is behind it is this
pub record HasLast (ended : Bool) (bytes : List ℕ) (v : AnswerState) : Type 0 where
  pub head : ResponseHead
  pub tail : List ℕ
  pub begins : BeginsHead bytes head tail
  pub last : is_interim (status_code head) ≡ false
  pub behind : IsBehind ended head tail v

-- what bytes are with no interim answer in front of them
abbrev pub IsLast : Bool → List ℕ → AnswerState → Type 0
IsLast ended bytes v = IsHeadless bytes v ⊎ HasLast ended bytes v

-- What all bytes of a connection so far are, where it has ended behind them or not: interim answers are passed over.
pub record AreAnswer (ended : Bool) (bytes : List ℕ) (v : AnswerState) : Type 0 where
  pub interims : List ResponseHead
  pub left : List ℕ
  pub passed : Interims bytes interims left
  pub last : IsLast ended left v

-- bytes are one thing alone, and a whole answer has one status, one Location and one body
abbrev pub AnswersAreOneWay : Type 0
AnswersAreOneWay = (ended : Bool) (bytes : List ℕ) (v w : AnswerState) → AreAnswer ended bytes v
    → AreAnswer ended bytes w → v ≡ w
