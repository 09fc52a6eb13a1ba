-- What a reader of answers has read, and what it answers.
use Rattle.std.specs.Prelude.{◌≡◌, ◌⊎◌, ◌∷◌, ℕ, ◌≤◌, ◌++◌, Bool, true, false, List, [], length, take, drop, option_map}
use Rattle.std.specs.Prelude.{IfSome, Option, Some, None, Result, Ok, Err, All, map, codes}
use Rattle.httparse.specs.declared.spans.HeaderSpan.{HeaderSpan}
use Rattle.httparse.specs.declared.spans.ResponseSpans.{ResponseSpans}
use Rattle.httparse.specs.Ascii.{line_feed}
use Rattle.httparse.specs.Grammar.{lf, ResponseHead, ReadsResponse, status_code}
use Rattle.httparse.specs.Spans.{span_bytes, IsWithin, IsHeaderWithin, header_bytes}
use Rattle.http_frames.specs.declared.TheConstants.{CHUNKED_BYTES}
use Rattle.http_frames.specs.declared.chunks.Decoder.{Decoder}
use Rattle.http_frames.specs.Framing.{first_value, values_of}
use Rattle.http_frames.specs.Heads.{frame_as}
use Rattle.http_frames.specs.Steps.{HasDecoded}
use Rattle.site_traits.specs.Answer.{Answer}
use Rattle.http_client.specs.declared.heads.AnswerParts.{AnswerParts}
use Rattle.http_client.specs.declared.heads.AnswerHead.{AnswerHead}
use Rattle.http_client.specs.declared.heads.AnswerHead.TheVariants as head
use Rattle.http_client.specs.declared.lines.LineReader.{LineReader}
use Rattle.http_client.specs.declared.responses.ResponseReader.{ResponseReader}
use Rattle.http_client.specs.declared.responses.ResponseFault.{ResponseFault}
use Rattle.http_client.specs.declared.responses.ResponseFault.TheVariants as fault
use Rattle.http_client.specs.Responses.{BeginsHead, Interims, is_interim, response_fields, response_frame, IsOf, IsLast}
use Rattle.http_client.specs.Responses.{AreAnswer, AnswerState, whole, cut, bad, big}

-- the bytes begin with the head of an answer within the limits, of a sound framing, that isn't interim, and these are
-- its parts
pub record HasAnswerHead (bytes : List ℕ) (p : AnswerParts) : Type 0 where
  pub head : ResponseHead
  pub begins : BeginsHead bytes head (drop p.len bytes)
  pub within : p.len ≤ length bytes
  pub last : is_interim (status_code head) ≡ false
  pub status : p.status ≡ status_code head
  pub body : frame_as p.body ≡ response_frame head
  pub location_within : IfSome p.location (IsWithin (length bytes))
  pub location : option_map (span_bytes bytes) p.location
      ≡ first_value (values_of (codes "location") (response_fields head))

-- the first bytes are the head of an interim answer within the limits
pub record HasInterimHead (bytes : List ℕ) (len : ℕ) : Type 0 where
  pub head : ResponseHead
  pub begins : BeginsHead bytes head (drop len bytes)
  pub within : len ≤ length bytes
  pub some : 1 ≤ len
  pub interim : is_interim (status_code head) ≡ true

-- the parser found a head at the front of the bytes, not too long and with not too many fields, and these are its
-- places
pub record HasResponseSpans (bytes : List ℕ) (fields : List HeaderSpan) (r : ResponseSpans) : Type 0 where
  pub head : ResponseHead
  pub begins : BeginsHead bytes head (drop r.len bytes)
  pub within : r.len ≤ length bytes
  pub some : 1 ≤ r.len
  pub status : r.code ≡ status_code head
  pub fields_within : All (IsHeaderWithin (length bytes)) fields
  pub fields_are : map (header_bytes bytes) fields ≡ response_fields head

-- what the bytes begin with, by the answer
abbrev pub AnswerHeadIs : List ℕ → AnswerHead → Type 0
AnswerHeadIs bytes (head.Whole p) = HasAnswerHead bytes p
AnswerHeadIs bytes (head.Interim len) = HasInterimHead bytes len
AnswerHeadIs bytes head.More = (ended : Bool) → IsLast ended bytes cut
AnswerHeadIs bytes head.Malformed = (ended : Bool) → IsLast ended bytes bad
AnswerHeadIs bytes head.TooLarge = (ended : Bool) → IsLast ended bytes big

-- the bytes are a status line, with empty lines in front of it, and whole fields: with an empty line behind them they
-- are a head
pub record AreWholeLines (bytes : List ℕ) : Type 0 where
  pub head : ResponseHead
  pub reads : ReadsResponse (bytes ++ line_feed ∷ []) head []
  pub last : head.last ≡ lf

-- the reader knows of no line, or of so many bytes at the front that they are whole lines
abbrev pub HasReadLines : List ℕ → LineReader → Type 0
HasReadLines bytes r = (r.passed ≤ length bytes) × ((r.passed ≡ 0) ⊎ AreWholeLines (take r.passed bytes))

-- the bytes behind the head, as far as a chunked body may go
abbrev pub chunk_window : List ℕ → AnswerParts → List ℕ
chunk_window bytes p = take CHUNKED_BYTES (drop p.len bytes)

-- the head is known or not, and of chunks so much was passed
abbrev pub HasReadLast : List ℕ → Option AnswerParts → Decoder → Type 0
HasReadLast bytes None d = (any : List ℕ) → HasDecoded any d
HasReadLast bytes (Some p) d = HasAnswerHead bytes p × HasDecoded (chunk_window bytes p) d

-- the reader has read these bytes: interim answers were passed, and then a head, and chunks
pub record HasRead (bytes : List ℕ) (r : ResponseReader) : Type 0 where
  pub within : r.passed ≤ length bytes
  pub interims : List ResponseHead
  pub passed : Interims bytes interims (drop r.passed bytes)
  pub last : HasReadLast (drop r.passed bytes) r.head r.decoder
  pub lines : HasReadLines (drop r.passed bytes) r.lines

-- what came of reading heads, by the answer
abbrev pub HeadCame : List ℕ → ResponseReader → Result (Option AnswerParts) ResponseFault → Type 0
HeadCame bytes r (Ok (Some p)) = r.head ≡ Some p
HeadCame bytes r (Ok None) = (ended : Bool) → AreAnswer ended bytes cut
HeadCame bytes r (Err fault.Malformed) = (ended : Bool) → AreAnswer ended bytes bad
HeadCame bytes r (Err fault.TooLarge) = (ended : Bool) → AreAnswer ended bytes big
HeadCame bytes r (Err fault.Memory) = ⊥

-- what was heard, by the answer: the status and the Location of the head that the bytes begin with, and this body
abbrev pub IsHeard : List ℕ → AnswerParts → List ℕ → Answer → Result Bool ResponseFault → Type 0
IsHeard bytes p body heard (Ok true) = (h : ResponseHead) → BeginsHead bytes h (drop p.len bytes)
    → IsOf h heard × (heard.body ≡ body)
IsHeard bytes p body heard (Ok false) = ⊥
IsHeard bytes p body heard (Err fault.Malformed) = ⊥
IsHeard bytes p body heard (Err fault.TooLarge) = ⊥
IsHeard bytes p body heard (Err fault.Memory) = Unit {0}

-- the reader has read a front of the bytes, or all of them
pub record HasReadFront (bytes : List ℕ) (r : ResponseReader) : Type 0 where
  pub front : List ℕ
  pub more : List ℕ
  pub is : bytes ≡ front ++ more
  pub read : HasRead front r

-- what the answer says that the bytes are, with what was heard: nothing where there was no memory
abbrev pub said_by : Answer → Result Bool ResponseFault → Option AnswerState
said_by heard (Ok true) = Some (whole heard)
said_by heard (Ok false) = Some cut
said_by heard (Err fault.Malformed) = Some bad
said_by heard (Err fault.TooLarge) = Some big
said_by heard (Err fault.Memory) = None

-- the same, where what was heard is the result
abbrev pub said_of : Result (Option Answer) ResponseFault → Option AnswerState
said_of (Ok (Some heard)) = Some (whole heard)
said_of (Ok None) = Some cut
said_of (Err fault.Malformed) = Some bad
said_of (Err fault.TooLarge) = Some big
said_of (Err fault.Memory) = None

-- Each answer comes exactly where the bytes are what it says: they are that, and whatever they are, the answer says
-- that, but where there was no memory (own rule).
pub record SaysWhatIs (ended : Bool) (bytes : List ℕ) (said : Option AnswerState) : Type 0 where
  pub is : IfSome said (AreAnswer ended bytes)
  pub exact : (v : AnswerState) → AreAnswer ended bytes v → IfSome said (λ w. w ≡ v)
